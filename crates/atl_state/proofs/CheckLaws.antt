-- Laws of checking: rows that keep all rules are those of a good campaign; else one rule is the first that is broken.
-- f is the format of the tables, w the world, p the rows, and `campaign_of w p` the campaign assembled from them.
-- `KeepsRulesBelow f w p n` says that the rows keep each rule whose number is below n, and `IsWorld w` that the world
-- keeps the rules of worlds; laws on all rules suppose it.
use Rattle.std.proofs.Common.{◌≡◌, ◌==◌, ℕ, ◌≤◌, ◌<◌, ◌+◌, ◌&&◌, List, [], ◌∷◌, length, nat_le, nat_lt, Bool, true, false, cond, refl, sym, ap, subst, ◌∙◌, arith, inl, inr}
use Rattle.std.specs.Prelude.{pos, unwrap_or, Some, None}
use Rattle.std.specs.Bool.{Decides}
use Rattle.std.proofs.lemmas.Bool.{and_parts, cases_eq, false≢true}
use Rattle.std.specs.FinMap.{empty, get}
use Rattle.atl_world.specs.declared.format.Format.{Format}
use Rattle.atl_world.specs.declared.format.Format.TheVariants.{First, Second}
use Rattle.atl_world.specs.Worlds.{WorldValue, IsWorld}
use Rattle.atl_state.specs.declared.checking.Rule.{Rule}
use Rattle.atl_state.specs.declared.checking.Rule.TheVariants.{OneRow, Ranges, Names, Known, Next, Days, Gone, Owners, Water, Guards, Books, Mail}
use Rattle.atl_rows.specs.declared.parts.Parts.{Parts}
use Rattle.atl_records.specs.declared.books.BooksEntry.{BooksEntry}
use Rattle.atl_records.specs.declared.books.Thing.{Thing}
use Rattle.atl_rows.specs.declared.parts.StoredBooks.{StoredBooks}
use Rattle.atl_rows.specs.declared.parts.StoredCampaignRow.{StoredCampaignRow}
use Rattle.atl_state.specs.Checking.{rule_number, KeepsRule, KeepsRulesBelow, IsFirstBroken, Fits}
use Rattle.std.specs.List.{list_all, AllByRecursion}
use Rattle.atl_records.specs.Books.{BooksValue, amount_in, AreBooks, entry_index, no_amounts}
use Rattle.atl_campaign.specs.Founding.{thing_count}
use Rattle.atl_campaign.specs.FromRows.{as_u32, stocks_of, region_of, with_books_rows, campaign_row_of, campaign_of}
use Rattle.atl_world.specs.Every.{Every, HasValue}
use Rattle.atl_campaign.specs.Good.{AreOfMarkets, HasNoStocks, IsGood}
use Rattle.atl_campaign.specs.RowRules.{is_one_campaign_row, is_entry_in, is_booked, campaign_row_in_range, first_tables_in_range, region_in_range, structure_in_range, books_in_range, books_bound, market_in_range}
use Rattle.atl_campaign.specs.Totals.{IsCountable}
use Rattle.atl_records.specs.Limits.{first_entry_count}
use Rattle.atl_campaign.specs.Rows.{books_rows, AreRowsOf}
use Rattle.atl_state.proofs.BackBooksLaws.{line_at}
use Rattle.atl_campaign.proofs.ReadBackLaws.{each_back, written_is_read}
use Rattle.atl_records.proofs.EveryEntryLaws.{entry_small}
use Rattle.atl_campaign.proofs.FromRowLaws.{by_number-every, from_le, AreInRange-said, HaveMen-said}
use Rattle.atl_state.proofs.NamedLaws.{AreNamed-said, AreAmountsWithin-said}
use Rattle.atl_campaign.proofs.MapOfRowsLaws.{each_passes}
use Rattle.atl_state.proofs.SaidLaws.{RowsKeep, ranges, none_in_first, books_said, rows_said}

-- the rule with a number from 1 to 12; the last rule for any other number
abbrev rule_at : ℕ → Rule
rule_at n =
    cond (n == 1) OneRow (cond (n == 2) Ranges (cond (n == 3) Names (cond (n == 4) Known (cond (n == 5) Next (cond (n == 6) Days (cond (n == 7) Gone (cond (n == 8) Owners (cond (n == 9) Water (cond (n == 10) Guards (cond (n == 11) Books Mail))))))))))

its_rule : (r : Rule) → rule_at (rule_number r) ≡ r
its_rule OneRow = refl
its_rule _ = refl

same_rule : (r s : Rule) → rule_number r ≡ rule_number s → r ≡ s
same_rule r s e = sym (its_rule r) ∙ ap rule_at e ∙ its_rule s

rule_number_is_positive : (r : Rule) → 1 ≤ rule_number r
rule_number_is_positive OneRow = omega arith
rule_number_is_positive _ = omega arith

only_one : (f : Format) (rows : List StoredCampaignRow) → is_one_campaign_row f rows ≡ true → length rows ≡ 1
only_one f [] h = absurd (false≢true h)
only_one f (r ∷ []) h = refl
only_one f (r ∷ other ∷ rows) h = absurd (false≢true h)

later_entry : (n : ℕ) → first_entry_count ≤ n → n < 16 → is_entry_in First (as_u32 (pos (n + 1))) ≡ true → ⊥
later_entry n l small h =
    let read = written_is_read (n + 1) (omega arith) in
    let most = from_le (as_u32 (pos (n + 1))) first_entry_count (and_parts (nat_le 1 (as_u32 (pos (n + 1)))) (nat_le (as_u32 (pos (n + 1))) first_entry_count) h).1 in
    absurd (omega (arith, read, most))

no_amount : (books : BooksValue)
    → AllByRecursion (λ (r : StoredBooks). is_entry_in First (as_u32 r.entry) ≡ true) (books_rows books)
    → (e : BooksEntry) (t : Thing) → first_entry_count ≤ entry_index e → amount_in books e t ≡ pos 0
no_amount books listed e t l =
    elim (get books.amounts (e, t)) as (λ o. get books.amounts (e, t) ≡ o → unwrap_or o (pos 0) ≡ pos 0) [
      | None ↦ λ _. refl
      | Some z ↦ λ is. absurd (later_entry (entry_index e) l (entry_small e) (line_at books (λ r. is_entry_in First (as_u32 r.entry) ≡ true) listed e t z is))
    ] refl

module _ (f : Format) (w : WorldValue) (p : Parts) where
  -- there is no rule below rule 1, so any rows keep all of them
  pub below_first : KeepsRulesBelow f w p 1
  below_first r h = absurd (omega (arith, rule_number_is_positive r))

  -- rows that keep the rules before rule r, and r, keep the rules before the next one
  pub below_next : (r : Rule) → KeepsRulesBelow f w p (rule_number r) → KeepsRule f w p r
      → KeepsRulesBelow f w p (rule_number r + 1)
  below_next r before holds s h =
      elim (cases_eq (rule_number s) (rule_number r)) [
        | inl e ↦ subst (KeepsRule f w p) (sym (same_rule s r e)) holds
        | inr apart ↦ before s (omega arith)
      ]

  -- rule r is the first that is broken, if the rows keep the rules before it, and a test that decides r fails
  pub first_broken : (r : Rule) (b : Bool) → KeepsRulesBelow f w p (rule_number r) → Decides b (KeepsRule f w p r)
      → b ≡ false → IsFirstBroken f w p r
  first_broken r b before d e = record { before = before; broken = λ holds. false≢true (sym e ∙ d.1 holds) }

  -- if the world keeps the rules of worlds, and rows keep rules 1 to 11, they have what is needed to be exactly the
  -- rows of the campaign read from them (`RowsKeep`)
  pub rows_keep : IsWorld w → KeepsRulesBelow f w p 12 → RowsKeep f w p
  rows_keep world k = record {
    world = world;
    one = (k OneRow (omega arith)).0;
    format = (k OneRow (omega arith)).1;
    range = k Ranges (omega arith);
    known = (k Known (omega arith)).0;
    held = (k Known (omega arith)).1;
    stocked = (k Known (omega arith)).2;
    days = k Days (omega arith);
    booked = (k Books (omega arith)).0;
  }

  fewer : KeepsRulesBelow f w p 13 → KeepsRulesBelow f w p 12
  fewer k r h = k r (omega arith)

  -- rows that keep all rules are exactly those of the campaign assembled from them
  pub checked-rows : IsWorld w → KeepsRulesBelow f w p 13 → AreRowsOf f (campaign_of w p) p
  checked-rows world k = rows_said f w p (rows_keep world (fewer k))

  no_stocks : f ≡ First → RowsKeep f w p → HasNoStocks (campaign_of w p)
  unfolding campaign_of
  no_stocks is rows =
      by_number-every (λ r. as_u32 r.number) (region_of p.markets) (λ n r. r.stocks ≡ empty) region_in_range (λ r good. ap (stocks_of (as_u32 r.number)) (none_in_first f w p rows is)) p.regions (ranges f w p rows).regions

  first_entries : f ≡ First → RowsKeep f w p → (e : BooksEntry) (t : Thing) → first_entry_count ≤ entry_index e
      → amount_in (campaign_of w p).books e t ≡ pos 0
  unfolding campaign_of
  first_entries is rows =
      no_amount (with_books_rows p.books (no_amounts (thing_count w))) (each_back (λ r. is_entry_in First (as_u32 r.entry) ≡ true) (books_rows (with_books_rows p.books (no_amounts (thing_count w)))) p.books (books_said f w p rows)
      (each_passes (is_booked f w) (λ r. is_entry_in First (as_u32 r.entry) ≡ true) (λ r h. subst (λ g. is_entry_in g (as_u32 r.entry) ≡ true) is (and_parts (is_entry_in f (as_u32 r.entry)) (nat_lt (as_u32 r.thing) (thing_count w)) h).0) p.books rows.booked))

  -- the campaign assembled from rows that keep all rules is one that the format can hold (Fits)
  pub checked-fits : IsWorld w → KeepsRulesBelow f w p 13 → Fits f (campaign_of w p)
  checked-fits world k =
      let rows = rows_keep world (fewer k) in
      elim f as (λ g. f ≡ g → Fits g (campaign_of w p)) [ First ↦ λ is. record { stocks = no_stocks is rows; entries = first_entries is rows } | Second ↦ λ is. tt ] refl

  -- the campaign assembled from rows that keep all rules is good
  pub checked-good : IsWorld w → KeepsRulesBelow f w p 13 → IsGood w (campaign_of w p)
  checked-good world k =
      let rows = rows_keep world (fewer k) in
      let range = k Ranges (omega arith) in
      record {
        sound = record {
          steady = record {
            numbers = AreInRange-said w p range;
            names = AreNamed-said f w p rows (k Names (omega arith));
            known = (k Known (omega arith)).0;
            next = k Next (omega arith);
            days = k Days (omega arith);
            gone = (k Gone (omega arith)).0;
            owners = k Owners (omega arith);
            water = k Water (omega arith);
            guarded = k Guards (omega arith);
          };
          men = HaveMen-said w p range;
          amounts = AreAmountsWithin-said f w p rows;
          gone = (k Gone (omega arith)).1;
          balances = (k Books (omega arith)).1;
          mail = (k Mail (omega arith)).0;
        };
        reported = (k Mail (omega arith)).1;
      }

  -- if rows keep rules 1 to 10, their campaign has at most 1,000,000 units and regions together (IsCountable)
  pub countable-said : KeepsRulesBelow f w p 11 → IsCountable (campaign_of w p)
  countable-said k = let range = AreInRange-said w p (k Ranges (omega arith)) in omega (arith, range.few_units, range.few_regions)

  -- if rows keep rules 1 to 10, their books have the world's things, and list only amounts of these that aren't 0
  pub books-said : KeepsRulesBelow f w p 11 → AreBooks (thing_count w) (campaign_of w p).books
  books-said k = (AreInRange-said w p (k Ranges (omega arith))).books

  -- if rows keep rules 1 to 10, the units read from them list only items that the world has
  pub items-said : KeepsRulesBelow f w p 11
      → Every (λ n u. Every (λ i amount. i < length w.items) u.holding.items) (campaign_of w p).units
  items-said k n u is = ((k Known (omega arith)).0.units n u is).items

  -- if rows keep rules 1 to 10, the regions read from them list stocks only of items with a market there in the world
  pub stocks-said : KeepsRulesBelow f w p 11 → Every (λ n r. AreOfMarkets w n r.stocks) (campaign_of w p).regions
  stocks-said k = (k Known (omega arith)).0.markets

  -- if rows keep rules 1 to 7, each unit read from them is in a region that exists
  pub places-said : KeepsRulesBelow f w p 8
      → Every (λ n u. HasValue (campaign_of w p).regions u.region) (campaign_of w p).units
  places-said k n u is = ((k Known (omega arith)).0.units n u is).region

  -- rows that keep rules 1 to 3 have exactly one campaign row
  pub one-said : KeepsRulesBelow f w p 4 → length p.campaign ≡ 1
  one-said k = only_one f p.campaign (k OneRow (omega arith)).0

  -- if rows keep rules 1 to 3, those of the tables `faction`, `region`, `unit` and `has` are in their ranges
  pub people-said : KeepsRulesBelow f w p 4 → first_tables_in_range p ≡ true
  people-said k =
      let head = campaign_row_in_range (campaign_row_of p) in
      let people = first_tables_in_range p in
      let structures = list_all (structure_in_range w) p.structures in
      let books = list_all (books_in_range (books_bound p)) p.books in
      let whole = and_parts (((head && people) && structures) && books) (list_all (market_in_range w) p.markets) (k Ranges (omega arith)).numbers in
      let last = and_parts ((head && people) && structures) books whole.0 in
      (and_parts head people (and_parts (head && people) structures last.0).0).1
