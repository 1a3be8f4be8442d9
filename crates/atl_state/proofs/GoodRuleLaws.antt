-- Laws of checking a good campaign: its rows, in any order, keep all rules.
-- c is a good campaign of the world w that the format f can hold, and p are its rows. In `gives_back`, p are any rows.
-- w keeps the rules of worlds (IsWorld).
use Rattle.std.proofs.Common.{◌≡◌, ◌≢◌, ℕ, zero, suc, ◌≤◌, ◌<◌, ◌+◌, ◌*◌, ◌&&◌, List, [], ◌∷◌, Bool, true, false, length, Some, nat_le, nat_lt, refl, sym, ap, subst, ◌∙◌, arith, inl, inr}
use Rattle.std.specs.Prelude.{ℤ, pos, negsuc, is_some, Result, Ok, Err}
use Rattle.std.specs.List.{list_all, AllByRecursion, IsDistinct}
use Rattle.std.specs.List.Sorted.{IsPermutation}
use Rattle.std.specs.Ordering.{nat_cmp, eq_by_cmp}
use Rattle.std.specs.Cmp.{eq_by_cmp_equiv}
use Rattle.std.specs.Cmp.Lexicographic.{slice_cmp, nat_list_cmp_total}
use Rattle.std.specs.FinMap.{get, entries, len}
use Rattle.std.proofs.lemmas.Bool.{cases_lt, not_from_false, lt-ltb}
use Rattle.std.proofs.lemmas.Bool.Decides.{nat_tests}
use Rattle.std.proofs.lemmas.Int.{ints}
use Rattle.std.proofs.lemmas.Map.Keys.{IsDistinct-IsPermutation}
use Rattle.std.proofs.lemmas.Map.Text.{is_eq-slice_cmp}
use Rattle.std.proofs.lemmas.Slice.Eq.{bytes_eq-Decides}
use Rattle.atl_world.specs.Limits.{most_amount, most_regions}
use Rattle.atl_world.specs.Names.{name_ok, pass_ok}
use Rattle.atl_world.specs.Worlds.{WorldValue, IsWorld}
use Rattle.atl_world.specs.ByNumber.{market_of, size_of}
use Rattle.atl_world.specs.declared.format.Format.{Format}
use Rattle.atl_world.specs.declared.format.Format.TheVariants.{First, Second}
use Rattle.atl_words.specs.Limits.{last_faction}
use Rattle.atl_state.specs.declared.checking.CheckFault.{CheckFault}
use Rattle.atl_state.specs.declared.checking.CheckFault.TheVariants.{Damaged, Memory}
use Rattle.atl_state.specs.declared.checking.Rule.{Rule}
use Rattle.atl_state.specs.declared.checking.Rule.TheVariants.{OneRow, Ranges, Names, Known, Next, Days, Gone, Owners, Water, Guards, Books, Mail}
use Rattle.atl_rows.specs.declared.parts.Parts.{Parts}
use Rattle.atl_rows.specs.declared.parts.StoredCampaignRow.{StoredCampaignRow}
use Rattle.atl_rows.specs.declared.parts.StoredFaction.{StoredFaction}
use Rattle.atl_records.specs.declared.records.Faction.{Faction}
use Rattle.atl_records.specs.Books.{amount_in, entry_index, thing_index, IsWithin}
use Rattle.atl_state.specs.Checking.{KeepsRule, IsWithoutMarkets, Fits, Checks, GivesBack}
use Rattle.atl_world.specs.Every.{EachEntry}
use Rattle.atl_state.specs.Deciding.{JoinedNamesDiffer}
use Rattle.atl_campaign.specs.Founding.{thing_count}
use Rattle.atl_campaign.specs.FromRows.{as_u32, faction_of, region_of, structure_of, unit_of, campaign_row_of, campaign_of}
use Rattle.atl_campaign.specs.Good.{AreKnown, AreNumbered, AreDays, GoneHaveNone, UnitlessAreGone, AreOwned, AreAfloat, AreOfOneFaction, guards, HasValidMail, AreReported, amount_bound, IsGood}
use Rattle.atl_records.specs.Limits.{entry_count, first_entry_count, entries_in, holding_limit, last_month, last_unit, most_in_joining, most_in_month, most_structures, most_units}
use Rattle.atl_campaign.specs.RowRules.{is_from, is_one_campaign_row, are_of_format, is_within, campaign_row_in_range, faction_in_range, region_in_range, unit_in_range, has_in_range, structure_in_range, books_in_range, books_bound, market_in_range, are_few, HaveDistinctKeysByTable, AreRowsInRange, faction_named, AreRowsNamed, is_of_unit, is_of_market, is_entry_in, is_booked}
use Rattle.atl_campaign.specs.Rows.{rows_by, campaign_row, faction_row, region_row, unit_row, structure_row, mail_row, report_row, has_row, has_rows, books_rows, market_rows, is_zero, AreRowsOf}
use Rattle.atl_campaign.specs.Stocks.{stock_limit}
use Rattle.atl_campaign.specs.Campaign.{CampaignValue, MarkedCampaign}
use Rattle.atl_campaign.specs.Totals.{Balances}
use Rattle.atl_records.specs.declared.books.BooksEntry.{BooksEntry}
use Rattle.atl_records.specs.declared.books.Thing.{Thing}
use Rattle.atl_records.proofs.BookLaws.{nonzero_fails_is_zero}
use Rattle.atl_records.proofs.EveryEntryLaws.{entry_small}
use Rattle.atl_campaign.proofs.ColumnLaws.{flag_in_range, from_true, written_in_range}
use Rattle.atl_rows.specs.UnitColumns.{unit_columns}
use Rattle.atl_campaign.specs.UnitRows.{unit_values}
use Rattle.atl_campaign.proofs.ReadBackLaws.{each_permuted, all_pass, written_is_read, rows_pass, count_rows}
use Rattle.atl_state.proofs.BackBooksLaws.{listed_amount_is_amount_in, lines_each, books_keys}
use Rattle.atl_state.proofs.BackHasLaws.{has_each, has_keys, goods_of}
use Rattle.atl_state.proofs.DifferLaws.{entries_differ}
use Rattle.atl_state.proofs.GoodRowLaws as row
use Rattle.atl_world.proofs.KeyLaws.{IsDistinct-map}

and_true : (a b : Bool) → a ≡ true → b ≡ true → (a && b) ≡ true
and_true a b h k = ap (λ x. x && b) h ∙ k

le_true : (m n : ℕ) → m ≤ n → nat_le m n ≡ true
le_true m n h = grind (arith, nat_tests)

within_true : (bound : ℕ) (z : ℤ) → IsWithin bound z → is_within bound z ≡ true
within_true bound (pos n) h = let most : n ≤ bound = omega (arith, ints, h.most) in le_true n bound most
within_true bound (negsuc n) h = let most : suc n ≤ bound = omega (arith, ints, h.least) in le_true (suc n) bound most

-- ---- names that differ

abbrev same_text : List ℕ → List ℕ → Bool
same_text a b = eq_by_cmp (slice_cmp nat_cmp) a b

text_apart : (a b : List ℕ) → a ≢ b → same_text a b ≡ false
text_apart a b h =
    elim (same_text a b) as (λ t. same_text a b ≡ t → same_text a b ≡ false)
    [ true ↦ λ e. absurd (h ((bytes_eq-Decides a b).0 (sym (is_eq-slice_cmp a b) ∙ e))) | false ↦ λ e. e ] refl

others_named : (f : Faction) (es : List (ℕ × Faction)) → EachEntry (λ n g. f.joined_as ≢ g.joined_as) es
    → AllByRecursion (λ (r : StoredFaction). same_text f.joined_as r.joined_as ≡ false) (rows_by faction_row es)
others_named f [] h = tt
others_named f (e ∷ es) h = (text_apart f.joined_as e.1.joined_as h.0, others_named f es h.1)

named_apart : (es : List (ℕ × Faction)) → JoinedNamesDiffer es
    → IsDistinct (λ (a b : StoredFaction). same_text a.joined_as b.joined_as) (rows_by faction_row es)
unfolding IsDistinct
named_apart [] h = tt
named_apart (e ∷ es) h = (others_named e.1 es h.0, named_apart es h.1)

text_symm : (a b : List ℕ) → same_text a b ≡ same_text b a
text_symm = (eq_by_cmp_equiv nat_list_cmp_total).symm

head_true : (f : Format) (c : CampaignValue) → is_one_campaign_row f (campaign_row f c ∷ []) ≡ true
head_true First c = refl
head_true Second c = refl

module _ (f : Format) (w : WorldValue) (world : IsWorld w) (c : CampaignValue) (good : IsGood w c) (fits : Fits f c) (p : Parts) (rows : AreRowsOf f c p) where
  back : campaign_of w p ≡ c
  back = row.state_back w world c good f fits p rows

  one_row : is_one_campaign_row f p.campaign ≡ true
  one_row = ap (is_one_campaign_row f) (row.its_head w world c good f fits p rows) ∙ head_true f c

  of_format : are_of_format f p.markets ≡ true
  of_format =
      elim f as (λ g. IsPermutation (market_rows g (entries c.regions)) p.markets → are_of_format g p.markets ≡ true) [
        | First ↦ λ listed. ap (are_of_format First) (row.none_listed p.markets listed)
        | Second ↦ λ listed. refl
      ] (row.markets_listed w world c good f fits p rows)

  -- ---- ranges

  keys : HaveDistinctKeysByTable p
  keys = record {
    factions = row.table_keys faction_row (λ r. r.number) faction_of (λ n f. refl) c.factions (row.factions_whole w world c good f fits p rows) p.factions (row.factions_listed w world c good f fits p rows);
    regions = row.table_keys region_row (λ r. r.number) (region_of p.markets) (λ n r. refl) c.regions (row.regions_whole w world c good f fits p rows) p.regions (row.regions_listed w world c good f fits p rows);
    units = row.table_keys unit_row (λ r. r.number) (unit_of p.has) (λ n u. refl) c.units (row.had w world c good).numbers p.units (row.units_listed w world c good f fits p rows);
    has = has_keys c.units (row.had w world c good) p.has (row.has_listed w world c good f fits p rows);
    structures = row.table_keys structure_row (λ r. r.number) structure_of (λ n s. refl) c.structures (row.structures_whole w world c good f fits p rows) p.structures (row.structures_listed w world c good f fits p rows);
    mail = row.table_keys mail_row (λ r. r.faction) (λ r. r.text) (λ n text. refl) c.mail (row.mail_whole w world c good f fits p rows) p.mail (row.mail_listed w world c good f fits p rows);
    reports = row.table_keys report_row (λ r. r.faction) (λ r. r.text) (λ n text. refl) c.reports (row.reports_whole w world c good f fits p rows) p.reports (row.reports_listed w world c good f fits p rows);
    books = books_keys (thing_count w) (row.few_things w world c good f fits p rows) c.books good.sound.steady.numbers.books p.books (row.books_listed w world c good f fits p rows);
    markets = row.markets_keyed w world c good f fits p rows;
  }

  faction_count : length p.factions ≡ len c.factions
  faction_count = count_rows faction_row c.factions p.factions (row.factions_listed w world c good f fits p rows)

  fewer : (m n most : ℕ) → m ≡ n → n ≤ most → nat_le m most ≡ true
  fewer m n most e h = le_true m most (omega (arith, e, h))

  few : are_few p ≡ true
  few =
      let factions = fewer (length p.factions) (len c.factions) last_faction faction_count good.sound.steady.numbers.few_factions in
      let regions = fewer (length p.regions) (len c.regions) most_regions (count_rows region_row c.regions p.regions (row.regions_listed w world c good f fits p rows)) good.sound.steady.numbers.few_regions in
      let units = fewer (length p.units) (len c.units) most_units (count_rows unit_row c.units p.units (row.units_listed w world c good f fits p rows)) good.sound.steady.numbers.few_units in
      let structures = fewer (length p.structures) (len c.structures) most_structures (count_rows structure_row c.structures p.structures (row.structures_listed w world c good f fits p rows)) good.sound.steady.numbers.few_structures in
      and_true _ _ (and_true _ _ (and_true _ _ factions regions) units) structures

  at_least_one : (n m : ℕ) → n ≡ m + 1 → 1 ≤ n
  at_least_one n m e = omega (arith, e)

  none_less : (n : ℕ) → 0 ≤ n
  none_less n = omega arith

  head_ranges : campaign_row_in_range (campaign_row_of p) ≡ true
  head_ranges =
      ap campaign_row_in_range (row.head_said w world c good f fits p rows)
      ∙ and_true _ _ (and_true _ _ (and_true _ _ (from_true 0 last_month c.month (none_less c.month) good.sound.steady.numbers.month)
      (from_true 1 (last_faction + 1) c.next_faction (at_least_one c.next_faction (len c.factions) good.sound.steady.next.factions.count) (row.faction_next w world c good f fits p rows)))
      (from_true 1 (last_unit + 1) c.next_unit good.sound.steady.numbers.next_unit_least good.sound.steady.numbers.next_unit_most))
      (from_true 1 (most_structures + 1) c.next_structure (at_least_one c.next_structure (len c.structures) good.sound.steady.next.structures.count) (row.structure_next w world c good f fits p rows))

  faction_ranges : list_all faction_in_range p.factions ≡ true
  faction_ranges =
      rows_pass faction_row faction_in_range c.factions p.factions (row.factions_listed w world c good f fits p rows) (λ n f is.
      let range = row.few_factions w world c good n f is in and_true _ _ (from_true 1 last_faction n range.0 range.1) (flag_in_range f.gone))

  region_ranges : list_all region_in_range p.regions ≡ true
  region_ranges =
      rows_pass region_row region_in_range c.regions p.regions (row.regions_listed w world c good f fits p rows) (λ n r is.
      let range = good.sound.steady.numbers.regions n r is in and_true _ _ (from_true 0 most_amount r.peasants (none_less r.peasants) range.peasants) (from_true 0 most_amount r.money (none_less r.money) range.money))

  unit_ranges : list_all unit_in_range p.units ≡ true
  unit_ranges =
      rows_pass unit_row unit_in_range c.units p.units (row.units_listed w world c good f fits p rows) (λ n u is.
      written_in_range unit_columns (unit_values n u) (row.units_from w world c good n u is))

  has_ranges : list_all has_in_range p.has ≡ true
  has_ranges =
      all_pass has_in_range (λ r. has_in_range r ≡ true) (λ r e. e) p.has (each_permuted (λ r. has_in_range r ≡ true) (has_rows (entries c.units)) p.has (row.has_listed w world c good f fits p rows)
      (has_each c.units (λ r. has_in_range r ≡ true) (λ n u there s l i a is some. in_range n s i a l (λ item. (good.sound.steady.numbers.units n u there).1.items i a (subst (λ k. get (goods_of k u) i ≡ Some a) item is)))))
    where
      in_range : (n s i a : ℕ) → s < 2 → (s ≡ 0 → (1 ≤ a) × (a ≤ holding_limit)) → has_in_range (has_row n s i a) ≡ true
      in_range n zero i a l h = let range = h refl in from_true 1 holding_limit a range.0 range.1
      in_range n (suc zero) i a l h = refl
      in_range n (suc (suc s)) i a l h = absurd (omega (arith, l))

  structure_ranges : list_all (structure_in_range w) p.structures ≡ true
  structure_ranges =
      rows_pass structure_row (structure_in_range w) c.structures p.structures (row.structures_listed w world c good f fits p rows) (λ n s is.
      let range = row.few_structures w world c good n s is in
      let done = good.sound.steady.numbers.structures n s is in
      let kind = row.read16 s.kind (row.structure_fits w world c good n s is).kind in
      and_true _ _ (from_true 1 most_structures n range.0 range.1) (ap (λ k. is_from 1 (size_of w k) (pos s.done)) kind ∙ from_true 1 (size_of w s.kind) s.done done.0 done.1))

  bound_said : books_bound p ≡ amount_bound c
  bound_said =
      ap (λ m. most_in_month * (m + 1) + most_in_joining * length p.factions) (row.month_said w world c good f fits p rows)
      ∙ ap (λ n. most_in_month * (c.month + 1) + most_in_joining * n) faction_count

  amounts_in_range : list_all (books_in_range (amount_bound c)) p.books ≡ true
  amounts_in_range =
      all_pass (books_in_range (amount_bound c)) (λ r. books_in_range (amount_bound c) r ≡ true) (λ r e. e) p.books
      (each_permuted (λ r. books_in_range (amount_bound c) r ≡ true) (books_rows c.books) p.books (row.books_listed w world c good f fits p rows)
      (lines_each c.books (λ r. books_in_range (amount_bound c) r ≡ true) (λ e t z is.
      let some = nonzero_fails_is_zero z (good.sound.steady.numbers.books.listed e t z is).1 in
      and_true _ _ (not_from_false (is_zero z) some) (within_true (amount_bound c) z (subst (IsWithin (amount_bound c)) (listed_amount_is_amount_in c.books e t z is) (good.sound.amounts e t))))))

  book_ranges : list_all (books_in_range (books_bound p)) p.books ≡ true
  book_ranges = ap (λ bound. list_all (books_in_range bound) p.books) bound_said ∙ amounts_in_range

  market_ranges : list_all (market_in_range w) p.markets ≡ true
  market_ranges =
      all_pass (market_in_range w) (λ m. market_in_range w m ≡ true) (λ m e. e) p.markets (row.each_market w world c good f fits p rows (λ m. market_in_range w m ≡ true) (λ n r there i a is.
      let small = row.stocked w world c good in
      let range = (good.sound.steady.numbers.regions n r there).stocks i a is in
      ap (λ k. is_from 1 (stock_limit w k (as_u32 (pos i))) (pos a)) (written_is_read n (small.numbers n r there)) ∙ ap (λ k. is_from 1 (stock_limit w n k) (pos a)) (written_is_read i (small.stocks n r there i a is).0) ∙ from_true 1 (stock_limit w n i) a range.0 range.1))

  -- a good campaign's rows keep rule 2, Ranges: keys differ, there are not too many, and numbers are in their ranges
  in_ranges : AreRowsInRange w p
  in_ranges = record {
    keys = keys;
    few = few;
    numbers = and_true _ _ (and_true _ _ (and_true _ _ (and_true _ _ head_ranges (and_true _ _ (and_true _ _ (and_true _ _ faction_ranges region_ranges) unit_ranges) has_ranges)) structure_ranges) book_ranges) market_ranges;
  }

  -- ---- names

  -- a good campaign's rows keep rule 3, Names: names and pass texts keep their rules, and joined names differ
  named : AreRowsNamed p
  named = record {
    texts = and_true _ _ (and_true _ _ (and_true _ _ (ap (λ (h : StoredCampaignRow). pass_ok h.pass) (row.head_said w world c good f fits p rows) ∙ good.sound.steady.names.pass)
        (rows_pass faction_row faction_named c.factions p.factions (row.factions_listed w world c good f fits p rows) (λ n f is. let ok = good.sound.steady.names.factions n f is in and_true _ _ (and_true _ _ ok.0 ok.1) ok.2)))
        (rows_pass unit_row (λ r. name_ok r.name) c.units p.units (row.units_listed w world c good f fits p rows) good.sound.steady.names.units))
        (rows_pass structure_row (λ r. name_ok r.name) c.structures p.structures (row.structures_listed w world c good f fits p rows) good.sound.steady.names.structures);
    joined = IsDistinct-map (λ (r : StoredFaction). r.joined_as) same_text p.factions (IsDistinct-IsPermutation (λ (a b : StoredFaction). same_text a.joined_as b.joined_as) (λ a b. text_symm a.joined_as b.joined_as)
        (rows_by faction_row (entries c.factions)) p.factions (row.factions_listed w world c good f fits p rows) (named_apart (entries c.factions) (entries_differ c.factions good.sound.steady.names.joined)));
  }

  -- ---- what rows say of other rows

  of_units : list_all (is_of_unit c) p.has ≡ true
  of_units =
      all_pass (is_of_unit c) (λ r. is_of_unit c r ≡ true) (λ r e. e) p.has (each_permuted (λ r. is_of_unit c r ≡ true) (has_rows (entries c.units)) p.has (row.has_listed w world c good f fits p rows)
      (has_each c.units (λ r. is_of_unit c r ≡ true) (λ n u there s l i a is some. ap (λ k. is_some (get c.units k)) (written_is_read n ((row.had w world c good).numbers n u there)) ∙ ap is_some there)))

  of_markets : list_all (is_of_market w) p.markets ≡ true
  of_markets =
      all_pass (is_of_market w) (λ m. is_of_market w m ≡ true) (λ m e. e) p.markets (row.each_market w world c good f fits p rows (λ m. is_of_market w m ≡ true) (λ n r there i a is.
      let small = row.stocked w world c good in
      ap (λ k. is_some (market_of w k (as_u32 (pos i)))) (written_is_read n (small.numbers n r there)) ∙ ap (λ k. is_some (market_of w n k)) (written_is_read i (small.stocks n r there i a is).0) ∙ good.sound.steady.known.markets n r there i a is))

  -- an entry with an amount that is not 0 in a good campaign that the format can hold is one of the format
  entry_few : (e : BooksEntry) (t : Thing) → amount_in c.books e t ≢ pos 0 → entry_index e < entries_in f
  entry_few e t some =
      elim f as (λ g. Fits g c → entry_index e < entries_in g)
      [ First ↦ λ bare. early bare | Second ↦ λ _. entry_small e ] fits
    where
      early : IsWithoutMarkets c → entry_index e < first_entry_count
      early bare =
          elim (cases_lt (entry_index e) first_entry_count)
          [ inl few ↦ few | inr late ↦ absurd (some (bare.entries e t late)) ]

  entry_true : (e : ℕ) → e < entries_in f → e < entry_count → is_entry_in f (as_u32 (pos (e + 1))) ≡ true
  entry_true e few small =
      let least : nat_le 1 (e + 1) ≡ true = le_true 1 (e + 1) (omega arith) in
      ap (is_entry_in f) (written_is_read (e + 1) (omega arith))
      ∙ and_true _ _ least (le_true (e + 1) (entries_in f) (omega (arith, few)))

  thing_true : (t : ℕ) → t < thing_count w → nat_lt (as_u32 (pos t)) (thing_count w) ≡ true
  thing_true t inside =
      let few = row.few_things w world c good f fits p rows in
      let read = written_is_read t (omega (arith, few)) in
      lt-ltb (as_u32 (pos t)) (thing_count w) (omega (arith, read))

  of_books : list_all (is_booked f w) p.books ≡ true
  of_books =
      all_pass (is_booked f w) (λ r. is_booked f w r ≡ true) (λ r e. e) p.books (each_permuted (λ r. is_booked f w r ≡ true) (books_rows c.books) p.books (row.books_listed w world c good f fits p rows)
      (lines_each c.books (λ r. is_booked f w r ≡ true) (λ e t z is.
      let (inside, some) = good.sound.steady.numbers.books.listed e t z is in
      let few = entry_few e t (λ none. some (sym (listed_amount_is_amount_in c.books e t z is) ∙ none)) in
      and_true _ _ (entry_true (entry_index e) few (entry_small e)) (thing_true (thing_index t) inside))))

  said : (P : CampaignValue → Type 0) → P c → P (campaign_of w p)
  said P h = subst P (sym back) h

  -- a good campaign's rows, in any order, keep every rule of the tables
  pub keeps : (r : Rule) → KeepsRule f w p r
  keeps OneRow = (one_row, of_format)
  keeps Ranges = in_ranges
  keeps Names = named
  keeps Known =
      (said (AreKnown w) good.sound.steady.known, said (λ s. list_all (is_of_unit s) p.has ≡ true) of_units, of_markets)
  keeps Next = said AreNumbered good.sound.steady.next
  keeps Days = said AreDays good.sound.steady.days
  keeps Gone = (said GoneHaveNone good.sound.steady.gone, said UnitlessAreGone good.sound.gone)
  keeps Owners = said AreOwned good.sound.steady.owners
  keeps Water = said (AreAfloat w) good.sound.steady.water
  keeps Guards = said (AreOfOneFaction guards) good.sound.steady.guarded
  keeps Books = (of_books, said Balances good.sound.balances)
  keeps Mail = (said HasValidMail good.sound.mail, said AreReported good.reported)

-- an answer that `check_as` may give (`Checks`) is, for the rows of a good campaign that the format can hold, this
-- campaign or Memory (`GivesBack`)
pub gives_back : (f : Format) (w : WorldValue) → IsWorld w → (p : Parts) (r : Result MarkedCampaign CheckFault)
    → Checks f w p r → GivesBack f w p r
gives_back f w world p (Ok m) h =
    λ c good fits rows. sym (row.state_back w world m.value h.good f h.fits p h.rows)
    ∙ row.state_back w world c good f fits p rows
gives_back f w world p (Err (Damaged r)) h = λ c good fits rows. h.broken (keeps f w world c good fits p rows r)
gives_back f w world p (Err Memory) h = tt
