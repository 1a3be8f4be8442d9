-- Laws on `write_changes`: tables that hold a campaign's unmarked rows hold all of it once its marked rows are written.
-- `c` is the campaign with its marks. `before` is a campaign that the tables held, which may differ from `c` in what is
-- marked. `old` is the database, or the rows of a table, before the write, and `new` after it; `text` is the world
-- text.
use Rattle.std.proofs.Common.{◌≡◌, ◌+◌, ◌<◌, ◌&&◌, ◌||◌, ℕ, suc, ℤ, Bool, true, false, List, Option, Some, None, unwrap_or, nat_le, refl, sym, ap, subst, ◌∙◌, true≢false, arith}
use Rattle.std.proofs.lemmas.Bool.Decides.{nat_tests}
use Rattle.std.proofs.Math.Bool.{or-false}
use Rattle.std.specs.Prelude.{◌↔◌, option_map}
use Rattle.std.specs.Ordering.{nat_cmp}
use Rattle.std.specs.FinMap.{FinMap, get}
use Rattle.std.specs.FinSet.{FinSet, contains}
use Rattle.sqlite.specs.Effect.{Database}
use Rattle.sqlite.specs.Order.{Row}
use Rattle.sqlite_trees.specs.Tree.{Trees}
use Rattle.sqlite_rules.specs.Lists.{Has}
use Rattle.atl_campaign.specs.Covers.{SameBut, SameThings, Covers, without_goods, said_by_campaign_row, unstocked}
use Rattle.atl_records.specs.Books.{BooksValue, amount_in, entry_index, thing_index, amount_number}
use Rattle.atl_campaign.specs.Marks.{Marks, is_thing_marked}
use Rattle.atl_campaign.specs.Campaign.{CampaignValue, MarkedCampaign}
use Rattle.atl_campaign.specs.Stocks.{stock_in}
use Rattle.atl_records.specs.declared.books.BooksEntry.{BooksEntry}
use Rattle.atl_records.specs.Limits.{entry_count}
use Rattle.atl_records.proofs.EveryEntryLaws.{entry_small}
use Rattle.atl_records.specs.declared.books.Thing.{Thing}
use Rattle.atl_records.specs.declared.records.Region.{Region}
use Rattle.atl_records.specs.declared.records.Unit.{Unit}
use Rattle.atl_sql.specs.declared.rows.has.ThingKind.{ThingKind}
use Rattle.atl_sql.specs.declared.rows.has.ThingKind.TheVariants.{Item, Skill}
use Rattle.atl_descriptions.specs.Sets.{HasExactly, rows_in}
use Rattle.atl_descriptions.specs.Tables.{Part, Own, Factions, Regions, Units, Goods, Structures, Mail, Reports, Books, Markets, table_of}
use Rattle.atl_sql.specs.Shown.{CampaignRowValue, campaign_row, has_row, mail_row, report_row, books_row}
use Rattle.atl_sql.specs.Written.{sort_number}
use Rattle.atl_writing.specs.Rows.{RowsOf, HasRowsOf, BooksRowsOf, MarketRowsOf, rows_for, campaign_row_of, row_of_campaign, row_of_faction, row_of_region, row_of_unit, row_of_structure, things_under, amount_under, Holds}
use Rattle.atl_writing.specs.Marked.{begins_marked, has_thing, goods_marked, stocks_marked, amount_marked, is_marked}
use Rattle.atl_writing.specs.Changing.{IfElse, rows_after_rewrite, campaign_row_after, HasUnmarked, WritesChanges, HoldsUnmarked}
use Rattle.atl_writing.specs.Rewriting.{marked_things}
use Rattle.atl_writing.proofs.HasTableLaws.{row_has_amount, amount_has_row}
use Rattle.atl_writing.proofs.MarketLaws.{row_has_stock, stock_has_row}

-- ---- a table whose unmarked rows are the campaign's

-- a table whose unmarked rows are the wanted ones (`After`) has just the wanted rows once the marked rows are rewritten
all_held : (is_marked : Row → Bool) (After : Row → Type 0) (old new : List Row)
    → ((r : Row) → is_marked r ≡ false → Has old r ↔ After r)
    → HasExactly new (rows_after_rewrite is_marked After (Has old)) → HasExactly new After
all_held is_marked After old new rest now r =
    (λ there. written_is_wanted (is_marked r) refl ((now r).0 there), λ of. (now r).1 (wanted_is_written (is_marked r) refl of))
  where
    written_is_wanted : (b : Bool) → is_marked r ≡ b → IfElse b (After r) (Has old r) → After r
    written_is_wanted true is h = h
    written_is_wanted false is h = (rest r is).0 h

    wanted_is_written : (b : Bool) → is_marked r ≡ b → After r → IfElse b (After r) (Has old r)
    wanted_is_written true is of = of
    wanted_is_written false is of = (rest r is).1 of

unmarked_rows_agree : (is_marked : Row → Bool) (Before After : Row → Type 0) (old : List Row)
    → ((r : Row) → is_marked r ≡ false → Before r → After r) → ((r : Row) → is_marked r ≡ false → After r → Before r)
    → HasExactly old Before
    → (r : Row) → is_marked r ≡ false → Has old r ↔ After r
unmarked_rows_agree is_marked Before After old ahead back was r is =
    (λ there. ahead r is ((was r).0 there), λ of. (was r).1 (back r is of))

-- ---- one row for each number

-- `line` makes the row of a number and its value; such a row is marked exactly if its number is in `marks` (`heads`)
module _ {V : Type 0} (line : ℕ → V → Row) (marks : FinSet nat_cmp) (heads : (n : ℕ) (v : V) → begins_marked marks (line n v) ≡ contains marks n) where
  -- Under each unmarked number under which the first map has a value, the second has one with the same row.
  abbrev pub Follows : FinMap nat_cmp V → FinMap nat_cmp V → Type 0
  Follows one other =
      (n : ℕ) (v : V) → contains marks n ≡ false → get one n ≡ Some v → (w : V) × (get other n ≡ Some w) ×
      (line n w ≡ line n v)

  unmarked_row_has_unmarked_number : (n : ℕ) (v : V) (r : Row) → r ≡ line n v → begins_marked marks r ≡ false
      → contains marks n ≡ false
  unmarked_row_has_unmarked_number n v r is not_marked =
      sym (heads n v) ∙ ap (begins_marked marks) (sym is) ∙ not_marked

  follow : (one other : FinMap nat_cmp V) (r : Row) → begins_marked marks r ≡ false → Follows one other
      → RowsOf line one r → RowsOf line other r
  follow one other r not_marked follows of = let found = follows of.0 of.1 (unmarked_row_has_unmarked_number of.0 of.1 r of.3 not_marked) of.2 in (of.0, found.0, found.1, of.3 ∙ sym found.2)

  rest_numbered : (before after : FinMap nat_cmp V) (old : List Row) → Follows before after → Follows after before
      → HasExactly old (RowsOf line before) → (r : Row) → begins_marked marks r ≡ false
      → Has old r ↔ RowsOf line after r
  rest_numbered before after old ahead back =
      unmarked_rows_agree (begins_marked marks) (RowsOf line before) (RowsOf line after) old
      (λ r is. follow before after r is ahead) (λ r is. follow after before r is back)

  same_follows : (before after : FinMap nat_cmp V) → SameBut marks before after → Follows before after
  same_follows before after same n v not_marked there = (v, same n not_marked ∙ there, refl)

  same_followed : (before after : FinMap nat_cmp V) → SameBut marks before after → Follows after before
  same_followed before after same n v not_marked there = (v, sym (same n not_marked) ∙ there, refl)

  rest_same : (before after : FinMap nat_cmp V) (old : List Row) → SameBut marks before after
      → HasExactly old (RowsOf line before) → (r : Row) → begins_marked marks r ≡ false
      → Has old r ↔ RowsOf line after r
  rest_same before after old same =
      rest_numbered before after old (same_follows before after same) (same_followed before after same)

-- the look-up `p` gives a region with the same row as region `v` of the look-up `o`, if the two differ in stocks alone
unstocked_same : (n : ℕ) (o p : Option Region) (v : Region) → option_map unstocked p ≡ option_map unstocked o
    → o ≡ Some v → (w : Region) × (p ≡ Some w) × (row_of_region n w ≡ row_of_region n v)
unstocked_same n o None v same there = absurd (let e = same ∙ ap (option_map unstocked) there in cc)
unstocked_same n o (Some w) v same there =
    (w, refl, let e : unstocked w ≡ unstocked v = (let s = same ∙ ap (option_map unstocked) there in cc) in ap (row_of_region n) e)

-- the look-up `p` gives a unit with the same row as unit `v` of look-up `o`, if they differ in items and skills alone
bare_same : (n : ℕ) (o p : Option Unit) (v : Unit) → option_map without_goods p ≡ option_map without_goods o
    → o ≡ Some v → (w : Unit) × (p ≡ Some w) × (row_of_unit n w ≡ row_of_unit n v)
bare_same n o None v same there = absurd (let e = same ∙ ap (option_map without_goods) there in cc)
bare_same n o (Some w) v same there =
    (w, refl, let e : without_goods w ≡ without_goods v = (let s = same ∙ ap (option_map without_goods) there in cc) in ap (row_of_unit n) e)

-- ---- goods

goods_row_marked : (marks : Marks) (n : ℕ) (sort : ThingKind) (thing amount : ℕ)
    → goods_marked marks (has_row n (sort_number sort) thing amount)
    ≡ is_thing_marked marks.goods (marked_things marks sort) n thing
goods_row_marked marks n Item thing amount = or-false (is_thing_marked marks.goods marks.items n thing)
goods_row_marked marks n Skill thing amount =
    ap (λ b. b || has_thing marks.skills n thing) (or-false (contains marks.goods n))

goods_same : (m : Marks) (before after : CampaignValue) → Covers m before after → (sort : ThingKind)
    → SameThings m.goods (marked_things m sort) (things_under sort) before.units after.units
goods_same m before after covers Item = covers.items
goods_same m before after covers Skill = covers.days

goods_follow : (one other : FinMap nat_cmp Unit) (marks : Marks) (r : Row)
    → ((sort : ThingKind) → SameThings marks.goods (marked_things marks sort) (things_under sort) one other)
    → goods_marked marks r ≡ false → HasRowsOf one r → HasRowsOf other r
goods_follow one other marks r same not_marked of =
    let had = row_has_amount one r of in
    let amount = amount_under one had.0 had.1 had.2 in
    let is : amount ≡ amount_under other had.0 had.1 had.2 = ap (λ (o : Option ℕ). unwrap_or o 0) (sym (same had.1 had.0 had.2 (sym (goods_row_marked marks had.0 had.1 had.2 amount) ∙ ap (goods_marked marks) (sym had.4) ∙ not_marked))) in
    subst (HasRowsOf other) (sym had.4) (amount_has_row other had.0 had.1 had.2 amount is had.3)

stocks_follow : (one other : FinMap nat_cmp Region) (marks : Marks) (r : Row)
    → ((n item : ℕ) → is_thing_marked marks.stocks marks.stock_items n item ≡ false → stock_in other n item ≡ stock_in one n item)
    → stocks_marked marks r ≡ false → MarketRowsOf one r → MarketRowsOf other r
stocks_follow one other marks r same not_marked of =
    let had = row_has_stock one r of in
    let is = same had.0 had.1 (ap (stocks_marked marks) (sym had.3) ∙ not_marked) in
    subst (MarketRowsOf other) (sym had.3) (stock_has_row other had.0 had.1 (stock_in one had.0 had.1) (sym is) had.2)

-- ---- amounts

amount_row_marked : (marks : FinSet nat_cmp) (e : BooksEntry) (t : Thing) (amount : ℤ)
    → amount_marked marks (books_row (entry_index e + 1) (thing_index t) amount) ≡ contains marks (amount_number e t)
amount_row_marked marks e t amount =
    ap (λ number. amount_marked marks (books_row number (thing_index t) amount)) (next (entry_index e))
    ∙ ap (λ (b : Bool). b && contains marks (amount_number e t)) (there (entry_index e) (entry_small e))
  where
    next : (n : ℕ) → n + 1 ≡ suc n
    next n = omega arith

    there : (n : ℕ) → n < entry_count → nat_le (suc n) entry_count ≡ true
    there n small = grind (arith, nat_tests, small)

amounts_follow : (one other : BooksValue) (marks : FinSet nat_cmp) (r : Row)
    → ((e : BooksEntry) (t : Thing) → contains marks (amount_number e t) ≡ false → amount_in other e t ≡ amount_in one e t)
    → amount_marked marks r ≡ false → BooksRowsOf one r → BooksRowsOf other r
amounts_follow one other marks r same not_marked of =
    let is = same of.0 of.1 (sym (amount_row_marked marks of.0 of.1 (amount_in one of.0 of.1)) ∙ ap (amount_marked marks) (sym of.3) ∙ not_marked) in
    (of.0, of.1, λ none. of.2 (sym is ∙ none), of.3 ∙ ap (books_row (entry_index of.0 + 1) (thing_index of.1)) (sym is))

-- ---- the campaign's own row

abbrev head_in : ℕ × (List ℕ × (ℕ × (ℕ × ℕ))) → CampaignRowValue
head_in row =
    record { month = row.0; pass = row.1.0; next_faction = row.1.1.0; next_unit = row.1.1.1.0; next_structure = row.1.1.1.1 }

-- the campaign row after a write says what the campaign `after` says, if the row is marked (`b`) or would say the same
-- of the campaign `before`
head_held : (b : Bool) (before after : CampaignValue)
    → (b ≡ false → said_by_campaign_row after ≡ said_by_campaign_row before)
    → campaign_row_after b after (campaign_row_of before) ≡ campaign_row_of after
head_held true before after same = refl
head_held false before after same = ap head_in (sym (same refl))

-- ---- the whole

-- writing all marked rows makes tables with the unmarked rows hold the campaign, whatever was under marked keys
pub unmarked_held : (c : MarkedCampaign) (old new : Database) → WritesChanges c old new → (text : List ℕ)
    → HoldsUnmarked old.trees text c → Holds new.trees text c.value
unmarked_held c old new changes text rest =
    let did = changes rest.before text rest.campaign in
    record {
      rows =
          λ part. all_held (is_marked c.marks part) (rows_for (row_of_campaign text c.value) c.value part) _ _
          (rest.rest part)
          (subst (λ (h : CampaignRowValue). HasExactly (rows_in (table_of part) new.trees) (rows_after_rewrite (is_marked c.marks part) (rows_for (campaign_row h text) c.value part) (Has (rows_in (table_of part) old.trees)))) rest.head (did.rows part));
    }

-- tables that hold a campaign `before` hold what is not marked of `c`, if the two differ only in what is marked
pub covers_unmarked : (c : MarkedCampaign) (db : Trees) (text : List ℕ) (before : CampaignValue)
    → Covers c.marks before c.value → Holds db text before → HoldsUnmarked db text c
covers_unmarked c db text before covers held =
    record { before = campaign_row_of before; campaign = held.rows Own; head = head_held c.marks.row before c.value covers.row; rest = rest }
  where
    rest : (part : Part)
        → HasUnmarked (table_of part) (is_marked c.marks part) (rows_for (row_of_campaign text c.value) c.value part) db
    rest Own = λ r is. absurd (true≢false is)
    rest Factions =
        rest_same row_of_faction c.marks.factions (λ n v. refl) before.factions c.value.factions _ covers.factions
        (held.rows Factions)
    rest Regions =
        rest_numbered row_of_region c.marks.regions (λ n v. refl) before.regions c.value.regions _
        (λ n v not_marked there. unstocked_same n (get before.regions n) (get c.value.regions n) v (covers.regions n not_marked) there)
        (λ n v not_marked there. unstocked_same n (get c.value.regions n) (get before.regions n) v (sym (covers.regions n not_marked)) there) (held.rows Regions)
    rest Units =
        rest_numbered row_of_unit c.marks.rows (λ n v. refl) before.units c.value.units _
        (λ n v not_marked there. bare_same n (get before.units n) (get c.value.units n) v (covers.units n not_marked) there) (λ n v not_marked there. bare_same n (get c.value.units n) (get before.units n) v (sym (covers.units n not_marked)) there) (held.rows Units)
    rest Goods =
        let same = goods_same c.marks before c.value covers in
        unmarked_rows_agree (goods_marked c.marks) (HasRowsOf before.units) (HasRowsOf c.value.units) _ (λ r is. goods_follow before.units c.value.units c.marks r same is)
        (λ r is. goods_follow c.value.units before.units c.marks r (λ sort n thing not_marked. sym (same sort n thing not_marked)) is) (held.rows Goods)
    rest Structures =
        rest_same row_of_structure c.marks.structures (λ n v. refl) before.structures c.value.structures _
        covers.structures (held.rows Structures)
    rest Mail = rest_same mail_row c.marks.mail (λ n v. refl) before.mail c.value.mail _ covers.mail (held.rows Mail)
    rest Reports =
        rest_same report_row c.marks.reports (λ n v. refl) before.reports c.value.reports _ covers.reports
        (held.rows Reports)
    rest Books =
        unmarked_rows_agree (amount_marked c.marks.books) (BooksRowsOf before.books) (BooksRowsOf c.value.books) _ (λ r is. amounts_follow before.books c.value.books c.marks.books r covers.books is) (λ r is. amounts_follow c.value.books before.books c.marks.books r (λ e t not_marked. sym (covers.books e t not_marked)) is) (held.rows Books)
    rest Markets =
        unmarked_rows_agree (stocks_marked c.marks) (MarketRowsOf before.regions) (MarketRowsOf c.value.regions) _ (λ r is. stocks_follow before.regions c.value.regions c.marks r covers.stocks is)
        (λ r is. stocks_follow c.value.regions before.regions c.marks r (λ n item not_marked. sym (covers.stocks n item not_marked)) is) (held.rows Markets)

-- tables that held a campaign `before` hold `c` once its marked rows are written, if both differ in marked rows alone
pub changes_held : (c : MarkedCampaign) (old new : Database) → WritesChanges c old new
    → (text : List ℕ) (before : CampaignValue) → Covers c.marks before c.value → Holds old.trees text before
    → Holds new.trees text c.value
changes_held c old new changes text before covers held =
    unmarked_held c old new changes text (covers_unmarked c old.trees text before covers held)
