-- Laws of the campaign assembled from rows: if the rows are in range, the campaign's numbers are, and units have men.
-- `AreBooks n b` says of the books b that they have n things, and that the amounts that they list are of these and not
-- 0.
-- w is the world, p the rows of all tables, and `campaign_of w p` the campaign assembled from them.
use Rattle.std.proofs.Common.{◌≡◌, ◌==◌, ℕ, ◌≤◌, ◌<◌, ◌+◌, ◌&&◌, List, [], ◌∷◌, Bool, true, false, cond, filter, length, nat_le, refl, ap, subst, arith}
use Rattle.std.specs.Prelude.{ℤ, pos, negsuc, min, nat_lt, Some, None}
use Rattle.std.specs.List.{list_all}
use Rattle.std.specs.Ordering.{nat_cmp}
use Rattle.std.specs.Cmp.{nat_cmp_total}
use Rattle.std.specs.FinMap.{FinMap, insert, empty, len, len-insert, len-empty, contains_key}
use Rattle.std.proofs.lemmas.Bool.{and_parts, false≢true}
use Rattle.std.proofs.lemmas.Bool.Decides.{nat_tests}
use Rattle.std.specs.Option.{option_map_or}
use Rattle.atl_world.specs.Limits.{most_amount, most_regions}
use Rattle.atl_world.specs.Worlds.{WorldValue}
use Rattle.atl_world.specs.ByNumber.{size_of}
use Rattle.atl_words.specs.Limits.{last_faction}
use Rattle.atl_rows.specs.declared.parts.Parts.{Parts}
use Rattle.atl_rows.specs.declared.parts.StoredCampaignRow.{StoredCampaignRow}
use Rattle.atl_rows.specs.declared.parts.StoredFaction.{StoredFaction}
use Rattle.atl_rows.specs.declared.parts.StoredRegion.{StoredRegion}
use Rattle.atl_rows.specs.declared.parts.StoredUnit.{StoredUnit}
use Rattle.atl_rows.specs.declared.parts.StoredHas.{StoredHas}
use Rattle.atl_rows.specs.declared.parts.StoredStructure.{StoredStructure}
use Rattle.atl_rows.specs.declared.parts.StoredBooks.{StoredBooks}
use Rattle.atl_rows.specs.declared.parts.StoredMarket.{StoredMarket}
use Rattle.atl_records.specs.declared.books.BooksEntry.{BooksEntry}
use Rattle.atl_records.specs.Books.{AreBooks, BooksValue, entry_numbered, no_amounts, thing_at, with_amount}
use Rattle.atl_campaign.specs.Founding.{thing_count}
use Rattle.atl_campaign.specs.FromRows.{clamp, as_u32, as_u16, put_rows, by_number, faction_of, stocks_of, region_of, structure_of, unit_of, with_books_row, with_books_rows, campaign_row_of, campaign_of}
use Rattle.atl_world.specs.Every.{Every}
use Rattle.atl_campaign.specs.Good.{IsRegion, AreInRange, HaveMen}
use Rattle.atl_records.specs.Holdings.{IsHolding}
use Rattle.atl_records.specs.Limits.{last_month, most_units, last_unit, most_structures, most_u32}
use Rattle.atl_campaign.specs.RowRules.{is_from, campaign_row_in_range, faction_in_range, region_in_range, unit_in_range, has_in_range, structure_in_range, books_in_range, books_bound, market_in_range, are_few, first_tables_in_range, numbers_in_range, AreRowsInRange}
use Rattle.atl_campaign.specs.Stocks.{stock_limit}
use Rattle.atl_rows.specs.RowColumns.{read_row}
use Rattle.atl_rows.specs.UnitColumns.{unit_columns, unit_fields}
use Rattle.atl_campaign.proofs.AssemblyLaws.{AreAmounts-had}
use Rattle.atl_campaign.proofs.ColumnLaws.{AreFrom, read_from}
use Rattle.atl_campaign.proofs.ReadBackLaws.{every_by}
use Rattle.atl_records.proofs.AccountLaws.{index_of_thing_at}
use Rattle.atl_records.proofs.BookLaws.{AreBooks-no_amounts, AreBooks-with_amount}
use Rattle.atl_world.proofs.EveryLaws.{every-empty, every-insert}
use Rattle.atl_campaign.proofs.GroupLaws.{kept}
use Rattle.atl_campaign.proofs.MapOfRowsLaws.{each_passes}
use Rattle.atl_world.proofs.GeneralLaws.{is_equal, chosen_is_at_most_next}

-- ---- maps of rows

-- `number` and `value` read the number and the value of a row
module _ {R V : Type 0} (number : R → ℕ) (value : R → V) where
  -- if P holds for a map's values, and for the value of each row that passes a test, it holds for all values once rows
  -- that pass the test are put in
  put-every : (P : ℕ → V → Type 0) (p : R → Bool) → ((r : R) → p r ≡ true → P (number r) (value r))
      → (rows : List R) (m : FinMap nat_cmp V) → list_all p rows ≡ true → Every P m
      → Every P (put_rows number value rows m)
  put-every P p each [] m all old = old
  put-every P p each (r ∷ rows) m all old =
      let parts = and_parts (p r) (list_all p rows) all in
      put-every P p each rows (insert m (number r) (value r)) parts.1 (every-insert P m (number r) (value r) (each r parts.0) old)

  -- P holds of each number of the map with its value, if all rows pass the test p, and P holds of what is read from
  -- each row that passes
  pub by_number-every : (P : ℕ → V → Type 0) (p : R → Bool) → ((r : R) → p r ≡ true → P (number r) (value r))
      → (rows : List R) → list_all p rows ≡ true → Every P (by_number number value rows)
  by_number-every P p each rows all = put-every P p each rows empty all (every-empty P)

  put-len : (rows : List R) (m : FinMap nat_cmp V) → len (put_rows number value rows m) ≤ length rows + len m
  put-len [] m = omega arith
  put-len (r ∷ rows) m =
      let more : len (insert m (number r) (value r)) ≤ len m + 1 = rw (len-insert nat_cmp_total m (number r) (value r)) (chosen_is_at_most_next (contains_key m (number r)) (len m)) in
      omega (arith, put-len rows (insert m (number r) (value r)), more)

  -- the map made of rows has at most as many numbers as there are rows
  pub by_number-len : (rows : List R) → len (by_number number value rows) ≤ length rows
  by_number-len rows = omega (arith, put-len rows empty, len-empty nat_cmp V)

-- ---- numbers

min_low : (low n most : ℕ) → low ≤ n → low ≤ most → low ≤ min n most
min_low low n most h k = grind arith

min_high : (n high most : ℕ) → n ≤ high → min n most ≤ high
min_high n high most h = grind arith

-- a row's number from low to high is read as a number from low to high, if `most`, the largest number that can be read,
-- is at least low
pub in_range : (low high most : ℕ) (z : ℤ) → low ≤ most → is_from low high z ≡ true
    → (low ≤ clamp most z) × (clamp most z ≤ high)
in_range low high most (pos n) h e =
    let parts = and_parts (nat_le low n) (nat_le n high) e in
    let least : low ≤ n = grind (arith, nat_tests, parts.0) in
    let highest : n ≤ high = grind (arith, nat_tests, parts.1) in
    (min_low low n most least h, min_high n high most highest)
in_range low high most (negsuc n) h e = absurd (false≢true e)

pub from_le : (m n : ℕ) → nat_le m n ≡ true → m ≤ n
from_le m n h = grind (arith, nat_tests)

-- ---- the books

row_put : (things : ℕ) (books : BooksValue) (e : BooksEntry) (r : StoredBooks) (b : Bool)
    → nat_lt (as_u32 r.thing) books.things ≡ b → AreBooks things books
    → AreBooks things (cond b (with_amount books e (thing_at (as_u32 r.thing)) r.amount) books)
row_put things books e r true inside are =
    let few : as_u32 r.thing < books.things = grind (arith, nat_tests) in
    let location = index_of_thing_at (as_u32 r.thing) in
    AreBooks-with_amount books e (thing_at (as_u32 r.thing)) r.amount things are (omega (arith, few, location, are.count))
row_put things books e r false inside are = are

row_read : (things : ℕ) (books : BooksValue) (r : StoredBooks) → AreBooks things books
    → AreBooks things (with_books_row books r)
row_read things books r are =
    let put = λ (e : BooksEntry). cond (nat_lt (as_u32 r.thing) books.things) (with_amount books e (thing_at (as_u32 r.thing)) r.amount) books in
    elim (entry_numbered (as_u32 r.entry)) as (λ o. AreBooks things (option_map_or put o books)) [ None ↦ are | Some e ↦ row_put things books e r (nat_lt (as_u32 r.thing) books.things) refl are ]

-- a row of a thing that is none of the books' things changes nothing
pub row_unread : (books : BooksValue) (r : StoredBooks) → books.things ≤ as_u32 r.thing → with_books_row books r ≡ books
row_unread books r past =
    let none : nat_lt (as_u32 r.thing) books.things ≡ false = grind (arith, nat_tests) in
    let put = λ (e : BooksEntry). with_amount books e (thing_at (as_u32 r.thing)) r.amount in
    elim (entry_numbered (as_u32 r.entry)) as (λ o. option_map_or (λ e. cond (nat_lt (as_u32 r.thing) books.things) (put e) books) o books ≡ books) [ None ↦ refl | Some e ↦ ap (λ b. cond b (put e) books) none ]

-- books of `things` things that list only amounts of these, and none that is 0 (AreBooks), stay so when rows are put in
pub put-books : (things : ℕ) (rows : List StoredBooks) (books : BooksValue) → AreBooks things books
    → AreBooks things (with_books_rows rows books)
put-books things [] books are = are
put-books things (r ∷ rows) books are = put-books things rows (with_books_row books r) (row_read things books r are)

-- ---- the ranges

abbrev IsStockInRange : WorldValue → ℕ → StoredMarket → Type 0
IsStockInRange w n m = (1 ≤ as_u32 m.stock) × (as_u32 m.stock ≤ stock_limit w n (as_u32 m.item))

row_stock_in_range : (w : WorldValue) (n : ℕ) (m : StoredMarket) → market_in_range w m ≡ true
    → (as_u32 m.region == n) ≡ true → IsStockInRange w n m
row_stock_in_range w n m range of =
    subst (λ k. IsStockInRange w k m) (is_equal (as_u32 m.region) n of) (in_range 1 (stock_limit w (as_u32 m.region) (as_u32 m.item)) most_u32 m.stock (omega arith) range)

stocks_in_range : (w : WorldValue) (n : ℕ) (markets : List StoredMarket) → list_all (market_in_range w) markets ≡ true
    → Every (λ i amount. (1 ≤ amount) × (amount ≤ stock_limit w n i)) (stocks_of n markets)
stocks_in_range w n markets all =
    every_by (λ m. as_u32 m.item) (λ m. as_u32 m.stock) (λ i amount. (1 ≤ amount) × (amount ≤ stock_limit w n i)) (filter (λ m. as_u32 m.region == n) markets)
    (kept (λ m. as_u32 m.region == n) (IsStockInRange w n) markets (each_passes (market_in_range w) (λ m. (as_u32 m.region == n) ≡ true → IsStockInRange w n m) (row_stock_in_range w n) markets all))

region_ranges : (w : WorldValue) (markets : List StoredMarket) (r : StoredRegion)
    → list_all (market_in_range w) markets ≡ true → region_in_range r ≡ true
    → IsRegion w (as_u32 r.number) (region_of markets r)
region_ranges w markets r all h =
    let parts = and_parts (is_from 0 most_amount r.peasants) (is_from 0 most_amount r.money) h in
    record {
      peasants = (in_range 0 most_amount most_u32 r.peasants (omega arith) parts.0).1;
      money = (in_range 0 most_amount most_u32 r.money (omega arith) parts.1).1;
      stocks = stocks_in_range w (as_u32 r.number) markets all;
    }

structure_ranges : (w : WorldValue) (r : StoredStructure) → structure_in_range w r ≡ true
    → (1 ≤ (structure_of r).done) × ((structure_of r).done ≤ size_of w (structure_of r).kind)
structure_ranges w r h =
    let size = size_of w (as_u16 r.kind) in
    in_range 1 size most_u32 r.done (omega arith) (and_parts (is_from 1 most_structures r.number) (is_from 1 size r.done) h).1

-- the numbers that are read from a row of `unit` in range are in their ranges
pub unit_numbers : (r : StoredUnit) → unit_in_range r ≡ true → AreFrom unit_columns (read_row unit_columns (unit_fields r))
unit_numbers r h = read_from unit_columns refl true (unit_fields r) h

unit_ranges_read : (has : List StoredHas) (r : StoredUnit) → list_all has_in_range has ≡ true → unit_in_range r ≡ true
    → (1 ≤ as_u32 r.number) × IsHolding (unit_of has r).holding
unit_ranges_read has r all h =
    let (least, most, (some, men, (none, money, rest))) = unit_numbers r h in
    (least, record { men = men; money = money; items = AreAmounts-had (as_u32 r.number) has all })

-- the campaign row and all rows of the other tables, but for mail and reports, pass the test of their ranges
pub record NumberRanges (w : WorldValue) (p : Parts) : Type 0 where
  pub head : campaign_row_in_range (campaign_row_of p) ≡ true
  pub factions : list_all faction_in_range p.factions ≡ true
  pub regions : list_all region_in_range p.regions ≡ true
  pub units : list_all unit_in_range p.units ≡ true
  pub has : list_all has_in_range p.has ≡ true
  pub structures : list_all (structure_in_range w) p.structures ≡ true
  pub books : list_all (books_in_range (books_bound p)) p.books ≡ true
  pub markets : list_all (market_in_range w) p.markets ≡ true

pub number_ranges : (w : WorldValue) (p : Parts) → numbers_in_range w p ≡ true → NumberRanges w p
number_ranges w p h =
    let head = campaign_row_in_range (campaign_row_of p) in
    let people = first_tables_in_range p in
    let structures = list_all (structure_in_range w) p.structures in
    let books = list_all (books_in_range (books_bound p)) p.books in
    let markets = list_all (market_in_range w) p.markets in
    let factions = list_all faction_in_range p.factions in
    let regions = list_all region_in_range p.regions in
    let units = list_all unit_in_range p.units in
    let has = list_all has_in_range p.has in
    let whole = and_parts (((head && people) && structures) && books) markets h in
    let last = and_parts ((head && people) && structures) books whole.0 in
    let third = and_parts (head && people) structures last.0 in
    let first = and_parts head people third.0 in
    let fourth = and_parts ((factions && regions) && units) has first.1 in
    let second = and_parts (factions && regions) units fourth.0 in
    let start = and_parts factions regions second.0 in
    record { head = first.0; factions = start.0; regions = start.1; units = second.1; has = fourth.1; structures = third.1; books = last.1; markets = whole.1 }

-- the month and the next numbers of a campaign row are in their ranges
pub record HeadRanges (h : StoredCampaignRow) : Type 0 where
  pub month : is_from 0 last_month h.month ≡ true
  pub next_faction : is_from 1 (last_faction + 1) h.next_faction ≡ true
  pub next_unit : is_from 1 (last_unit + 1) h.next_unit ≡ true
  pub next_structure : is_from 1 (most_structures + 1) h.next_structure ≡ true

pub head_ranges : (h : StoredCampaignRow) → campaign_row_in_range h ≡ true → HeadRanges h
head_ranges h e =
    let month = is_from 0 last_month h.month in
    let faction = is_from 1 (last_faction + 1) h.next_faction in
    let unit = is_from 1 (last_unit + 1) h.next_unit in
    let structure = is_from 1 (most_structures + 1) h.next_structure in
    let outer = and_parts ((month && faction) && unit) structure e in
    let middle = and_parts (month && faction) unit outer.0 in
    let inner = and_parts month faction middle.0 in
    record { month = inner.0; next_faction = inner.1; next_unit = middle.1; next_structure = outer.1 }

-- the tables of factions, regions, units and structures have no more rows than their limits
pub record HaveFewRows (p : Parts) : Type 0 where
  pub factions : length p.factions ≤ last_faction
  pub regions : length p.regions ≤ most_regions
  pub units : length p.units ≤ most_units
  pub structures : length p.structures ≤ most_structures

pub counts : (p : Parts) → are_few p ≡ true → HaveFewRows p
counts p h =
    let factions = nat_le (length p.factions) last_faction in
    let regions = nat_le (length p.regions) most_regions in
    let units = nat_le (length p.units) most_units in
    let structures = nat_le (length p.structures) most_structures in
    let outer = and_parts ((factions && regions) && units) structures h in
    let middle = and_parts (factions && regions) units outer.0 in
    let inner = and_parts factions regions middle.0 in
    record { factions = from_le _ _ inner.0; regions = from_le _ _ inner.1; units = from_le _ _ middle.1; structures = from_le _ _ outer.1 }

module _ (w : WorldValue) (p : Parts) (h : AreRowsInRange w p) where
  -- each unit that is read from rows in range has at least one man
  pub HaveMen-said : HaveMen (campaign_of w p)
  unfolding campaign_of
  HaveMen-said =
      let ranges = number_ranges w p h.numbers in
      by_number-every (λ r. as_u32 r.number) (unit_of p.has) (λ n u. 1 ≤ u.holding.men) unit_in_range (λ r good. (unit_numbers r good).2.0) p.units ranges.units

  -- the counts and numbers of the campaign assembled from rows in range are in their ranges (AreInRange)
  pub AreInRange-said : AreInRange w (campaign_of w p)
  unfolding campaign_of
  AreInRange-said =
      let ranges = number_ranges w p h.numbers in
      let head = head_ranges (campaign_row_of p) ranges.head in
      let few = counts p h.few in
      let unit = in_range 1 (last_unit + 1) most_u32 (campaign_row_of p).next_unit (omega arith) head.next_unit in
      record {
        month = (in_range 0 last_month most_u32 (campaign_row_of p).month (omega arith) head.month).1;
        few_factions = omega (arith, by_number-len (λ (r : StoredFaction). as_u32 r.number) faction_of p.factions, few.factions);
        few_regions = omega (arith, by_number-len (λ (r : StoredRegion). as_u32 r.number) (region_of p.markets) p.regions, few.regions);
        few_units = omega (arith, by_number-len (λ (r : StoredUnit). as_u32 r.number) (unit_of p.has) p.units, few.units);
        few_structures = omega (arith, by_number-len (λ (r : StoredStructure). as_u32 r.number) structure_of p.structures, few.structures);
        next_unit_least = unit.0;
        next_unit_most = unit.1;
        factions = by_number-every (λ r. as_u32 r.number) faction_of (λ n f. f.number ≡ n) faction_in_range (λ r good. refl) p.factions ranges.factions;
        regions = by_number-every (λ r. as_u32 r.number) (region_of p.markets) (λ n r. IsRegion w n r) region_in_range (λ r good. region_ranges w p.markets r ranges.markets good) p.regions ranges.regions;
        units = by_number-every (λ r. as_u32 r.number) (unit_of p.has) (λ n u. (1 ≤ n) × IsHolding u.holding) unit_in_range (λ r good. unit_ranges_read p.has r ranges.has good) p.units ranges.units;
        structures = by_number-every (λ r. as_u32 r.number) structure_of (λ n s. (1 ≤ s.done) × (s.done ≤ size_of w s.kind)) (structure_in_range w) (λ r good. structure_ranges w r good) p.structures ranges.structures;
        books = put-books (thing_count w) p.books (no_amounts (thing_count w)) (AreBooks-no_amounts (thing_count w));
      }
