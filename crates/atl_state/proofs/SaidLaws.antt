-- Laws of rows that keep the rules: the campaign assembled from them is written as just these rows, in some order.
-- w is the world, f the format of the tables, and p are the rows, which keep the rules in RowsKeep. z is a number in a
-- row; `FitsU32 z` says that it is read as it is.
use Rattle.std.proofs.Common.{◌≡◌, ◌≢◌, ◌==◌, ℕ, zero, suc, ◌≤◌, ◌<◌, ◌+◌, ◌&&◌, ◌⊎◌, List, [], ◌∷◌, true, false, not, Some, None, Option, length, nat_le, nat_lt, refl, sym, ap, subst, ◌∙◌, arith, inl, inr}
use Rattle.std.specs.Prelude.{ℤ, pos, negsuc, min, is_some, filter, option_and_then, slice_index_or}
use Rattle.std.specs.List.{list_all, slice_get, AllByRecursion}
use Rattle.std.specs.List.Sorted.{IsPermutation}
use Rattle.std.specs.Option.{option_map_or}
use Rattle.std.specs.Ordering.{nat_cmp}
use Rattle.std.specs.FinMap.{FinMap, get, entries}
use Rattle.std.proofs.lemmas.Bool.{and_parts, false≢true, not-true, or_cases}
use Rattle.std.proofs.lemmas.Bool.Decides.{nat_tests}
use Rattle.std.proofs.lemmas.List.Sorted.{IsPermutation-refl}
use Rattle.atl_world.specs.Formats.{format_number}
use Rattle.atl_world.specs.Limits.{most_amount, most_size, last_region}
use Rattle.atl_world.specs.Worlds.{WorldValue, IsWorld}
use Rattle.atl_world.specs.declared.format.Format.{Format}
use Rattle.atl_world.specs.declared.format.Format.TheVariants.{First, Second}
use Rattle.atl_world.specs.declared.world.Kind.{Kind}
use Rattle.atl_world.specs.declared.world.Market.{Market}
use Rattle.atl_world.specs.declared.world.RegionPlan.{RegionPlan}
use Rattle.atl_world.specs.ByNumber.{market_of, size_of}
use Rattle.atl_words.specs.Limits.{last_faction}
use Rattle.atl_rows.specs.declared.parts.Parts.{Parts}
use Rattle.atl_rows.specs.declared.parts.StoredCampaignRow.{StoredCampaignRow}
use Rattle.atl_rows.specs.declared.parts.StoredFaction.{StoredFaction}
use Rattle.atl_rows.specs.declared.parts.StoredRegion.{StoredRegion}
use Rattle.atl_rows.specs.declared.parts.StoredUnit.{StoredUnit}
use Rattle.atl_rows.specs.declared.parts.StoredHas.{StoredHas}
use Rattle.atl_rows.specs.declared.parts.StoredStructure.{StoredStructure}
use Rattle.atl_rows.specs.declared.parts.StoredBooks.{StoredBooks}
use Rattle.atl_rows.specs.declared.parts.StoredMarket.{StoredMarket}
use Rattle.atl_records.specs.declared.records.Region.{Region}
use Rattle.atl_records.specs.declared.records.Unit.{Unit}
use Rattle.atl_records.specs.Books.{no_amounts}
use Rattle.atl_campaign.specs.Founding.{thing_count}
use Rattle.atl_campaign.specs.FromRows.{as_u32, as_u16, is_of_unit_and_sort, faction_of, region_of, structure_of, unit_of, things_had, by_number, with_books_rows, no_campaign_row, campaign_row_of, campaign_of}
use Rattle.atl_world.specs.Every.{Every, HasValue}
use Rattle.atl_campaign.specs.Good.{IsPlaced, IsBuilt, AreKnown, AreDays}
use Rattle.atl_records.specs.Limits.{last_month, last_unit, men_limit, holding_limit, most_structures, entry_count, entries_in, most_u16, most_u32}
use Rattle.atl_campaign.specs.RowRules.{one_key, is_from, is_one_campaign_row, are_of_format, campaign_row_in_range, faction_in_range, region_in_range, unit_in_range, has_in_range, structure_in_range, books_in_range, books_bound, market_in_range, is_within, faction_key, region_key, unit_key, structure_key, mail_key, report_key, AreRowsInRange, is_of_unit, is_of_market, is_entry_in, is_booked}
use Rattle.atl_campaign.specs.Rows.{is_zero, rows_by, faction_row, region_row, unit_row, structure_row, mail_row, report_row, has_rows, books_rows, market_rows, AreRowsOf, rows_of}
use Rattle.atl_campaign.specs.Stocks.{stock_limit}
use Rattle.atl_campaign.proofs.AssemblyLaws.{from_range}
use Rattle.atl_campaign.proofs.ColumnLaws.{fields_back, flag_whole, whole_below}
use Rattle.atl_rows.specs.UnitColumns.{unit_columns, unit_fields, unit_of_fields}
use Rattle.atl_records.proofs.BookLaws.{failing_is_nonzero}
use Rattle.atl_state.proofs.BooksRowLaws.{IsBooked, booked_row, assembled_books_have_rows}
use Rattle.atl_campaign.proofs.FromRowLaws.{from_le, by_number-every, unit_numbers, number_ranges, head_ranges, NumberRanges}
use Rattle.atl_campaign.proofs.GroupLaws.{unkept}
use Rattle.atl_campaign.proofs.HasLaws.{FitsU32, KeyFitsU32, IsExactGoods, IsOfUnits, is_same_key, ties_itself, things_apart, has_rows_are_rewritten}
use Rattle.atl_campaign.proofs.MarketLaws.{market_known}
use Rattle.atl_state.proofs.StockRowLaws as market
use Rattle.atl_campaign.proofs.MapOfRowsLaws.{HaveDistinctNumbers, HasNumber, HaveDistinctNumbers-keys, rows_order, rows_there, rows_found, each_row, row_of, each_passes}
use Rattle.atl_world.proofs.GeneralLaws.{each_follows_from_two, each_follows}

-- ---- numbers that are read as they are

min_less : (n m : ℕ) → min n m < m → min n m ≡ n
min_less n m h = grind arith

whole16 : (z : ℤ) → as_u16 z < most_u16 → z ≡ pos (as_u16 z)
whole16 (pos n) h = ap pos (sym (min_less n most_u16 h))
whole16 (negsuc n) h = absurd (omega arith)

-- two numbers that fit 32 bits, and are different keys, are read as different numbers
pub one_apart : (x y : ℤ) → FitsU32 x → FitsU32 y → is_same_key (one_key x) (one_key y) ≡ false → as_u32 y ≢ as_u32 x
one_apart x y a b d e =
    let one : x ≡ y = a ∙ ap pos (sym e) ∙ sym b in
    false≢true (sym (ap (λ z. is_same_key (one_key x) (one_key z)) one ∙ d) ∙ ties_itself (one_key x))

-- a number of a map is at most `most`, if all its numbers are
pub there_below : {V : Type 0} (m : FinMap nat_cmp V) (n most : ℕ) → Every (λ k v. k ≤ most) m → HasValue m n → n ≤ most
there_below m n most every there = every n there.0 there.1

-- a number that is 0 or in a map is at most `most`, if all numbers of the map are
pub none_or_below : {V : Type 0} (m : FinMap nat_cmp V) (n most : ℕ) → Every (λ k v. k ≤ most) m
    → (n ≢ 0 → HasValue m n) → n ≤ most
none_or_below m zero most every there = omega arith
none_or_below m (suc n) most every there = there_below m (suc n) most every (there (λ e. absurd (omega arith)))

-- ---- the rules that are needed

-- the world keeps its rules, and rows those by which they are just the rows of the campaign read from them
pub record RowsKeep (f : Format) (w : WorldValue) (p : Parts) : Type 0 where
  pub world : IsWorld w
  -- rule 1: there is exactly one campaign row, with the id 1 and the number of the format
  pub one : is_one_campaign_row f p.campaign ≡ true
  -- rule 1: there are only rows of the table `market` that the format may have: in the first none, in the second any
  pub format : are_of_format f p.markets ≡ true
  -- rule 2: keys differ, numbers are in their ranges, and there are not too many rows
  pub range : AreRowsInRange w p
  -- rule 4: the regions read from the rows are the world's, and all that the campaign read from the rows names exists
  pub known : AreKnown w (campaign_of w p)
  -- rule 4: each row of the table `has` (items and days of study) is of a unit that exists
  pub held : list_all (is_of_unit (campaign_of w p)) p.has ≡ true
  -- rule 4: each row of `market` is of a market of the world
  pub stocked : list_all (is_of_market w) p.markets ≡ true
  -- rule 6: each skill that is listed of a unit has at least 1 day, and at most 450 for each of its men
  pub days : AreDays (campaign_of w p)
  -- rule 11: each row of the table `books` is of an entry of the format and a thing of the world
  pub booked : list_all (is_booked f w) p.books ≡ true

-- ---- the campaign's own row

range_of_one_number : (k : ℕ) (z : ℤ) → k ≤ most_u32 → is_from k k z ≡ true → z ≡ pos k
range_of_one_number k z few h = let range = from_range k k z few h in let n : as_u32 z ≡ k = omega (arith, range.1, range.2) in range.0 ∙ ap pos n

small_format : (f : Format) → format_number f ≤ most_u32
small_format First = omega arith
small_format Second = omega arith

abbrev head_as_read : Format → StoredCampaignRow → StoredCampaignRow
head_as_read f h =
    record { id = pos 1; format = pos (format_number f); month = pos (as_u32 h.month); next_faction = pos (as_u32 h.next_faction); next_unit = pos (as_u32 h.next_unit); next_structure = pos (as_u32 h.next_structure); pass = h.pass }

-- if rule 1 holds and the campaign row is in range, writing what is read of this row gives the table's one row again
one_head : (f : Format) (rows : List StoredCampaignRow) → is_one_campaign_row f rows ≡ true
    → campaign_row_in_range (slice_index_or rows 0 no_campaign_row) ≡ true
    → head_as_read f (slice_index_or rows 0 no_campaign_row) ∷ [] ≡ rows
one_head f [] e r = absurd (false≢true e)
one_head f (h ∷ []) e r =
    let both = and_parts (is_from 1 1 h.id) (is_from (format_number f) (format_number f) h.format) e in
    let parts = head_ranges h r in
    let id = range_of_one_number 1 h.id (omega arith) both.0 in
    let format = range_of_one_number (format_number f) h.format (small_format f) both.1 in
    let month = (from_range 0 last_month h.month (omega arith) parts.month).0 in
    let faction = (from_range 1 (last_faction + 1) h.next_faction (omega arith) parts.next_faction).0 in
    let unit = (from_range 1 (last_unit + 1) h.next_unit (omega arith) parts.next_unit).0 in
    let structure = (from_range 1 (most_structures + 1) h.next_structure (omega arith) parts.next_structure).0 in
    λ i. record { id = sym id i; format = sym format i; month = sym month i; next_faction = sym faction i; next_unit = sym unit i; next_structure = sym structure i; pass = h.pass } ∷ []
one_head f (h ∷ other ∷ rows) e r = absurd (false≢true e)

-- ---- lists of facts

all_forall : {R : Type 0} (P : ℕ → R → Type 0) (rows : List R) → ((n : ℕ) → AllByRecursion (P n) rows)
    → AllByRecursion (λ r. (n : ℕ) → P n r) rows
all_forall P [] h = tt
all_forall P (r ∷ rows) h = (λ n. (h n).0, all_forall P rows (λ n. (h n).1))

some_there : {V : Type 0} (o : Option V) → is_some o ≡ true → (v : V) × (o ≡ Some v)
some_there None h = absurd (false≢true h)
some_there (Some v) h = (v, refl)

whole_not_zero : (z : ℤ) → FitsU32 z → 1 ≤ as_u32 z → is_zero z ≡ false
whole_not_zero (pos n) whole h = let apart : n ≢ 0 = λ e. let zero_read : as_u32 (pos n) ≡ 0 = ap (λ m. as_u32 (pos m)) e in omega arith in grind (arith, nat_tests)
whole_not_zero (negsuc n) whole h = refl

is_of_itself : (h : StoredHas) → is_of_unit_and_sort (as_u32 h.unit) (as_u32 h.sort) h ≡ true
is_of_itself h =
    let unit : (as_u32 h.unit == as_u32 h.unit) ≡ true = grind (arith, nat_tests) in
    let sort : (as_u32 h.sort == as_u32 h.sort) ≡ true = grind (arith, nat_tests) in
    ap (λ b. b && (as_u32 h.sort == as_u32 h.sort)) unit ∙ sort

size_small : (o : Option Kind) → ((x : Kind) → o ≡ Some x → x.size ≤ most_size)
    → option_map_or (λ (x : Kind). x.size) o most_size ≤ most_size
size_small None h = omega arith
size_small (Some x) h = h x refl

-- if w keeps the rules of worlds, each kind's size is at most most_size; a kind that w lacks counts as one of this size
pub small_size : (w : WorldValue) → IsWorld w → (kind : ℕ) → size_of w kind ≤ most_size
small_size w world kind = size_small (slice_get w.kinds kind) (λ x is. (world.kinds kind x is).size)

-- ---- markets

market_there : (regions : FinMap nat_cmp RegionPlan) (i : ℕ) (n : ℕ) (o : Option RegionPlan) → get regions n ≡ o
    → is_some (option_and_then (λ (q : RegionPlan). get q.markets i) o) ≡ true
    → (q : RegionPlan) × (m : Market) × (get regions n ≡ Some q) × (get q.markets i ≡ Some m)
market_there regions i n None is e = absurd (false≢true e)
market_there regions i n (Some q) is e = let found = some_there (get q.markets i) e in (q, found.0, is, found.1)

limit_small : (o : Option Market) → ((m : Market) → o ≡ Some m → m.limit ≤ most_amount)
    → option_map_or (λ (m : Market). m.limit) o most_amount ≤ most_amount
limit_small None h = omega arith
limit_small (Some m) h = h m refl

-- if w keeps the rules of worlds, an item's largest stock in a region is at most most_amount, also without a market
pub small_limit : (w : WorldValue) → IsWorld w → (n i : ℕ) → stock_limit w n i ≤ most_amount
small_limit w world n i =
    limit_small (market_of w n i)
    (λ m is. of_market (market_there w.regions i n (get w.regions n) refl (ap is_some is)) m is)
  where
    some_same : (a b : Market) → Some a ≡ Some b → a ≡ b
    some_same a b e = cc

    of_market : (found : (q : RegionPlan) × (m : Market) × (get w.regions n ≡ Some q) × (get q.markets i ≡ Some m)) (m : Market)
        → market_of w n i ≡ Some m → m.limit ≤ most_amount
    of_market found m is =
        let there = ap (option_and_then (λ (q : RegionPlan). get q.markets i)) found.2 in
        let one = some_same found.1 m (sym found.3 ∙ sym there ∙ is) in
        subst (λ (x : Market). x.limit ≤ most_amount) one ((world.regions n found.0 found.2).markets i found.1 found.3).limit

no_rows : {R : Type 0} (rows : List R) → (length rows == 0) ≡ true → rows ≡ []
no_rows [] h = refl
no_rows (r ∷ rows) h = absurd (grind (arith, nat_tests))

module _ (f : Format) (w : WorldValue) (p : Parts) (k : RowsKeep f w p) where
  -- the numbers of the rows are in their ranges, in each table but `mail` and `report` (NumberRanges)
  pub ranges : NumberRanges w p
  ranges = number_ranges w p k.range.numbers

  -- ---- factions
  faction_number : (r : StoredFaction) → faction_in_range r ≡ true
      → (FitsU32 r.number) × (as_u32 r.number ≤ last_faction)
  faction_number r h = let range = from_range 1 last_faction r.number (omega arith) (and_parts (is_from 1 last_faction r.number) (is_from 0 1 r.gone) h).0 in (range.0, range.2)

  -- the rows of `faction` are read with different numbers
  pub factions_apart : HaveDistinctNumbers (λ r. as_u32 r.number) p.factions
  factions_apart =
      HaveDistinctNumbers-keys faction_key (λ r. as_u32 r.number) is_same_key (λ r. FitsU32 r.number)
      (λ r s. one_apart r.number s.number) p.factions
      (each_passes faction_in_range (λ r. FitsU32 r.number) (λ r h. (faction_number r h).0) p.factions ranges.factions)
      k.range.keys.factions

  few_factions : Every (λ n f. n ≤ last_faction) (by_number (λ r. as_u32 r.number) faction_of p.factions)
  few_factions =
      by_number-every (λ r. as_u32 r.number) faction_of (λ n f. n ≤ last_faction) faction_in_range
      (λ r h. (faction_number r h).1) p.factions ranges.factions

  same_faction : (r : StoredFaction) → faction_in_range r ≡ true → faction_row (as_u32 r.number) (faction_of r) ≡ r
  same_faction r h =
      let gone = flag_whole r.gone (and_parts (is_from 1 last_faction r.number) (is_from 0 1 r.gone) h).1 in
      λ i. record { number = sym (faction_number r h).0 i; joined_as = r.joined_as; name = r.name; pass = r.pass; gone = gone i }

  factions_said : IsPermutation (rows_by faction_row (entries (by_number (λ r. as_u32 r.number) faction_of p.factions))) p.factions
  factions_said =
      rows_order (λ r. as_u32 r.number) faction_of faction_row p.factions factions_apart
      (each_passes faction_in_range (λ r. faction_row (as_u32 r.number) (faction_of r) ≡ r) same_faction p.factions ranges.factions)

  -- ---- regions
  few_regions : (n : ℕ) → HasValue (by_number (λ r. as_u32 r.number) (region_of p.markets) p.regions) n
      → n ≤ last_region
  unfolding campaign_of
  few_regions n there = let known = (k.known.regions n).0 there in (k.world.regions n known.0 known.1).number_most

  regions_whole : AllByRecursion (λ r. FitsU32 r.number) p.regions
  regions_whole =
      each_follows (λ r. HasValue (by_number (λ r. as_u32 r.number) (region_of p.markets) p.regions) (as_u32 r.number)) (λ r. FitsU32 r.number) (λ r there. let few = few_regions (as_u32 r.number) there in whole_below r.number (omega arith)) p.regions
      (rows_there (λ r. as_u32 r.number) (region_of p.markets) p.regions)

  regions_apart : HaveDistinctNumbers (λ r. as_u32 r.number) p.regions
  regions_apart =
      HaveDistinctNumbers-keys region_key (λ r. as_u32 r.number) is_same_key (λ r. FitsU32 r.number)
      (λ r s. one_apart r.number s.number) p.regions regions_whole k.range.keys.regions

  same_region : (r : StoredRegion) → FitsU32 r.number → region_in_range r ≡ true
      → region_row (as_u32 r.number) (region_of p.markets r) ≡ r
  same_region r number h =
      let parts = and_parts (is_from 0 most_amount r.peasants) (is_from 0 most_amount r.money) h in
      let peasants = (from_range 0 most_amount r.peasants (omega arith) parts.0).0 in
      let money = (from_range 0 most_amount r.money (omega arith) parts.1).0 in
      λ i. record { number = sym number i; peasants = sym peasants i; money = sym money i }

  regions_said : IsPermutation (rows_by region_row (entries (by_number (λ r. as_u32 r.number) (region_of p.markets) p.regions))) p.regions
  regions_said =
      rows_order (λ r. as_u32 r.number) (region_of p.markets) region_row p.regions regions_apart
      (each_follows_from_two (λ r. FitsU32 r.number) (λ r. region_in_range r ≡ true) (λ r. region_row (as_u32 r.number) (region_of p.markets r) ≡ r) same_region p.regions regions_whole (each_passes region_in_range (λ r. region_in_range r ≡ true) (λ r h. h) p.regions ranges.regions))

  -- ---- units and structures: their numbers
  unit_number : (r : StoredUnit) → unit_in_range r ≡ true → (FitsU32 r.number) × (as_u32 r.number ≤ last_unit)
  unit_number r h = let most = (unit_numbers r h).1 in (whole_below r.number (omega (arith, most)), most)

  units_apart : HaveDistinctNumbers (λ r. as_u32 r.number) p.units
  units_apart =
      HaveDistinctNumbers-keys unit_key (λ r. as_u32 r.number) is_same_key (λ r. FitsU32 r.number)
      (λ r s. one_apart r.number s.number) p.units
      (each_passes unit_in_range (λ r. FitsU32 r.number) (λ r h. (unit_number r h).0) p.units ranges.units)
      k.range.keys.units

  few_units : Every (λ n u. n ≤ last_unit) (by_number (λ r. as_u32 r.number) (unit_of p.has) p.units)
  few_units =
      by_number-every (λ r. as_u32 r.number) (unit_of p.has) (λ n u. n ≤ last_unit) unit_in_range
      (λ r h. (unit_number r h).1) p.units ranges.units

  structure_number : (r : StoredStructure) → structure_in_range w r ≡ true
      → (FitsU32 r.number) × (as_u32 r.number ≤ most_structures)
  structure_number r h = let range = from_range 1 most_structures r.number (omega arith) (and_parts (is_from 1 most_structures r.number) (is_from 1 (size_of w (as_u16 r.kind)) r.done) h).0 in (range.0, range.2)

  structures_apart : HaveDistinctNumbers (λ r. as_u32 r.number) p.structures
  structures_apart =
      HaveDistinctNumbers-keys structure_key (λ r. as_u32 r.number) is_same_key (λ r. FitsU32 r.number) (λ r s. one_apart r.number s.number) p.structures (each_passes (structure_in_range w) (λ r. FitsU32 r.number) (λ r h. (structure_number r h).0) p.structures ranges.structures)
      k.range.keys.structures

  few_structures : Every (λ n s. n ≤ most_structures) (by_number (λ r. as_u32 r.number) structure_of p.structures)
  few_structures =
      by_number-every (λ r. as_u32 r.number) structure_of (λ n s. n ≤ most_structures) (structure_in_range w)
      (λ r h. (structure_number r h).1) p.structures ranges.structures

  -- ---- units
  same_unit : (r : StoredUnit) → unit_in_range r ≡ true → IsPlaced w (campaign_of w p) (unit_of p.has r)
      → unit_row (as_u32 r.number) (unit_of p.has r) ≡ r
  unfolding campaign_of
  same_unit r h placed =
      let faction_few = there_below (by_number (λ r. as_u32 r.number) faction_of p.factions) (as_u32 r.faction) last_faction few_factions placed.faction in
      let region_few = few_regions (as_u32 r.region) placed.region in
      let structure_few = none_or_below (by_number (λ r. as_u32 r.number) structure_of p.structures) (as_u32 r.structure) most_structures few_structures (λ apart. let there = placed.structure apart in (there.0, there.1)) in
      ap unit_of_fields (fields_back unit_columns refl true (unit_fields r) h (omega (arith, faction_few), (omega (arith, region_few), (omega (arith, structure_few), tt))))

  units_placed : AllByRecursion (λ r. IsPlaced w (campaign_of w p) (unit_of p.has r)) p.units
  unfolding campaign_of
  units_placed =
      each_row (λ r. as_u32 r.number) (unit_of p.has) (λ n u. IsPlaced w (campaign_of w p) u) p.units units_apart
      k.known.units

  units_said : IsPermutation (rows_by unit_row (entries (by_number (λ r. as_u32 r.number) (unit_of p.has) p.units))) p.units
  units_said =
      rows_order (λ r. as_u32 r.number) (unit_of p.has) unit_row p.units units_apart
      (each_follows_from_two (λ r. unit_in_range r ≡ true) (λ r. IsPlaced w (campaign_of w p) (unit_of p.has r)) (λ r. unit_row (as_u32 r.number) (unit_of p.has r) ≡ r) same_unit p.units (each_passes unit_in_range (λ r. unit_in_range r ≡ true) (λ r h. h) p.units ranges.units) units_placed)

  -- ---- structures
  same_structure : (r : StoredStructure) → structure_in_range w r ≡ true → IsBuilt w (campaign_of w p) (structure_of r)
      → structure_row (as_u32 r.number) (structure_of r) ≡ r
  unfolding campaign_of
  same_structure r h built =
      let small = small_size w k.world (as_u16 r.kind) in
      let few_kinds = k.world.few_kinds in
      let kind_few = built.kind in
      let region_few = few_regions (as_u32 r.region) built.region in
      let owner_few = none_or_below (by_number (λ r. as_u32 r.number) (unit_of p.has) p.units) (as_u32 r.owner) last_unit few_units built.owner in
      let kind = whole16 r.kind (omega arith) in
      let region = whole_below r.region (omega arith) in
      let owner = whole_below r.owner (omega arith) in
      let done = (from_range 1 (size_of w (as_u16 r.kind)) r.done (omega arith) (and_parts (is_from 1 most_structures r.number) (is_from 1 (size_of w (as_u16 r.kind)) r.done) h).1).0 in
      λ i. record { number = sym (structure_number r h).0 i; kind = sym kind i; name = r.name; region = sym region i; done = sym done i; owner = sym owner i }

  structures_built : AllByRecursion (λ r. IsBuilt w (campaign_of w p) (structure_of r)) p.structures
  unfolding campaign_of
  structures_built =
      each_row (λ r. as_u32 r.number) structure_of (λ n s. IsBuilt w (campaign_of w p) s) p.structures structures_apart
      k.known.structures

  structures_said : IsPermutation (rows_by structure_row (entries (by_number (λ r. as_u32 r.number) structure_of p.structures))) p.structures
  structures_said =
      rows_order (λ r. as_u32 r.number) structure_of structure_row p.structures structures_apart
      (each_follows_from_two (λ r. structure_in_range w r ≡ true) (λ r. IsBuilt w (campaign_of w p) (structure_of r)) (λ r. structure_row (as_u32 r.number) (structure_of r) ≡ r) same_structure p.structures
      (each_passes (structure_in_range w) (λ r. structure_in_range w r ≡ true) (λ r h. h) p.structures ranges.structures) structures_built)

  -- ---- mail and reports
  mail_whole : AllByRecursion (λ r. FitsU32 r.faction) p.mail
  unfolding campaign_of
  mail_whole =
      each_follows (λ r. HasValue (by_number (λ r. as_u32 r.faction) (λ r. r.text) p.mail) (as_u32 r.faction)) (λ r. FitsU32 r.faction)
      (λ r there. let few = there_below (by_number (λ r. as_u32 r.number) faction_of p.factions) (as_u32 r.faction) last_faction few_factions (k.known.posts.mail (as_u32 r.faction) there.0 there.1) in whole_below r.faction (omega arith)) p.mail
      (rows_there (λ r. as_u32 r.faction) (λ r. r.text) p.mail)

  mail_said : IsPermutation (rows_by mail_row (entries (by_number (λ r. as_u32 r.faction) (λ r. r.text) p.mail))) p.mail
  mail_said =
      rows_order (λ r. as_u32 r.faction) (λ r. r.text) mail_row p.mail
      (HaveDistinctNumbers-keys mail_key (λ r. as_u32 r.faction) is_same_key (λ r. FitsU32 r.faction) (λ r s. one_apart r.faction s.faction) p.mail mail_whole k.range.keys.mail)
      (each_follows (λ r. FitsU32 r.faction) (λ r. mail_row (as_u32 r.faction) r.text ≡ r) (λ r whole. λ i. record { faction = sym whole i; text = r.text }) p.mail mail_whole)

  reports_whole : AllByRecursion (λ r. FitsU32 r.faction) p.reports
  unfolding campaign_of
  reports_whole =
      each_follows (λ r. HasValue (by_number (λ r. as_u32 r.faction) (λ r. r.text) p.reports) (as_u32 r.faction)) (λ r. FitsU32 r.faction)
      (λ r there. let few = there_below (by_number (λ r. as_u32 r.number) faction_of p.factions) (as_u32 r.faction) last_faction few_factions (k.known.posts.reports (as_u32 r.faction) there.0 there.1) in whole_below r.faction (omega arith)) p.reports
      (rows_there (λ r. as_u32 r.faction) (λ r. r.text) p.reports)

  reports_said : IsPermutation (rows_by report_row (entries (by_number (λ r. as_u32 r.faction) (λ r. r.text) p.reports))) p.reports
  reports_said =
      rows_order (λ r. as_u32 r.faction) (λ r. r.text) report_row p.reports
      (HaveDistinctNumbers-keys report_key (λ r. as_u32 r.faction) is_same_key (λ r. FitsU32 r.faction) (λ r s. one_apart r.faction s.faction) p.reports reports_whole k.range.keys.reports)
      (each_follows (λ r. FitsU32 r.faction) (λ r. report_row (as_u32 r.faction) r.text ≡ r) (λ r whole. λ i. record { faction = sym whole i; text = r.text }) p.reports reports_whole)

  -- ---- what units have
  abbrev units : FinMap nat_cmp Unit
  units = by_number (λ r. as_u32 r.number) (unit_of p.has) p.units

  -- a row of `has` is of a skill's days (sort 1), or of an item (sort 0) with an amount from 1 to holding_limit
  abbrev SortOf : StoredHas → Type 0
  SortOf h = (as_u32 h.sort ≡ 1) ⊎ ((as_u32 h.sort ≡ 0) × (is_from 1 holding_limit h.amount ≡ true))

  sort_of : (h : StoredHas) → has_in_range h ≡ true → FitsU32 h.sort × SortOf h
  sort_of h e =
      elim (or_cases (is_from 1 1 h.sort) (is_from 0 0 h.sort && is_from 1 holding_limit h.amount) e) [
        | inl skill ↦ let range = from_range 1 1 h.sort (omega arith) skill in (range.0, inl (omega (arith, range.1, range.2)))
        | inr item ↦
            let parts = and_parts (is_from 0 0 h.sort) (is_from 1 holding_limit h.amount) item in
            let range = from_range 0 0 h.sort (omega arith) parts.0 in
            (range.0, inr (omega (arith, range.1, range.2), parts.1))
      ]

  their_items : Every (λ n u. u.holding.items ≡ things_had n 0 p.has) units
  their_items =
      by_number-every (λ r. as_u32 r.number) (unit_of p.has) (λ n u. u.holding.items ≡ things_had n 0 p.has)
      unit_in_range (λ r h. refl) p.units ranges.units

  their_days : Every (λ n u. u.holding.days ≡ things_had n 1 p.has) units
  their_days =
      by_number-every (λ r. as_u32 r.number) (unit_of p.has) (λ n u. u.holding.days ≡ things_had n 1 p.has)
      unit_in_range (λ r h. refl) p.units ranges.units

  their_men : Every (λ n u. u.holding.men ≤ men_limit) units
  their_men =
      by_number-every (λ r. as_u32 r.number) (unit_of p.has) (λ n u. u.holding.men ≤ men_limit) unit_in_range
      (λ r h. (unit_numbers r h).2.1) p.units ranges.units

  -- the item or skill of a row of `has` is among what all rows of `has` of this sort (0 items, 1 skills) give unit n
  abbrev ThingThere : ℕ → ℕ → StoredHas → Type 0
  ThingThere n sort h = HasValue (things_had n sort p.has) (as_u32 h.thing)

  things_there : AllByRecursion (λ h. (n : ℕ) → (sort : ℕ) → is_of_unit_and_sort n sort h ≡ true → ThingThere n sort h) p.has
  things_there = all_forall (λ n h. (sort : ℕ) → is_of_unit_and_sort n sort h ≡ true → ThingThere n sort h) p.has (λ n. all_forall (λ sort h. is_of_unit_and_sort n sort h ≡ true → ThingThere n sort h) p.has (λ sort.
      unkept (is_of_unit_and_sort n sort) (ThingThere n sort) p.has (rows_there (λ h. as_u32 h.thing) (λ h. as_u32 h.amount) (filter (is_of_unit_and_sort n sort) p.has))))

  held_units : AllByRecursion (λ h. HasValue units (as_u32 h.unit)) p.has
  unfolding campaign_of
  held_units =
      each_passes (is_of_unit (campaign_of w p)) (λ h. HasValue units (as_u32 h.unit))
      (λ h e. some_there (get units (as_u32 h.unit)) e) p.has k.held

  few_things : (n sort thing : ℕ) → HasValue units n → (sort ≡ 1) ⊎ (sort ≡ 0)
      → HasValue (things_had n sort p.has) thing → thing < most_u32
  unfolding campaign_of
  few_things n sort thing there (inl skill) (v, is) =
      let placed = k.known.units n there.0 there.1 in
      let few = k.world.few_skills in
      let at = ap (λ (m : FinMap nat_cmp ℕ). get m thing) (their_days n there.0 there.1) ∙ ap (λ s. get (things_had n s p.has) thing) (sym skill) ∙ is in
      let below = placed.skills thing v at in
      omega arith
  few_things n sort thing there (inr item) (v, is) =
      let placed = k.known.units n there.0 there.1 in
      let few = k.world.few_items in
      let at = ap (λ (m : FinMap nat_cmp ℕ). get m thing) (their_items n there.0 there.1) ∙ ap (λ s. get (things_had n s p.has) thing) (sym item) ∙ is in
      let below = placed.items thing v at in
      omega arith

  either_sort : (h : StoredHas) → SortOf h → (as_u32 h.sort ≡ 1) ⊎ (as_u32 h.sort ≡ 0)
  either_sort h (inl skill) = inl skill
  either_sort h (inr item) = inr item.0

  -- The unit, sort and thing of a row of `has` fit 32 bits, if the row is in range, its unit exists, and its thing is
  -- read for its unit (ThingThere).
  keyed : (h : StoredHas) → (HasValue units (as_u32 h.unit)) × (has_in_range h ≡ true)
      → ((n : ℕ) → (sort : ℕ) → is_of_unit_and_sort n sort h ≡ true → ThingThere n sort h) → KeyFitsU32 h
  keyed h (there, range) thing =
      let unit_few = there_below units (as_u32 h.unit) last_unit few_units there in
      let sort = sort_of h range in
      let thing_few = few_things (as_u32 h.unit) (as_u32 h.sort) (as_u32 h.thing) there (either_sort h sort.1) (thing (as_u32 h.unit) (as_u32 h.sort) (is_of_itself h)) in
      record { unit = whole_below h.unit (omega arith); sort = sort.0; thing = whole_below h.thing thing_few }

  abbrev Placed : StoredHas → Type 0
  Placed h = (HasValue units (as_u32 h.unit)) × (has_in_range h ≡ true)

  all_placed : AllByRecursion Placed p.has
  all_placed =
      each_follows_from_two (λ h. HasValue units (as_u32 h.unit)) (λ h. has_in_range h ≡ true) Placed (λ h a b. (a, b))
      p.has held_units (each_passes has_in_range (λ h. has_in_range h ≡ true) (λ h e. e) p.has ranges.has)

  all_keyed : AllByRecursion KeyFitsU32 p.has
  all_keyed =
      each_follows_from_two Placed
      (λ h. (n : ℕ) → (sort : ℕ) → is_of_unit_and_sort n sort h ≡ true → ThingThere n sort h) KeyFitsU32 keyed p.has
      all_placed things_there

  abbrev IsFound : ℕ → ℕ → StoredHas → Type 0
  IsFound n sort h = get (things_had n sort p.has) (as_u32 h.thing) ≡ Some (as_u32 h.amount)

  all_found : AllByRecursion (λ h. (n : ℕ) → (sort : ℕ) → is_of_unit_and_sort n sort h ≡ true → IsFound n sort h) p.has
  all_found = all_forall (λ n h. (sort : ℕ) → is_of_unit_and_sort n sort h ≡ true → IsFound n sort h) p.has (λ n. all_forall (λ sort h. is_of_unit_and_sort n sort h ≡ true → IsFound n sort h) p.has (λ sort.
      unkept (is_of_unit_and_sort n sort) (IsFound n sort) p.has (rows_found (λ h. as_u32 h.thing) (λ h. as_u32 h.amount) (filter (is_of_unit_and_sort n sort) p.has) (things_apart n sort p.has all_keyed k.range.keys.has))))

  exact_of : (h : StoredHas) → HasValue units (as_u32 h.unit) → SortOf h
      → ((n : ℕ) → (sort : ℕ) → is_of_unit_and_sort n sort h ≡ true → IsFound n sort h)
      → FitsU32 h.amount × (is_zero h.amount ≡ false)
  unfolding campaign_of
  exact_of h there (inl skill) found =
      let n = as_u32 h.unit in
      let men = their_men n there.0 there.1 in
      let at = ap (λ (m : FinMap nat_cmp ℕ). get m (as_u32 h.thing)) (their_days n there.0 there.1) ∙ ap (λ s. get (things_had n s p.has) (as_u32 h.thing)) (sym skill) ∙ found n (as_u32 h.sort) (is_of_itself h) in
      let range = k.days n there.0 there.1 (as_u32 h.thing) (as_u32 h.amount) at in
      let whole = whole_below h.amount (omega (arith, range.0, range.1, men)) in
      (whole, whole_not_zero h.amount whole range.0)
  exact_of h there (inr item) found =
      let range = from_range 1 holding_limit h.amount (omega arith) item.1 in
      (range.0, whole_not_zero h.amount range.0 range.1)

  abbrev KeyedPlaced : StoredHas → Type 0
  KeyedPlaced h = KeyFitsU32 h × Placed h

  -- A row of `has` that is in range, has a unit that exists and a key of 32 bits (`KeyedPlaced`), and whose amount is
  -- found (`IsFound`) is exact (`IsExactGoods`). The numbers of an exact row fit 32 bits, and its amount is not 0.
  exact : (h : StoredHas) → KeyedPlaced h
      → ((n : ℕ) → (sort : ℕ) → is_of_unit_and_sort n sort h ≡ true → IsFound n sort h) → IsExactGoods h
  exact h (keys, (there, range)) found = let amount = exact_of h there (sort_of h range).1 found in record { keys = keys; amount = amount.0; some = amount.1 }

  all_exact : AllByRecursion IsExactGoods p.has
  all_exact =
      each_follows_from_two KeyedPlaced
      (λ h. (n : ℕ) → (sort : ℕ) → is_of_unit_and_sort n sort h ≡ true → IsFound n sort h) IsExactGoods exact p.has
      (each_follows_from_two KeyFitsU32 Placed KeyedPlaced (λ h a b. (a, b)) p.has all_keyed all_placed) all_found

  of_units : (h : StoredHas) → Placed h → IsOfUnits p.units h
  of_units h (there, range) =
      (row_of (λ r. as_u32 r.number) (unit_of p.has) p.units (as_u32 h.unit) there, turned h (sort_of h range).1)
    where
      turned : (h : StoredHas) → SortOf h → (as_u32 h.sort ≡ 0) ⊎ (as_u32 h.sort ≡ 1)
      turned h (inl skill) = inr skill
      turned h (inr item) = inl item.0

  has_said : IsPermutation (has_rows (entries units)) p.has
  has_said =
      has_rows_are_rewritten p.has p.units units_apart
      (each_follows Placed (IsOfUnits p.units) of_units p.has all_placed) all_exact k.range.keys.has

  -- ---- what regions have in stock
  abbrev regions : FinMap nat_cmp Region
  regions = by_number (λ r. as_u32 r.number) (region_of p.markets) p.regions

  exact_market : (m : StoredMarket) → is_of_market w m ≡ true → market_in_range w m ≡ true → market.IsExactMarket m
  exact_market m named range =
      let found = market_there w.regions (as_u32 m.item) (as_u32 m.region) (get w.regions (as_u32 m.region)) refl named in
      let plan = k.world.regions (as_u32 m.region) found.0 found.2 in
      let region_few = plan.number_most in
      let item_few = market_known w k.world (as_u32 m.region) (as_u32 m.item) named in
      let few = k.world.few_items in
      let limit_few = small_limit w k.world (as_u32 m.region) (as_u32 m.item) in
      let stock = from_range 1 (stock_limit w (as_u32 m.region) (as_u32 m.item)) m.stock (omega (arith, limit_few)) range in
      record { keys = record { region = whole_below m.region (omega arith); item = whole_below m.item (omega arith) }; stock = stock.0; some = whole_not_zero m.stock stock.0 stock.1 }

  exact_markets : AllByRecursion market.IsExactMarket p.markets
  exact_markets =
      each_follows_from_two (λ m. is_of_market w m ≡ true) (λ m. market_in_range w m ≡ true) market.IsExactMarket exact_market p.markets (each_passes (is_of_market w) (λ m. is_of_market w m ≡ true) (λ m e. e) p.markets k.stocked)
      (each_passes (market_in_range w) (λ m. market_in_range w m ≡ true) (λ m e. e) p.markets ranges.markets)

  markets_of_regions : AllByRecursion (λ m. HasNumber (λ r. as_u32 r.number) p.regions (as_u32 m.region)) p.markets
  unfolding campaign_of
  markets_of_regions =
      each_passes (is_of_market w) (λ m. HasNumber (λ r. as_u32 r.number) p.regions (as_u32 m.region)) (λ m e.
      let found = market_there w.regions (as_u32 m.item) (as_u32 m.region) (get w.regions (as_u32 m.region)) refl e in
      row_of (λ r. as_u32 r.number) (region_of p.markets) p.regions (as_u32 m.region) ((k.known.regions (as_u32 m.region)).1 (found.0, found.2))) p.markets k.stocked

  -- in the first format there is no row of `market`
  pub none_in_first : f ≡ First → p.markets ≡ []
  none_in_first is = no_rows p.markets (ap (λ g. are_of_format g p.markets) (sym is) ∙ k.format)

  markets_said : IsPermutation (market_rows f (entries regions)) p.markets
  markets_said = elim f as (λ g. f ≡ g → IsPermutation (market_rows g (entries regions)) p.markets) [
    | First ↦ λ is. subst (λ rows. IsPermutation [] rows) (sym (none_in_first is)) (IsPermutation-refl [])
    | Second ↦ λ is. market.regions_are_written_as_rows p.markets p.regions regions_apart markets_of_regions exact_markets k.range.keys.markets
  ] refl

  -- ---- the books

  below_of : (m n : ℕ) → nat_lt m n ≡ true → m < n
  below_of m n h = grind (arith, nat_tests)

  few_entries : (g : Format) → entries_in g ≤ entry_count
  few_entries First = omega arith
  few_entries Second = omega arith

  an_entry : (n : ℕ) → is_entry_in f n ≡ true → (1 ≤ n) × (n ≤ entry_count)
  an_entry n h =
      let parts = and_parts (nat_le 1 n) (nat_le n (entries_in f)) h in
      let few = from_le n (entries_in f) parts.1 in
      let most = few_entries f in
      (from_le 1 n parts.0, omega (arith, few, most))

  its_account : (r : StoredBooks) → is_booked f w r ≡ true → books_in_range (books_bound p) r ≡ true
      → IsBooked (thing_count w) r
  its_account r h range =
      let parts = and_parts (is_entry_in f (as_u32 r.entry)) (nat_lt (as_u32 r.thing) (thing_count w)) h in
      let entry = an_entry (as_u32 r.entry) parts.0 in
      let entry_few = entry.1 in
      let there = below_of (as_u32 r.thing) (thing_count w) parts.1 in
      let few = k.world.few_items in
      let some = failing_is_nonzero r.amount (not-true (is_zero r.amount) (and_parts (not (is_zero r.amount)) (is_within (books_bound p) r.amount) range).0) in
      booked_row (thing_count w) r (whole_below r.entry (omega arith)) (whole_below r.thing (omega arith)) entry.0 entry.1 there some

  -- each row of `books` is that of an entry and a thing of the world, with an amount that isn't 0 (IsBooked)
  pub all_booked : AllByRecursion (IsBooked (thing_count w)) p.books
  all_booked =
      each_follows_from_two (λ r. is_booked f w r ≡ true) (λ r. books_in_range (books_bound p) r ≡ true) (IsBooked (thing_count w)) its_account p.books (each_passes (is_booked f w) (λ r. is_booked f w r ≡ true) (λ r h. h) p.books k.booked)
      (each_passes (books_in_range (books_bound p)) (λ r. books_in_range (books_bound p) r ≡ true) (λ r h. h) p.books ranges.books)

  -- the books assembled from the rows of `books` are written as the same rows, in some order
  pub books_said : IsPermutation (books_rows (with_books_rows p.books (no_amounts (thing_count w)))) p.books
  books_said =
      assembled_books_have_rows (thing_count w) p.books all_booked k.range.keys.books

  -- the campaign assembled from the rows is written as just these rows, in some order
  pub rows_said : AreRowsOf f (campaign_of w p) p
  unfolding campaign_of rows_of
  rows_said = record {
    campaign = subst (λ rows. IsPermutation (head_as_read f (campaign_row_of p) ∷ []) rows) (one_head f p.campaign k.one ranges.head) (IsPermutation-refl (head_as_read f (campaign_row_of p) ∷ []));
    factions = factions_said;
    regions = regions_said;
    units = units_said;
    has = has_said;
    structures = structures_said;
    mail = mail_said;
    reports = reports_said;
    books = books_said;
    markets = markets_said;
  }
