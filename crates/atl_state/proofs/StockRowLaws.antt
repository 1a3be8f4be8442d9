-- Laws of the rows of the table `market`: regions assembled from rows are written as the same rows, in some order.
-- `markets` are these rows, m is one of them, `regions` are the rows of the table `region`, and n is a region's number.
use Rattle.std.proofs.Common.{◌≡◌, ◌==◌, ℕ, List, Bool, true, false, not, map, filter, sym, ap, ◌∙◌}
use Rattle.std.specs.Prelude.{pos}
use Rattle.std.specs.List.{flat_map, AllByRecursion, IsDistinct}
use Rattle.std.specs.List.Sorted.{IsPermutation}
use Rattle.std.specs.FinMap.{entries}
use Rattle.std.proofs.lemmas.List.Sorted.{IsPermutation-sym, IsPermutation-trans}
use Rattle.atl_world.specs.declared.format.Format.TheVariants.{Second}
use Rattle.atl_rows.specs.declared.parts.StoredMarket.{StoredMarket}
use Rattle.atl_rows.specs.declared.parts.StoredRegion.{StoredRegion}
use Rattle.atl_records.specs.declared.records.Region.{Region}
use Rattle.atl_campaign.specs.FromRows.{as_u32, stocks_of, region_of, by_number}
use Rattle.atl_campaign.specs.RowRules.{Key, market_key}
use Rattle.atl_campaign.specs.Rows.{is_zero, market_row, stock_rows, market_rows}
use Rattle.atl_campaign.proofs.GroupLaws as group
use Rattle.atl_campaign.proofs.GroupLaws.{gathered, lines_order}
use Rattle.atl_campaign.proofs.HasLaws.{FitsU32, is_same_key, ties_itself}
use Rattle.atl_campaign.proofs.MapOfRowsLaws.{HaveDistinctNumbers, HasNumber, flat_order}
use Rattle.atl_world.proofs.GeneralLaws.{is_equal, each_follows}

-- the region and the item of a row of `market` fit 32 bits, so both are read as they are
pub record HasWholeKey (m : StoredMarket) : Type 0 where
  pub region : FitsU32 m.region
  pub item : FitsU32 m.item

-- the region, the item and the stock of a row of `market` fit 32 bits, and the stock is not 0
pub record IsExactMarket (m : StoredMarket) : Type 0 where
  pub keys : HasWholeKey m
  pub stock : FitsU32 m.stock
  pub some : is_zero m.stock ≡ false

abbrev item_of : StoredMarket → ℕ
item_of m = as_u32 m.item

abbrev stock_of : StoredMarket → ℕ
stock_of m = as_u32 m.stock

-- whether the region of a row of `market`, as it is read, is n
abbrev pub is_row_of_region : ℕ → StoredMarket → Bool
is_row_of_region n m = as_u32 m.region == n

abbrev IsStockIn : ℕ → StoredMarket → Type 0
IsStockIn n m = HasWholeKey m × (is_row_of_region n m ≡ true)

its_region : (n : ℕ) (m : StoredMarket) → IsStockIn n m → m.region ≡ pos n
its_region n m (keys, of) = keys.region ∙ ap pos (is_equal (as_u32 m.region) n of)

same_row : (n : ℕ) (m : StoredMarket) → IsStockIn n m → FitsU32 m.stock → market_row n (item_of m) (stock_of m) ≡ m
same_row n m here stock =
    λ i. record { region = sym (its_region n m here) i; item = sym here.0.item i; stock = sym stock i }

same_key : (n : ℕ) (m k : StoredMarket) → IsStockIn n m → IsStockIn n k → item_of m ≡ item_of k
    → ◌≡◌ {A = Key} (market_key k) (market_key m)
same_key n m k a b e =
    let region = its_region n k b ∙ sym (its_region n m a) in
    let item = b.0.item ∙ sym (ap pos e) ∙ sym a.0.item in
    λ i. (region i, item i, pos 0)

-- no two rows of `market` of region n are of one item, if keys are read as they are, and no two rows have the same key
pub items_apart : (n : ℕ) (markets : List StoredMarket) → AllByRecursion HasWholeKey markets
    → IsDistinct is_same_key (map market_key markets)
    → HaveDistinctNumbers item_of (filter (is_row_of_region n) markets)
items_apart n =
    group.things_apart market_key is_same_key ties_itself item_of (is_row_of_region n) HasWholeKey (same_key n)

-- if all rows are exact (`IsExactMarket`) and their keys differ, the stocks read for region n are written as its rows,
-- in some order
stocks_are_written_as_rows : (n : ℕ) (markets : List StoredMarket) → AllByRecursion IsExactMarket markets
    → IsDistinct is_same_key (map market_key markets)
    → IsPermutation (stock_rows n (entries (stocks_of n markets))) (filter (is_row_of_region n) markets)
stocks_are_written_as_rows n markets all d =
    lines_order item_of stock_of (market_row n) (λ m. not (is_zero m.stock)) (filter (is_row_of_region n) markets) (items_apart n markets (each_follows IsExactMarket HasWholeKey (λ m one. one.keys) markets all) d)
    (each_follows (λ m. IsExactMarket m × (is_row_of_region n m ≡ true)) (λ m. (market_row n (item_of m) (stock_of m) ≡ m) × (not (is_zero m.stock) ≡ true)) (λ m here. (same_row n m (here.0.keys, here.1) here.0.stock, ap not here.0.some)) (filter (is_row_of_region n) markets) (group.all_mine market_key is_same_key ties_itself item_of (is_row_of_region n) IsExactMarket markets all))

abbrev region_lines : ℕ × Region → List StoredMarket
region_lines e = stock_rows e.0 (entries e.1.stocks)

-- if regions have different numbers, and rows of `market` are exact (`IsExactMarket`), of these regions, and differ in
-- keys, the regions read with them are written, in the second format, as these rows, in some order
pub regions_are_written_as_rows : (markets : List StoredMarket) (regions : List StoredRegion)
    → HaveDistinctNumbers (λ r. as_u32 r.number) regions
    → AllByRecursion (λ m. HasNumber (λ r. as_u32 r.number) regions (as_u32 m.region)) markets
    → AllByRecursion IsExactMarket markets → IsDistinct is_same_key (map market_key markets)
    → IsPermutation (market_rows Second (entries (by_number (λ r. as_u32 r.number) (region_of markets) regions))) markets
regions_are_written_as_rows markets regions apart of all d =
    let lines = λ (r : StoredRegion). region_lines (as_u32 r.number, region_of markets r) in
    let said = flat_map lines regions in
    let listed = market_rows Second (entries (by_number (λ r. as_u32 r.number) (region_of markets) regions)) in
    IsPermutation-trans listed said markets (IsPermutation-sym said listed (flat_order (λ r. as_u32 r.number) (region_of markets) region_lines regions apart))
    (gathered (λ m. as_u32 m.region) (λ r. as_u32 r.number) lines regions markets (λ r. stocks_are_written_as_rows (as_u32 r.number) markets all d) apart of)
