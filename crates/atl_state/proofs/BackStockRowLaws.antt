-- Laws of reading stocks back: the rows of the table `market`, in any order, give each region its stocks again.
-- n and r are a region's number and the region, i an item, a its stock, and `rows` the rows of `market`.
-- In the last laws `rows` are the regions' rows in any order, and what is in stock fits 32 bits (`few`: AreStocked).
use Rattle.std.proofs.Common.{◌≡◌, ℕ, ◌≤◌, ◌<◌, List, true, false, Some, refl, sym, ap, ◌∙◌, arith}
use Rattle.std.specs.Prelude.{pos, Bool}
use Rattle.std.specs.List.{AllByRecursion, IsDistinct}
use Rattle.std.specs.List.Sorted.{IsPermutation}
use Rattle.std.specs.Ordering.{nat_cmp}
use Rattle.std.specs.FinMap.{FinMap, get, entries}
use Rattle.std.proofs.lemmas.Bool.Decides.{nat_tests}
use Rattle.atl_world.specs.declared.format.Format.TheVariants.{Second}
use Rattle.atl_records.specs.Limits.{most_u32}
use Rattle.atl_rows.specs.declared.parts.StoredMarket.{StoredMarket}
use Rattle.atl_records.specs.declared.records.Region.{Region}
use Rattle.atl_campaign.specs.FromRows.{as_u32, stocks_of}
use Rattle.atl_world.specs.Every.{Every}
use Rattle.atl_campaign.specs.RowRules.{market_key, HaveDistinctKeys}
use Rattle.atl_campaign.specs.Rows.{is_zero, market_row, stock_rows, market_rows}
use Rattle.atl_state.proofs.BackGroupLaws.{groups_each, each_group, lines_each, each_line, lines_apart, amounts_back}
use Rattle.atl_campaign.proofs.ReadBackLaws.{each_permuted, written_is_read, written_fits_u32, apart_keys, flat_apart, entries_rise, keys_permuted, pos_is_injective}
use Rattle.atl_campaign.proofs.HasLaws.{is_same_key}
use Rattle.atl_state.proofs.StockRowLaws.{HasWholeKey, is_row_of_region, items_apart}
use Rattle.atl_world.proofs.GeneralLaws.{is_equal}

abbrev has_zero_stock : StoredMarket → Bool
has_zero_stock m = is_zero m.stock

abbrev stock_rows_of_region : ℕ × Region → List StoredMarket
stock_rows_of_region e = stock_rows e.0 (entries e.1.stocks)

region_apart : (n : ℕ) (stocks : FinMap nat_cmp ℕ)
    → IsDistinct (λ a b. is_same_key (market_key a) (market_key b)) (stock_rows n (entries stocks))
region_apart n stocks =
    lines_apart has_zero_stock (market_row n) stocks (λ a b. is_same_key (market_key a) (market_key b)) (λ i k a b l. apart_keys (market_key (market_row n i a)) (market_key (market_row n k b)) (λ keys. let one = pos_is_injective i k keys.second in omega arith))

nonzero : (a : ℕ) → 1 ≤ a → is_zero (pos a) ≡ false
nonzero a l = grind (arith, nat_tests)

some_same : (r s : Region) → Some r ≡ Some s → r ≡ s
some_same r s e = cc

row_is_of_its_region : (n i a : ℕ) → n ≤ most_u32 → is_row_of_region n (market_row n i a) ≡ true
row_is_of_its_region n i a few = let e = written_is_read n few in grind (arith, nat_tests)

module _ (regions : FinMap nat_cmp Region) where
  -- P holds of each row of `market` if it holds of the row of each stock that is not 0
  pub stocks_each : (P : StoredMarket → Type 0)
      → Every (λ n r. Every (λ i a. is_zero (pos a) ≡ false → P (market_row n i a)) r.stocks) regions
      → AllByRecursion P (market_rows Second (entries regions))
  stocks_each P h =
      groups_each stock_rows_of_region P regions
      (λ n r is. lines_each has_zero_stock (market_row n) r.stocks P (h n r is))

  each_stock : (P : StoredMarket → Type 0) → AllByRecursion P (market_rows Second (entries regions))
      → Every (λ n r. Every (λ i a. is_zero (pos a) ≡ false → P (market_row n i a)) r.stocks) regions
  each_stock P h n r is =
      each_line has_zero_stock (market_row n) r.stocks P (each_group stock_rows_of_region P regions h n r is)

  stocks_apart : IsDistinct (λ a b. is_same_key (market_key a) (market_key b)) (market_rows Second (entries regions))
  stocks_apart =
      flat_apart (λ a b. is_same_key (market_key a) (market_key b)) stock_rows_of_region (λ e f. e.0 < f.0) (λ e m. m.region ≡ pos e.0)
      (λ x y a b l mine yours. apart_keys (market_key a) (market_key b) (λ k. let one = pos_is_injective x.0 y.0 (sym mine ∙ k.first ∙ yours) in omega arith))
      (λ e. lines_each has_zero_stock (market_row e.0) e.1.stocks (λ m. m.region ≡ pos e.0) (λ i a is some. refl)) (λ e. region_apart e.0 e.1.stocks) (entries regions) (entries_rise regions)

  -- the numbers of regions and of items in stock fit 32 bits, and each listed stock is from 1 to most_u32
  pub record AreStocked : Type 0 where
    pub numbers : Every (λ n r. n ≤ most_u32) regions
    pub stocks : Every (λ n r. Every (λ i a. (i ≤ most_u32) × (1 ≤ a) × (a ≤ most_u32)) r.stocks) regions

  module _ (few : AreStocked) (rows : List StoredMarket) (h : IsPermutation (market_rows Second (entries regions)) rows) where
    -- the rows of `market`, in any order, have distinct keys
    pub market_keys : HaveDistinctKeys market_key rows
    market_keys = keys_permuted market_key (market_rows Second (entries regions)) rows h stocks_apart

    all_keyed : AllByRecursion HasWholeKey rows
    all_keyed =
        each_permuted HasWholeKey (market_rows Second (entries regions)) rows h (stocks_each HasWholeKey (λ n r there i a is some. record { region = written_fits_u32 n (few.numbers n r there); item = written_fits_u32 i (few.stocks n r there i a is).0 }))

    -- the stocks that the rows of `market`, in any order, give a region are those that the region has
    pub stocks_back : (n : ℕ) (r : Region) → get regions n ≡ Some r → stocks_of n rows ≡ r.stocks
    stocks_back n r there =
        amounts_back (λ m. as_u32 m.item) (λ m. as_u32 m.stock) (is_row_of_region n) r.stocks (market_rows Second (entries regions)) rows h (items_apart n rows all_keyed market_keys)
        (stocks_each (λ m. is_row_of_region n m ≡ true → get r.stocks (as_u32 m.item) ≡ Some (as_u32 m.stock)) (λ k v at i a is some of.
        let here : k ≡ n = sym (written_is_read k (few.numbers k v at)) ∙ is_equal (as_u32 (pos k)) n of in
        let small = few.stocks k v at i a is in
        let one = some_same v r (sym at ∙ ap (get regions) here ∙ there) in
        ap (get r.stocks) (written_is_read i small.0) ∙ ap (λ (x : Region). get x.stocks i) (sym one) ∙ is ∙ ap (λ x. Some x) (sym (written_is_read a small.2))))
        (λ P all i a is.
        let small = few.stocks n r there i a is in
        let shown = each_stock (λ m. is_row_of_region n m ≡ true → P m) all n r there i a is (nonzero a small.1) (row_is_of_its_region n i a (few.numbers n r there)) in
        (market_row n i a, written_is_read i small.0, written_is_read a small.2, shown))
