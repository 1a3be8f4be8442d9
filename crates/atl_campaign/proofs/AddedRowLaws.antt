-- Laws of assembling units and regions by adding each row of goods to its unit, and each row of stock to its region.
-- In `units_with_rows` and `regions_with_rows`, `has` are rows of the table `has` (goods: items and days of study),
-- `markets` those of the table `market` (stocks), and `rows` those of the units or regions. By these laws the result is
-- what each unit or region is with all its rows at once.
use Rattle.std.proofs.Common.{◌≡◌, ◌≢◌, ◌==◌, ℕ, ◌&&◌, List, [], ◌∷◌, Bool, true, false, cond, filter, Option, Some, None, refl, sym, ap, subst, ◌∙◌, arith, inl, inr}
use Rattle.std.specs.Prelude.{option_map}
use Rattle.std.specs.Ordering.{nat_cmp}
use Rattle.std.specs.Cmp.{nat_cmp_total}
use Rattle.std.specs.FinMap.{FinMap, get, insert, empty, get-empty, same_map, nat_cmp-IsAntisymmetric}
use Rattle.std.proofs.lemmas.Bool.{cases_eq}
use Rattle.std.proofs.lemmas.Bool.Decides.{nat_tests}
use Rattle.atl_world.specs.Sums.{with_changed_value, with_changed_option}
use Rattle.atl_rows.specs.declared.parts.StoredHas.{StoredHas}
use Rattle.atl_rows.specs.declared.parts.StoredMarket.{StoredMarket}
use Rattle.atl_rows.specs.declared.parts.StoredRegion.{StoredRegion}
use Rattle.atl_rows.specs.declared.parts.StoredUnit.{StoredUnit}
use Rattle.atl_campaign.specs.Assembling.{bare_unit, bare_region, with_has_row, with_market_row, with_rows_added}
use Rattle.atl_campaign.specs.FromRows.{as_u32, is_of_unit_and_sort, put_rows, by_number, unit_with_goods, unit_of, region_with_stocks, region_of}
use Rattle.atl_campaign.proofs.AssemblyLaws.{amount_of, taken_or_not, thing_of}
use Rattle.atl_world.proofs.GeneralLaws.{is_equal}
use Rattle.atl_world.proofs.TrackLaws.{get_inserted}
use Rattle.atl_world.proofs.EveryLaws.{get-insert_other}

-- ---- what may be there

map_none : {V : Type 0} (o : Option V) → o ≡ option_map (λ v. v) o
map_none None = refl
map_none (Some v) = refl

-- changing what may be there by g, and then by f, is changing it by both in turn; None stays None
pub map_twice : {V : Type 0} (f g : V → V) (o : Option V) → option_map f (option_map g o) ≡ option_map (λ v. f (g v)) o
map_twice f g None = refl
map_twice f g (Some v) = refl

at_same : {V : Type 0} (f : V → V) (m : FinMap nat_cmp V) (k : ℕ) (o : Option V) → get m k ≡ o
    → get (with_changed_option f m k o) k ≡ option_map f o
at_same f m k None e = e
at_same f m k (Some v) e = get_inserted m k (f v)

at_other : {V : Type 0} (f : V → V) (m : FinMap nat_cmp V) (k n : ℕ) (o : Option V) → n ≢ k
    → get (with_changed_option f m k o) n ≡ get m n
at_other f m k n None apart = refl
at_other f m k n (Some v) apart = get-insert_other m k n (f v) apart

-- `owner` gives the number whose value a row belongs to, and `more` adds the row to that value
module _ {R V : Type 0} (owner : R → ℕ) (more : R → V → V) where
  -- the value v of number n with each row of number n added to it, in the order of the rows
  abbrev pub value_with_rows : ℕ → List R → V → V
  value_with_rows n [] v = v
  value_with_rows n (r ∷ rows) v = value_with_rows n rows (cond (owner r == n) (more r v) v)

  get-changed : (r : R) (m : FinMap nat_cmp V) (n : ℕ)
      → get (with_changed_value (more r) m (owner r)) n ≡ option_map (λ v. cond (owner r == n) (more r v) v) (get m n)
  get-changed r m n =
      let k = owner r in
      elim (cases_eq k n) [
        | inl same ↦
            let it : (k == n) ≡ true = grind (arith, nat_tests) in
            subst (λ q. get (with_changed_value (more r) m k) q ≡ option_map (more r) (get m q)) same (at_same (more r) m k (get m k) refl)
            ∙ ap (λ b. option_map (λ v. cond b (more r v) v) (get m n)) (sym it)
        | inr apart ↦
            let other : (k == n) ≡ false = grind (arith, nat_tests) in
            at_other (more r) m k n (get m k) (λ e. apart (sym e)) ∙ map_none (get m n)
            ∙ ap (λ b. option_map (λ v. cond b (more r v) v) (get m n)) (sym other)
      ]

  get-with_rows_added : (rows : List R) (m : FinMap nat_cmp V) (n : ℕ)
      → get (with_rows_added owner more rows m) n ≡ option_map (value_with_rows n rows) (get m n)
  get-with_rows_added [] m n = map_none (get m n)
  get-with_rows_added (r ∷ rows) m n =
      get-with_rows_added rows (with_changed_value (more r) m (owner r)) n
      ∙ ap (option_map (value_with_rows n rows)) (get-changed r m n)
      ∙ map_twice (value_with_rows n rows) (λ v. cond (owner r == n) (more r v) v) (get m n)

  -- t is what rows are added to, as a row of `unit`, and `number t` its number. `before t` is its value without `rows`,
  -- and `after t` its value with those of them that are its own.
  module _ {T : Type 0} (number : T → ℕ) (before after : T → V) (rows : List R) (each : (t : T) → value_with_rows (number t) rows (before t) ≡ after t) where
    -- both maps have the same numbers, and the second has each value of the first with the rows of its number added
    abbrev Becomes : FinMap nat_cmp V → FinMap nat_cmp V → Type 0
    Becomes m l = (n : ℕ) → option_map (value_with_rows n rows) (get m n) ≡ get l n

    -- if adding the rows to m gives l (Becomes), it still does with t put into m without its rows and into l with them
    put_one : (t : T) (m l : FinMap nat_cmp V) → Becomes m l
        → Becomes (insert m (number t) (before t)) (insert l (number t) (after t))
    put_one t m l all n =
        let k = number t in
        elim (cases_eq k n) [
          | inl same ↦
              subst (λ q. option_map (value_with_rows q rows) (get (insert m k (before t)) q) ≡ get (insert l k (after t)) q) same
              (ap (option_map (value_with_rows k rows)) (get_inserted m k (before t)) ∙ ap Some (each t) ∙ sym (get_inserted l k (after t)))
          | inr apart ↦ ap (option_map (value_with_rows n rows)) (get-insert_other m k n (before t) (λ e. apart (sym e))) ∙ all n ∙ sym (get-insert_other l k n (after t) (λ e. apart (sym e)))
        ]

    put_each : (ts : List T) (m l : FinMap nat_cmp V) → Becomes m l
        → Becomes (put_rows number before ts m) (put_rows number after ts l)
    put_each [] m l all = all
    put_each (t ∷ ts) m l all =
        put_each ts (insert m (number t) (before t)) (insert l (number t) (after t)) (put_one t m l all)

    -- adding all rows to the map of the values of ts without their rows gives the map of their values with them
    pub with_rows_added-by_number : (ts : List T)
        → with_rows_added owner more rows (by_number number before ts) ≡ by_number number after ts
    with_rows_added-by_number ts =
        let none : Becomes empty empty = λ n. ap (option_map (value_with_rows n rows)) (get-empty nat_cmp n) ∙ sym (get-empty nat_cmp n) in
        same_map nat_cmp_total nat_cmp-IsAntisymmetric _ _ (λ n. get-with_rows_added rows (by_number number before ts) n ∙ put_each ts empty empty none n)

-- ---- units

-- for unit_given: choosing among a unit with new items, with new days, or unchanged gives the unit whose items and days
-- are chosen each for itself
picked : (r : StoredUnit) (items items' days days' : FinMap nat_cmp ℕ) (mine item skill : Bool)
    → (item ≡ true → skill ≡ false)
    → cond mine (cond item (unit_with_goods r items' days) (cond skill (unit_with_goods r items days') (unit_with_goods r items days))) (unit_with_goods r items days) ≡ unit_with_goods r (cond (mine && item) items' items) (cond (mine && skill) days' days)
picked r items items' days days' false item skill h = refl
picked r items items' days days' true true skill h =
    ap (λ b. unit_with_goods r items' (cond b days' days)) (sym (h refl))
picked r items items' days days' true false true h = refl
picked r items items' days days' true false false h = refl

no_skill : (s : ℕ) → (s == 0) ≡ true → (s == 1) ≡ false
no_skill s h = ap (λ k. k == 1) (is_equal s 0 h)

unit_given : (r : StoredUnit) (n : ℕ) (has : List StoredHas) (items days : FinMap nat_cmp ℕ)
    → value_with_rows (λ h. as_u32 h.unit) with_has_row n has (unit_with_goods r items days) ≡ unit_with_goods r (put_rows thing_of amount_of (filter (is_of_unit_and_sort n 0) has) items) (put_rows thing_of amount_of (filter (is_of_unit_and_sort n 1) has) days)
unit_given r n [] items days = refl
unit_given r n (h ∷ has) items days =
    let items' = insert items (thing_of h) (amount_of h) in
    let days' = insert days (thing_of h) (amount_of h) in
    ap (value_with_rows (λ h. as_u32 h.unit) with_has_row n has) (picked r items items' days days' (as_u32 h.unit == n) (as_u32 h.sort == 0) (as_u32 h.sort == 1) (no_skill (as_u32 h.sort)))
    ∙ unit_given r n has (cond (is_of_unit_and_sort n 0 h) items' items) (cond (is_of_unit_and_sort n 1 h) days' days)
    ∙ ap (λ m. unit_with_goods r m (put_rows thing_of amount_of (filter (is_of_unit_and_sort n 1) has) (cond (is_of_unit_and_sort n 1 h) days' days))) (sym (taken_or_not thing_of amount_of (is_of_unit_and_sort n 0) h has (is_of_unit_and_sort n 0 h) items refl))
    ∙ ap (λ m. unit_with_goods r (put_rows thing_of amount_of (filter (is_of_unit_and_sort n 0) (h ∷ has)) items) m) (sym (taken_or_not thing_of amount_of (is_of_unit_and_sort n 1) h has (is_of_unit_and_sort n 1 h) days refl))

-- units without goods (bare_unit), once all rows of `has` are added, are the units assembled with these rows (unit_of)
pub units_with_rows : (has : List StoredHas) (rows : List StoredUnit)
    → with_rows_added (λ h. as_u32 h.unit) with_has_row has (by_number (λ r. as_u32 r.number) bare_unit rows)
    ≡ by_number (λ r. as_u32 r.number) (unit_of has) rows
units_with_rows has rows =
    with_rows_added-by_number (λ (h : StoredHas). as_u32 h.unit) with_has_row (λ (r : StoredUnit). as_u32 r.number)
    bare_unit (unit_of has) has (λ r. unit_given r (as_u32 r.number) has empty empty) rows

-- ---- regions

abbrev item_of : StoredMarket → ℕ
item_of r = as_u32 r.item

abbrev stock_of : StoredMarket → ℕ
stock_of r = as_u32 r.stock

stocked : (r : StoredRegion) (stocks stocks' : FinMap nat_cmp ℕ) (mine : Bool)
    → cond mine (region_with_stocks r stocks') (region_with_stocks r stocks)
    ≡ region_with_stocks r (cond mine stocks' stocks)
stocked r stocks stocks' true = refl
stocked r stocks stocks' false = refl

region_given : (r : StoredRegion) (n : ℕ) (markets : List StoredMarket) (stocks : FinMap nat_cmp ℕ)
    → value_with_rows (λ m. as_u32 m.region) with_market_row n markets (region_with_stocks r stocks) ≡ region_with_stocks r (put_rows item_of stock_of (filter (λ m. as_u32 m.region == n) markets) stocks)
region_given r n [] stocks = refl
region_given r n (m ∷ markets) stocks =
    let mine = as_u32 m.region == n in
    let stocks' = insert stocks (item_of m) (stock_of m) in
    ap (value_with_rows (λ m. as_u32 m.region) with_market_row n markets) (stocked r stocks stocks' mine)
    ∙ region_given r n markets (cond mine stocks' stocks)
    ∙ ap (region_with_stocks r) (sym (taken_or_not item_of stock_of (λ m. as_u32 m.region == n) m markets mine stocks refl))

-- regions without stocks (bare_region), once all rows of `market` are added, are the regions assembled with these rows
-- (region_of)
pub regions_with_rows : (markets : List StoredMarket) (rows : List StoredRegion)
    → with_rows_added (λ m. as_u32 m.region) with_market_row markets (by_number (λ r. as_u32 r.number) bare_region rows) ≡ by_number (λ r. as_u32 r.number) (region_of markets) rows
regions_with_rows markets rows =
    with_rows_added-by_number (λ (m : StoredMarket). as_u32 m.region) with_market_row
    (λ (r : StoredRegion). as_u32 r.number) bare_region (region_of markets) markets
    (λ r. region_given r (as_u32 r.number) markets empty) rows
