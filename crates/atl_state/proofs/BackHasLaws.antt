-- Laws of reading back what units have: the rows of the table `has`, in any order, give each unit its goods again.
-- Goods are here items (sort 0) and days of study (sort 1).
-- n and u are a unit's number and the unit, s a sort, i an item or a skill, a its amount, and `rows` the rows of `has`.
-- In the last laws `rows` are the units' rows in any order, and what the units have fits 32 bits (`had`: AreHad).
use Rattle.std.proofs.Common.{◌≡◌, ◌==◌, ℕ, zero, suc, ◌≤◌, ◌<◌, ◌&&◌, List, [], ◌∷◌, Bool, true, false, Some, refl, sym, ap, ◌∙◌, arith}
use Rattle.std.specs.Prelude.{pos}
use Rattle.std.specs.List.{AllByRecursion, IsDistinct}
use Rattle.std.specs.List.Sorted.{IsPermutation}
use Rattle.std.specs.Ordering.{nat_cmp}
use Rattle.std.specs.FinMap.{FinMap, get, entries}
use Rattle.std.proofs.lemmas.Bool.{and_parts}
use Rattle.std.proofs.lemmas.Bool.Decides.{nat_tests}
use Rattle.atl_records.specs.Limits.{most_u32}
use Rattle.atl_rows.specs.declared.parts.StoredHas.{StoredHas}
use Rattle.atl_records.specs.declared.records.Unit.{Unit}
use Rattle.atl_campaign.specs.FromRows.{as_u32, is_of_unit_and_sort, things_had}
use Rattle.atl_world.specs.Every.{Every}
use Rattle.atl_campaign.specs.RowRules.{has_key, HaveDistinctKeys}
use Rattle.atl_campaign.specs.Rows.{is_zero, has_row, rows_of_sort, held_rows, has_rows}
use Rattle.atl_campaign.proofs.ReadBackLaws.{each_permuted, written_is_read, written_fits_u32, apart_keys, each_appended, append_apart, flat_apart, entries_rise, keys_permuted, pos_is_injective}
use Rattle.atl_state.proofs.BackGroupLaws.{groups_each, each_group, lines_each, each_line, lines_apart, amounts_back}
use Rattle.atl_campaign.proofs.HasLaws.{KeyFitsU32, is_same_key, things_apart}
use Rattle.atl_world.proofs.GeneralLaws.{is_equal}
use Rattle.atl_records.proofs.AmountListLaws.{all_append}

-- a unit's items for sort 0, and its days of study for any other
abbrev pub goods_of : ℕ → Unit → FinMap nat_cmp ℕ
goods_of zero u = u.holding.items
goods_of (suc n) u = u.holding.days

abbrev has_zero_amount : StoredHas → Bool
has_zero_amount r = is_zero r.amount

abbrev goods_rows : ℕ × Unit → List StoredHas
goods_rows e = held_rows e.0 e.1.holding

sort_apart : (n sort : ℕ) (m : FinMap nat_cmp ℕ)
    → IsDistinct (λ a b. is_same_key (has_key a) (has_key b)) (rows_of_sort n sort (entries m))
sort_apart n sort m =
    lines_apart has_zero_amount (has_row n sort) m (λ a b. is_same_key (has_key a) (has_key b)) (λ i k a b l. apart_keys (has_key (has_row n sort i a)) (has_key (has_row n sort k b)) (λ keys. let one = pos_is_injective i k keys.third in omega arith))

module _ (units : FinMap nat_cmp Unit) where
  -- if P holds for the row of each amount, not 0, that a unit of the map has, it holds for each row of `has` of the map
  pub has_each : (P : StoredHas → Type 0)
      → Every (λ n u. (s : ℕ) → s < 2 → Every (λ i a. is_zero (pos a) ≡ false → P (has_row n s i a)) (goods_of s u)) units
      → AllByRecursion P (has_rows (entries units))
  has_each P h = groups_each goods_rows P units (λ n u is.
      all_append P (rows_of_sort n 0 (entries u.holding.items)) (rows_of_sort n 1 (entries u.holding.days)) (lines_each has_zero_amount (has_row n 0) u.holding.items P (h n u is 0 (omega arith))) (lines_each has_zero_amount (has_row n 1) u.holding.days P (h n u is 1 (omega arith))))

  -- P holds of the row of each amount, not 0, that a unit of the map has, if it holds of each row of `has`
  pub each_had : (P : StoredHas → Type 0) → AllByRecursion P (has_rows (entries units))
      → Every (λ n u. (s : ℕ) → s < 2 → Every (λ i a. is_zero (pos a) ≡ false → P (has_row n s i a)) (goods_of s u)) units
  each_had P h n u is =
      of_sort
      (each_appended P (rows_of_sort n 0 (entries u.holding.items)) (rows_of_sort n 1 (entries u.holding.days)) (each_group goods_rows P units h n u is))
    where
      of_sort : AllByRecursion P (rows_of_sort n 0 (entries u.holding.items))
          × AllByRecursion P (rows_of_sort n 1 (entries u.holding.days))
          → (s : ℕ) → s < 2 → Every (λ i a. is_zero (pos a) ≡ false → P (has_row n s i a)) (goods_of s u)
      of_sort both zero l = each_line has_zero_amount (has_row n 0) u.holding.items P both.0
      of_sort both (suc zero) l = each_line has_zero_amount (has_row n 1) u.holding.days P both.1
      of_sort both (suc (suc s)) l = absurd (omega arith)

  sorts_differ : (a : StoredHas) (ys : List StoredHas) → a.sort ≡ pos 0 → AllByRecursion (λ b. b.sort ≡ pos 1) ys
      → AllByRecursion (λ b. is_same_key (has_key a) (has_key b) ≡ false) ys
  sorts_differ a [] item h = tt
  sorts_differ a (b ∷ ys) item h =
      (apart_keys (has_key a) (has_key b) (λ k. let one = pos_is_injective 0 1 (sym item ∙ k.second ∙ h.0) in omega arith), sorts_differ a ys item h.1)

  all_differ : (xs ys : List StoredHas) → AllByRecursion (λ a. a.sort ≡ pos 0) xs
      → AllByRecursion (λ b. b.sort ≡ pos 1) ys
      → AllByRecursion (λ a. AllByRecursion (λ b. is_same_key (has_key a) (has_key b) ≡ false) ys) xs
  all_differ [] ys h k = tt
  all_differ (a ∷ xs) ys h k = (sorts_differ a ys h.0 k, all_differ xs ys h.1 k)

  held_apart : (n : ℕ) (u : Unit) → IsDistinct (λ a b. is_same_key (has_key a) (has_key b)) (held_rows n u.holding)
  held_apart n u =
      append_apart (λ a b. is_same_key (has_key a) (has_key b)) (rows_of_sort n 0 (entries u.holding.items)) (rows_of_sort n 1 (entries u.holding.days)) (sort_apart n 0 u.holding.items) (sort_apart n 1 u.holding.days)
      (all_differ (rows_of_sort n 0 (entries u.holding.items)) (rows_of_sort n 1 (entries u.holding.days)) (lines_each has_zero_amount (has_row n 0) u.holding.items (λ r. r.sort ≡ pos 0) (λ i a is some. refl)) (lines_each has_zero_amount (has_row n 1) u.holding.days (λ r. r.sort ≡ pos 1) (λ i a is some. refl)))

  has_apart : IsDistinct (λ a b. is_same_key (has_key a) (has_key b)) (has_rows (entries units))
  has_apart =
      flat_apart (λ a b. is_same_key (has_key a) (has_key b)) (λ (e : ℕ × Unit). held_rows e.0 e.1.holding) (λ e f. e.0 < f.0) (λ e r. r.unit ≡ pos e.0)
      (λ x y a b l mine yours. apart_keys (has_key a) (has_key b) (λ k. let one = pos_is_injective x.0 y.0 (sym mine ∙ k.first ∙ yours) in omega arith))
      (λ e. all_append (λ r. r.unit ≡ pos e.0) (rows_of_sort e.0 0 (entries e.1.holding.items)) (rows_of_sort e.0 1 (entries e.1.holding.days)) (lines_each has_zero_amount (has_row e.0 0) e.1.holding.items (λ r. r.unit ≡ pos e.0) (λ i a is some. refl)) (lines_each has_zero_amount (has_row e.0 1) e.1.holding.days (λ r. r.unit ≡ pos e.0) (λ i a is some. refl)))
      (λ e. held_apart e.0 e.1) (entries units) (entries_rise units)

  -- the numbers of units, items and skills fit 32 bits, and each amount of an item or of days is from 1 to most_u32
  pub record AreHad : Type 0 where
    pub numbers : Every (λ n u. n ≤ most_u32) units
    -- of items and of days alike: each number fits 32 bits, and each listed amount is from 1 to most_u32
    pub goods : Every (λ n u. (s : ℕ) → s < 2 → Every (λ i a. (i ≤ most_u32) × (1 ≤ a) × (a ≤ most_u32)) (goods_of s u)) units

  module _ (had : AreHad) (rows : List StoredHas) (h : IsPermutation (has_rows (entries units)) rows) where
    -- the rows of `has`, in any order, have distinct keys
    pub has_keys : HaveDistinctKeys has_key rows
    has_keys = keys_permuted has_key (has_rows (entries units)) rows h has_apart

    -- the rows of `has`, in any order, have keys that are read as they are
    pub all_keyed : AllByRecursion KeyFitsU32 rows
    all_keyed =
        each_permuted KeyFitsU32 (has_rows (entries units)) rows h (has_each KeyFitsU32 (λ n u there s few i a is some. record {
          unit = written_fits_u32 n (had.numbers n u there);
          sort = written_fits_u32 s (omega arith);
          thing = written_fits_u32 i (had.goods n u there s few i a is).0;
        }))

    nonzero : (a : ℕ) → 1 ≤ a → is_zero (pos a) ≡ false
    nonzero a l = grind (arith, nat_tests)

    some_same : (u v : Unit) → Some u ≡ Some v → u ≡ v
    some_same u v e = cc

    -- unit k and sort s are unit n and sort `sort`: k is n, and s is `sort`
    record IsSameUnitAndSort (n sort k s : ℕ) : Type 0 where
      unit : k ≡ n
      kind : s ≡ sort

    of_row : (n sort k s i a : ℕ) → k ≤ most_u32 → s < 2 → is_of_unit_and_sort n sort (has_row k s i a) ≡ true
        → IsSameUnitAndSort n sort k s
    of_row n sort k s i a few l e =
        let both = and_parts (as_u32 (pos k) == n) (as_u32 (pos s) == sort) e in
        record { unit = sym (written_is_read k few) ∙ is_equal (as_u32 (pos k)) n both.0; kind = sym (written_is_read s (omega arith)) ∙ is_equal (as_u32 (pos s)) sort both.1 }

    of_itself : (n s i a : ℕ) → n ≤ most_u32 → s < 2 → is_of_unit_and_sort n s (has_row n s i a) ≡ true
    of_itself n s i a few l =
        let unit : (as_u32 (pos n) == n) ≡ true = let e = written_is_read n few in grind (arith, nat_tests) in
        let kind : (as_u32 (pos s) == s) ≡ true = let e = written_is_read s (omega arith) in grind (arith, nat_tests) in
        ap (λ b. b && (as_u32 (pos s) == s)) unit ∙ kind

    module _ (n : ℕ) (u : Unit) (there : get units n ≡ Some u) (sort : ℕ) (few : sort < 2) where
      -- the amounts of a sort that the rows of `has` give a unit of the map are those that the unit has
      pub goods_back : things_had n sort rows ≡ goods_of sort u
      goods_back =
          amounts_back (λ r. as_u32 r.thing) (λ r. as_u32 r.amount) (is_of_unit_and_sort n sort) (goods_of sort u) (has_rows (entries units)) rows h (things_apart n sort rows all_keyed has_keys)
          (has_each (λ r. is_of_unit_and_sort n sort r ≡ true → get (goods_of sort u) (as_u32 r.thing) ≡ Some (as_u32 r.amount)) (λ k v at s l i a is some of.
          let it = of_row n sort k s i a (had.numbers k v at) l of in
          let small = had.goods k v at s l i a is in
          let one = some_same v u (sym at ∙ ap (get units) it.unit ∙ there) in
          ap (get (goods_of sort u)) (written_is_read i small.0) ∙ ap (λ x. get (goods_of sort x) i) (sym one) ∙ ap (λ q. get (goods_of q v) i) (sym it.kind) ∙ is ∙ ap (λ x. Some x) (sym (written_is_read a small.2))))
          (λ P all i a is.
          let small = had.goods n u there sort few i a is in
          let shown = each_had (λ r. is_of_unit_and_sort n sort r ≡ true → P r) all n u there sort few i a is (nonzero a small.1) (of_itself n sort i a (had.numbers n u there) few) in
          (has_row n sort i a, written_is_read i small.0, written_is_read a small.2, shown))
