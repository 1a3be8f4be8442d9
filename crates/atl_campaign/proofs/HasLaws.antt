-- Laws of the rows of the table `has` (units' goods): units assembled from rows are written as the same rows, in some
-- order.
-- A row is exact (IsExactGoods) if its key and its amount are read as they are, and the amount is not 0.
-- `has` are its rows, `units` those of the table `unit`, n is a unit's number, and a sort is 0 (items) or 1 (days). The
-- thing of a row is the number of an item or a skill.
use Rattle.std.proofs.Common.{◌≡◌, ◌==◌, ℕ, ◌++◌, List, [], ◌∷◌, Bool, true, false, not, map, filter, sym, ap, subst, ◌∙◌, arith, inl, inr, ◌⊎◌}
use Rattle.std.specs.Prelude.{pos, ℤ}
use Rattle.std.specs.List.{flat_map, AllByRecursion, IsDistinct}
use Rattle.std.specs.Ordering.{eq_by_cmp}
use Rattle.std.specs.FinMap.{entries}
use Rattle.std.proofs.lemmas.Cmp.{eq_by_cmp_equiv, int_cmp_total, on_total, then_total}
use Rattle.std.specs.List.Sorted.{IsPermutation}
use Rattle.std.proofs.lemmas.Bool.{and_parts}
use Rattle.std.proofs.lemmas.List.{append-nil}
use Rattle.std.proofs.lemmas.List.Sorted.{IsPermutation-refl, IsPermutation-sym, IsPermutation-trans, IsPermutation-append}
use Rattle.atl_rows.specs.declared.parts.StoredHas.{StoredHas}
use Rattle.atl_rows.specs.declared.parts.StoredUnit.{StoredUnit}
use Rattle.atl_records.specs.declared.records.Unit.{Unit}
use Rattle.atl_campaign.specs.FromRows.{as_u32, is_of_unit_and_sort, things_had, unit_of, by_number}
use Rattle.atl_campaign.specs.RowRules.{Key, key_cmp, has_key}
use Rattle.atl_campaign.specs.Rows.{is_zero, has_row, rows_of_sort, held_rows, has_rows}
use Rattle.atl_campaign.proofs.AssemblyLaws.{amount_of, thing_of}
use Rattle.atl_campaign.proofs.GroupLaws as group
use Rattle.atl_campaign.proofs.GroupLaws.{filter_both, filter_each, gathered, lines_order, of_group}
use Rattle.atl_campaign.proofs.MapOfRowsLaws.{HaveDistinctNumbers, HasNumber, flat_order}
use Rattle.atl_world.proofs.GeneralLaws.{is_equal, each_follows}

-- a row of `has` is of one of the given units, and of sort 0 (items) or 1 (days)
abbrev pub IsOfUnits : List StoredUnit → StoredHas → Type 0
IsOfUnits units h = HasNumber (λ r. as_u32 r.number) units (as_u32 h.unit) × ((as_u32 h.sort ≡ 0) ⊎ (as_u32 h.sort ≡ 1))

abbrev rows_of_unit : ℕ → List StoredHas → List StoredHas
rows_of_unit n has = of_group (λ h. as_u32 h.unit) (λ (r : StoredUnit). as_u32 r.number) n has

items_and_days_are_all : (n : ℕ) (has : List StoredHas)
    → AllByRecursion (λ h. (as_u32 h.sort ≡ 0) ⊎ (as_u32 h.sort ≡ 1)) has
    → IsPermutation (filter (is_of_unit_and_sort n 0) has ++ filter (is_of_unit_and_sort n 1) has) (rows_of_unit n has)
items_and_days_are_all n has sorts =
    let mine = rows_of_unit n has in
    let of_sort = λ (s : ℕ). filter (λ (h : StoredHas). as_u32 h.sort == s) mine in
    let all = filter_each (λ h. as_u32 h.unit == n) (λ h. HasNumber (λ s. s) (0 ∷ 1 ∷ []) (as_u32 h.sort)) has (each_follows (λ h. (as_u32 h.sort ≡ 0) ⊎ (as_u32 h.sort ≡ 1)) (λ h. HasNumber (λ s. s) (0 ∷ 1 ∷ []) (as_u32 h.sort)) among has sorts) in
    subst (λ hs. IsPermutation hs mine) (ap (λ hs. of_sort 0 ++ hs) (append-nil (of_sort 1)) ∙ ap (λ hs. hs ++ of_sort 1) (both 0) ∙ ap (λ hs. filter (is_of_unit_and_sort n 0) has ++ hs) (both 1))
    (gathered (λ h. as_u32 h.sort) (λ s. s) of_sort (0 ∷ 1 ∷ []) mine (λ s. IsPermutation-refl (of_sort s)) (((λ e. absurd (omega arith)), tt), (tt, tt)) all)
  where
    among : (h : StoredHas) → (as_u32 h.sort ≡ 0) ⊎ (as_u32 h.sort ≡ 1)
        → HasNumber (λ s. s) (0 ∷ 1 ∷ []) (as_u32 h.sort)
    among h (inl item) = inl (sym item)
    among h (inr skill) = inr (inl (sym skill))

    both : (s : ℕ) → filter (λ h. as_u32 h.sort == s) (rows_of_unit n has) ≡ filter (is_of_unit_and_sort n s) has
    both s = filter_both (λ h. as_u32 h.unit == n) (λ h. as_u32 h.sort == s) has

-- a number of a row that is read as it is: it fits 32 bits
abbrev pub FitsU32 : ℤ → Type 0
FitsU32 z = z ≡ pos (as_u32 z)

-- a row of `has` whose unit, sort and thing are read as they are: they fit 32 bits
pub record KeyFitsU32 (h : StoredHas) : Type 0 where
  pub unit : FitsU32 h.unit
  pub sort : FitsU32 h.sort
  pub thing : FitsU32 h.thing

-- a row of `has` whose key and amount are read as they are, with an amount other than 0
pub record IsExactGoods (h : StoredHas) : Type 0 where
  pub keys : KeyFitsU32 h
  pub amount : FitsU32 h.amount
  pub some : is_zero h.amount ≡ false

-- a row of unit n and of one sort (0 items, 1 days), whose key is read as it is
abbrev IsRowOfUnit : ℕ → ℕ → StoredHas → Type 0
IsRowOfUnit n sort h = KeyFitsU32 h × (is_of_unit_and_sort n sort h ≡ true)

its_unit : (n sort : ℕ) (h : StoredHas) → IsRowOfUnit n sort h → h.unit ≡ pos n
its_unit n sort h (exact, of) =
    exact.unit ∙ ap pos (is_equal (as_u32 h.unit) n (and_parts (as_u32 h.unit == n) (as_u32 h.sort == sort) of).0)

its_sort : (n sort : ℕ) (h : StoredHas) → IsRowOfUnit n sort h → h.sort ≡ pos sort
its_sort n sort h (exact, of) =
    exact.sort ∙ ap pos (is_equal (as_u32 h.sort) sort (and_parts (as_u32 h.unit == n) (as_u32 h.sort == sort) of).1)

same_row : (n sort : ℕ) (h : StoredHas) → IsRowOfUnit n sort h → FitsU32 h.amount
    → has_row n sort (thing_of h) (amount_of h) ≡ h
same_row n sort h had amount =
    λ i.
    record { unit = sym (its_unit n sort h had) i; sort = sym (its_sort n sort h had) i; thing = sym had.0.thing i; amount = sym amount i }

same_key : (n sort : ℕ) (g h : StoredHas) → IsRowOfUnit n sort g → IsRowOfUnit n sort h → thing_of g ≡ thing_of h
    → ◌≡◌ {A = Key} (has_key h) (has_key g)
same_key n sort g h a b e =
    let unit = its_unit n sort h b ∙ sym (its_unit n sort g a) in
    let kind = its_sort n sort h b ∙ sym (its_sort n sort g a) in
    let thing = b.0.thing ∙ sym (ap pos e) ∙ sym a.0.thing in
    λ i. (unit i, kind i, thing i)

-- whether two keys have the same three numbers
abbrev pub is_same_key : Key → Key → Bool
is_same_key a b = eq_by_cmp key_cmp a b

pub ties_itself : (k : Key) → is_same_key k k ≡ true
ties_itself k =
    (eq_by_cmp_equiv (then_total (then_total (on_total (λ (t : Key). t.0) int_cmp_total) (on_total (λ (t : Key). t.1) int_cmp_total)) (on_total (λ (t : Key). t.2) int_cmp_total))).refl
    k

-- no two rows of `has` of unit n and one sort are of one thing, if the rows' keys are read as they are, and no two keys
-- are equal
pub things_apart : (n sort : ℕ) (has : List StoredHas) → AllByRecursion KeyFitsU32 has
    → IsDistinct is_same_key (map has_key has) → HaveDistinctNumbers thing_of (filter (is_of_unit_and_sort n sort) has)
things_apart n sort =
    group.things_apart has_key is_same_key ties_itself thing_of (is_of_unit_and_sort n sort) KeyFitsU32
    (same_key n sort)

goods_of_sort_are_rewritten : (n sort : ℕ) (has : List StoredHas) → AllByRecursion IsExactGoods has
    → IsDistinct is_same_key (map has_key has)
    → IsPermutation (rows_of_sort n sort (entries (things_had n sort has))) (filter (is_of_unit_and_sort n sort) has)
goods_of_sort_are_rewritten n sort has all d =
    lines_order thing_of amount_of (has_row n sort) (λ h. not (is_zero h.amount)) (filter (is_of_unit_and_sort n sort) has) (things_apart n sort has (each_follows IsExactGoods KeyFitsU32 (λ h one. one.keys) has all) d)
    (each_follows (λ h. IsExactGoods h × (is_of_unit_and_sort n sort h ≡ true)) (λ h. (has_row n sort (thing_of h) (amount_of h) ≡ h) × (not (is_zero h.amount) ≡ true)) (λ h had. (same_row n sort h (had.0.keys, had.1) had.0.amount, ap not had.0.some)) (filter (is_of_unit_and_sort n sort) has) (group.all_mine has_key is_same_key ties_itself thing_of (is_of_unit_and_sort n sort) IsExactGoods has all))

goods_of_unit_are_rewritten : (n : ℕ) (has : List StoredHas)
    → AllByRecursion (λ h. (as_u32 h.sort ≡ 0) ⊎ (as_u32 h.sort ≡ 1)) has → AllByRecursion IsExactGoods has
    → IsDistinct is_same_key (map has_key has)
    → IsPermutation (rows_of_sort n 0 (entries (things_had n 0 has)) ++ rows_of_sort n 1 (entries (things_had n 1 has))) (rows_of_unit n has)
goods_of_unit_are_rewritten n has sorts all d =
    let items = rows_of_sort n 0 (entries (things_had n 0 has)) in
    let days = rows_of_sort n 1 (entries (things_had n 1 has)) in
    let rows = filter (is_of_unit_and_sort n 0) has ++ filter (is_of_unit_and_sort n 1) has in
    IsPermutation-trans (items ++ days) rows (rows_of_unit n has) (IsPermutation-append items (filter (is_of_unit_and_sort n 0) has) days (filter (is_of_unit_and_sort n 1) has) (goods_of_sort_are_rewritten n 0 has all d) (goods_of_sort_are_rewritten n 1 has all d)) (items_and_days_are_all n has sorts)

abbrev unit_lines : ℕ × Unit → List StoredHas
unit_lines e = held_rows e.0 e.1.holding

-- units assembled from rows are written as the same rows of `has`, in some order. The units have to have different
-- numbers. Each row of `has` has to be exact (IsExactGoods), of one of the units, of sort 0 or 1, and of a key of its
-- own.
pub has_rows_are_rewritten : (has : List StoredHas) (units : List StoredUnit)
    → HaveDistinctNumbers (λ r. as_u32 r.number) units → AllByRecursion (IsOfUnits units) has
    → AllByRecursion IsExactGoods has → IsDistinct is_same_key (map has_key has)
    → IsPermutation (has_rows (entries (by_number (λ r. as_u32 r.number) (unit_of has) units))) has
has_rows_are_rewritten has units apart of all d =
    let lines = λ (r : StoredUnit). unit_lines (as_u32 r.number, unit_of has r) in
    let said = flat_map lines units in
    let listed = has_rows (entries (by_number (λ r. as_u32 r.number) (unit_of has) units)) in
    let sorts = each_follows (IsOfUnits units) (λ h. (as_u32 h.sort ≡ 0) ⊎ (as_u32 h.sort ≡ 1)) (λ h one. one.1) has of in
    IsPermutation-trans listed said has (IsPermutation-sym said listed (flat_order (λ r. as_u32 r.number) (unit_of has) unit_lines units apart))
    (gathered (λ h. as_u32 h.unit) (λ r. as_u32 r.number) lines units has (λ r. goods_of_unit_are_rewritten (as_u32 r.number) has sorts all d) apart (each_follows (IsOfUnits units) (λ h. HasNumber (λ r. as_u32 r.number) units (as_u32 h.unit)) (λ h one. one.0) has of))
