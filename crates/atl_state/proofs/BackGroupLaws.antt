-- Laws of reading groups back (the goods of a unit, the stocks of a region) from rows in any order.
-- i is the number of an item or a skill, which is the thing of a row, and a its amount; P is a condition on rows. Goods
-- are items and days of study.
use Rattle.std.proofs.Common.{◌≡◌, ◌<◌, ℕ, List, [], ◌∷◌, Bool, true, false, not, filter, Some, sym, ap, ◌∙◌}
use Rattle.std.specs.List.{flat_map, AllByRecursion, IsDistinct}
use Rattle.std.specs.List.Sorted.{IsPermutation}
use Rattle.std.specs.Ordering.{nat_cmp}
use Rattle.std.specs.FinMap.{FinMap, get, entries}
use Rattle.std.proofs.lemmas.Bool.{not-true, not_from_false}
use Rattle.atl_world.specs.Every.{EachEntry, Every}
use Rattle.atl_campaign.specs.FromRows.{by_number}
use Rattle.atl_campaign.specs.Rows.{rows_by}
use Rattle.atl_campaign.proofs.ReadBackLaws.{each_permuted, each_back, by_number_is, each_appended, every_row, rows_every, rows_apart, entries_rise}
use Rattle.atl_world.proofs.EveryLaws.{every-from_each, each-from_every}
use Rattle.atl_records.proofs.AmountListLaws.{all_append}
use Rattle.atl_campaign.proofs.GroupLaws.{filter_apart, kept, unkept}
use Rattle.atl_campaign.proofs.MapOfRowsLaws.{HaveDistinctNumbers, rows_found}

module _ {X R : Type 0} (P : R → Type 0) (f : X → List R) where
  -- what holds of each element of the lists that f makes holds of each element of these lists joined
  pub flat_each : (xs : List X) → AllByRecursion (λ x. AllByRecursion P (f x)) xs → AllByRecursion P (flat_map f xs)
  flat_each [] h = tt
  flat_each (x ∷ xs) h = all_append P (f x) (flat_map f xs) h.0 (flat_each xs h.1)

  -- what holds of each element of the joined lists holds of each element of each list that f makes
  pub each_flat : (xs : List X) → AllByRecursion P (flat_map f xs) → AllByRecursion (λ x. AllByRecursion P (f x)) xs
  each_flat [] h = tt
  each_flat (x ∷ xs) h = let both = each_appended P (f x) (flat_map f xs) h in (both.0, each_flat xs both.1)

-- ---- the rows of all groups

-- f gives the rows of a group, which is a number of the map with its value
module _ {U R : Type 0} (f : ℕ × U → List R) (P : R → Type 0) where
  of_each : (es : List (ℕ × U)) → EachEntry (λ n u. AllByRecursion P (f (n, u))) es
      → AllByRecursion (λ e. AllByRecursion P (f e)) es
  of_each [] h = tt
  of_each (e ∷ es) h = (h.0, of_each es h.1)

  each_of : (es : List (ℕ × U)) → AllByRecursion (λ e. AllByRecursion P (f e)) es
      → EachEntry (λ n u. AllByRecursion P (f (n, u))) es
  each_of [] h = tt
  each_of (e ∷ es) h = (h.0, each_of es h.1)

  -- P holds of all rows if it holds of the rows of each group of the map
  pub groups_each : (units : FinMap nat_cmp U) → Every (λ n u. AllByRecursion P (f (n, u))) units
      → AllByRecursion P (flat_map f (entries units))
  groups_each units h =
      flat_each P f (entries units)
      (of_each (entries units) (each-from_every (λ n u. AllByRecursion P (f (n, u))) units h))

  -- P holds of the rows of each group of the map if it holds of all rows
  pub each_group : (units : FinMap nat_cmp U) → AllByRecursion P (flat_map f (entries units))
      → Every (λ n u. AllByRecursion P (f (n, u))) units
  each_group units h =
      every-from_each (λ n u. AllByRecursion P (f (n, u))) units
      (each_of (entries units) (each_flat P f (entries units) h))

-- ---- the rows of a group: of each amount that is not 0

-- `row` makes the row of a thing and its amount, `none` tests whether a row's amount is 0, and m is a map of amounts
module _ {R : Type 0} (none : R → Bool) (row : ℕ → ℕ → R) (m : FinMap nat_cmp ℕ) where
  -- the rows of a map of amounts (a unit's goods, a region's stocks): one for each amount that is not 0
  abbrev lines : List R
  lines = filter (λ r. not (none r)) (rows_by row (entries m))

  -- P holds of the rows of a map of amounts if it holds of the row of each amount that is not 0
  pub lines_each : (P : R → Type 0) → Every (λ i a. none (row i a) ≡ false → P (row i a)) m → AllByRecursion P lines
  lines_each P h =
      kept (λ r. not (none r)) P (rows_by row (entries m))
      (rows_every row (λ r. not (none r) ≡ true → P r) m (λ i a is some. h i a is (not-true (none (row i a)) some)))

  -- P holds of the row of each amount that is not 0, if it holds of the rows of the map of amounts
  pub each_line : (P : R → Type 0) → AllByRecursion P lines → Every (λ i a. none (row i a) ≡ false → P (row i a)) m
  each_line P h i a is some =
      every_row row (λ r. not (none r) ≡ true → P r) m (unkept (λ r. not (none r)) P (rows_by row (entries m)) h) i a is
      (not_from_false (none (row i a)) some)

  -- no two rows of a map of amounts are alike by the test e, if e is false of rows of a lower and of a higher number
  pub lines_apart : (e : R → R → Bool) → ((i k a b : ℕ) → i < k → e (row i a) (row k b) ≡ false) → IsDistinct e lines
  lines_apart e apart =
      filter_apart (λ r. not (none r)) e (rows_by row (entries m)) (rows_apart row e apart (entries m) (entries_rise m))

-- ---- the amounts of a group

-- `listed` and `rows` are the same rows in another order, and `mine` tests whether a row is of the group whose amounts
-- are in m; `thing` and `amount` read both from a row
module _ {R : Type 0} (thing amount : R → ℕ) (mine : R → Bool) (m : FinMap nat_cmp ℕ) (listed rows : List R) (same : IsPermutation listed rows) where
  -- the map has the amount of a row under the row's thing
  abbrev IsIn : FinMap nat_cmp ℕ → R → Type 0
  IsIn k r = get k (thing r) ≡ Some (amount r)

  -- The map `m` is read back from the rows that pass the test `mine`. This supposes that their things are distinct,
  -- that `m` has their amounts, and that each amount of `m` has such a row.
  pub amounts_back : HaveDistinctNumbers thing (filter mine rows)
      → AllByRecursion (λ r. mine r ≡ true → IsIn m r) listed
      → ((P : R → Type 0) → AllByRecursion (λ r. mine r ≡ true → P r) listed → Every (λ i a. (r : R) × (thing r ≡ i) × (amount r ≡ a) × P r) m)
      → by_number thing amount (filter mine rows) ≡ m
  amounts_back apart of there =
      let said = by_number thing amount (filter mine rows) in
      let found = each_back (λ r. mine r ≡ true → IsIn said r) listed rows same (unkept mine (IsIn said) rows (rows_found thing amount (filter mine rows) apart)) in
      by_number_is thing amount m (filter mine rows) (kept mine (IsIn m) rows (each_permuted (λ r. mine r ≡ true → IsIn m r) listed rows same of)) (λ i a is.
      let (r, it, number, shown) = there (IsIn said) found i a is in
      ap (get said) (sym it) ∙ shown ∙ ap (λ x. Some x) number)
