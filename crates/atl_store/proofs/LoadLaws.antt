-- Laws on rowids that a SELECT shows: they are integers, no two alike, exactly if those of the table's tree are.
-- `f` gives the row that the SELECT shows of a row of the tree, with the rowid in the column at the index `at`.
-- `tree` are the rows as they are stored, and `shown` the rows that the SELECT shows, in any order.
use Rattle.std.proofs.Common.{◌≡◌, ℕ, false, List, [], ◌∷◌, map, Ordering, Less, Equal, Greater, refl, sym, ap, ◌∙◌}
use Rattle.std.specs.List.{AllByRecursion, IsDistinct}
use Rattle.std.specs.List.Sorted.{IsPermutation}
use Rattle.std.specs.Ordering.{is_eq, ordering_reverse}
use Rattle.std.proofs.lemmas.List.Sorted.{IsPermutation-sym}
use Rattle.std.proofs.lemmas.Map.Keys.{IsDistinct-IsPermutation}
use Rattle.sqlite_value.specs.Order.{Row, column, value_cmp}
use Rattle.sqlite_value.proofs.OrderLemmas.{value_cmp_total}
use Rattle.sqlite_trees.specs.Tree.{rowid, IsAscending}
use Rattle.sqlite_trees.specs.View.{is_int}
use Rattle.sqlite_trees.proofs.ListLemmas.{all-permutation}
use Rattle.atl_store.specs.Gathering.{HaveDistinctIntegers}
use Rattle.atl_descriptions.specs.Sets.{AreKeyedByRowid}

all_mapped : (f : Row → Row) (P Q : Row → Type 0) (rows : List Row) → ((r : Row) → P (f r) → Q r)
    → AllByRecursion P (map f rows) → AllByRecursion Q rows
all_mapped f P Q [] so all = tt
all_mapped f P Q (r ∷ rows) so all = (so r all.0, all_mapped f P Q rows so all.1)

distinct_mapped : (f : Row → Row) (at : ℕ) (rows : List Row) → ((r : Row) → column (f r) at ≡ rowid r)
    → IsDistinct (λ a b. is_eq (value_cmp (column a at) (column b at))) (map f rows)
    → IsDistinct (λ a b. is_eq (value_cmp (rowid a) (rowid b))) rows
unfolding IsDistinct
distinct_mapped f at [] is apart = tt
distinct_mapped f at (r ∷ rows) is apart = (
  all_mapped f _ _ rows (λ x h. ap (λ v. is_eq (value_cmp v (rowid x))) (sym (is r)) ∙ ap (λ v. is_eq (value_cmp (column (f r) at) v)) (sym (is x)) ∙ h) apart.0,
  distinct_mapped f at rows is apart.1,
)

ascending_from : (rows : List Row) → IsDistinct (λ a b. is_eq (value_cmp (rowid a) (rowid b))) rows
    → IsAscending (λ a b. is_eq (value_cmp (rowid a) (rowid b)) ≡ false) rows
unfolding IsDistinct
ascending_from [] apart = tt
ascending_from (r ∷ rows) apart = (apart.0, ascending_from rows apart.1)

row_equality_is_symmetric : (at : ℕ) (a b : Row)
    → is_eq (value_cmp (column a at) (column b at)) ≡ is_eq (value_cmp (column b at) (column a at))
row_equality_is_symmetric at a b =
    ap is_eq (value_cmp_total.antisymm (column a at) (column b at)) ∙ reversed (value_cmp (column b at) (column a at))
  where
    reversed : (o : Ordering) → is_eq (ordering_reverse o) ≡ is_eq o
    reversed Less = refl
    reversed Equal = refl
    reversed Greater = refl

mapped_all : (f : Row → Row) (P Q : Row → Type 0) (rows : List Row) → ((r : Row) → Q r → P (f r))
    → AllByRecursion Q rows → AllByRecursion P (map f rows)
mapped_all f P Q [] so all = tt
mapped_all f P Q (r ∷ rows) so all = (so r all.0, mapped_all f P Q rows so all.1)

mapped_distinct : (f : Row → Row) (at : ℕ) (rows : List Row) → ((r : Row) → column (f r) at ≡ rowid r)
    → IsAscending (λ a b. is_eq (value_cmp (rowid a) (rowid b)) ≡ false) rows
    → IsDistinct (λ a b. is_eq (value_cmp (column a at) (column b at))) (map f rows)
unfolding IsDistinct
mapped_distinct f at [] is apart = tt
mapped_distinct f at (r ∷ rows) is apart = (
  mapped_all f _ _ rows (λ x h. ap (λ v. is_eq (value_cmp v (column (f x) at))) (is r) ∙ ap (λ v. is_eq (value_cmp (rowid r) v)) (is x) ∙ h) apart.0,
  mapped_distinct f at rows is apart.1,
)

-- if the rowids of a tree are different integers, so are those that a SELECT of its rows shows in the column `at`
pub keyed_shown : (f : Row → Row) (at : ℕ) (tree shown : List Row) → ((r : Row) → column (f r) at ≡ rowid r)
    → IsPermutation (map f tree) shown → AreKeyedByRowid tree → HaveDistinctIntegers at shown
keyed_shown f at tree shown is same keyed = record {
  apart = IsDistinct-IsPermutation _ (row_equality_is_symmetric at) (map f tree) shown same (mapped_distinct f at tree is keyed.apart);
  ints = all-permutation _ (map f tree) shown same (mapped_all f _ _ tree (λ r h. ap is_int (is r) ∙ h) keyed.ints);
}

-- if the rowids that a SELECT of a tree's rows shows in the column `at` are different integers, so are the tree's
pub keyed_by : (f : Row → Row) (at : ℕ) (tree shown : List Row) → ((r : Row) → column (f r) at ≡ rowid r)
    → IsPermutation (map f tree) shown → HaveDistinctIntegers at shown → AreKeyedByRowid tree
keyed_by f at tree shown is same have =
    let back = IsPermutation-sym (map f tree) shown same in
    record {
      apart = ascending_from tree (distinct_mapped f at tree is (IsDistinct-IsPermutation _ (row_equality_is_symmetric at) shown (map f tree) back have.apart));
      ints = all_mapped f _ _ tree (λ r h. ap is_int (sym (is r)) ∙ h) (all-permutation _ shown (map f tree) back have.ints);
    }
