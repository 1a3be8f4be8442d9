use Rattle.std.proofs.Common.{refl}
use Rattle.std.specs.Ordering.{eq_by_cmp}
use Rattle.std.specs.Cmp.{eq_by_cmp_equiv}
use Rattle.std.proofs.lemmas.List.Sorted.{IsPermutation-sym}
use Rattle.std.proofs.lemmas.Map.Keys.{IsDistinct-from_sorted, IsDistinct-IsPermutation}
use Rattle.atl_state.proofs.RisingLaws.{rise_if_distinct}
use Rattle.atl_state.proofs.row_rules.keys.are_distinct.Goals as goal

pub returns-then-are_sorted : goal.returns-then-are_sorted
returns-then-are_sorted g c =
    (λ _. IsDistinct-from_sorted g.K.Ord.cmp c.args.keys.now (c.are_sorted.ensures.0 c.if-are_sorted.true), λ _. refl)

-- the sorted values rise exactly if they are distinct, and then the values in any other order are distinct, too
pub returns : goal.returns
returns g c =
    let values = c.args.keys.now in
    let ordered = c.in_ok-sorted.sorted.items in
    let rise = rw c.deref.ensures.value at c.are_sorted-2.ensures in
    let flips = (eq_by_cmp_equiv g.met.K.Ord.total).symm in (
      λ yes. IsDistinct-IsPermutation (eq_by_cmp g.K.Ord.cmp) flips ordered values (IsPermutation-sym values ordered c.in_ok-sorted.ensures.same) (IsDistinct-from_sorted g.K.Ord.cmp ordered (rise.0 yes)),
      λ apart. rise.1 (rise_if_distinct g.met.K.Ord.total ordered c.in_ok-sorted.ensures.ordered (IsDistinct-IsPermutation (eq_by_cmp g.K.Ord.cmp) flips values ordered c.in_ok-sorted.ensures.same apart)),
    )
