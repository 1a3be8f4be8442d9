use Rattle.std.proofs.Common.{true, sym, ap, subst}
use Rattle.std.specs.Slice.Iter.{iter_rest}
use Rattle.std.specs.Ordering.{nat_cmp}
use Rattle.std.specs.Set.{sorted_merge}
use Rattle.atl_world.specs.RoomySets.{RoomySet}
use Rattle.atl_world.specs.Tracking.{IsAscendingListOf}
use Rattle.atl_world.proofs.MergeLaws.{Lists-merged}
use Rattle.atl_world.proofs.marks.Marks.iter.Goals as goal

pub returns : goal.returns
returns c =
    let numbers : IsAscendingListOf c.self.inside.numbers.numbers (iter_rest c.iter.result) = subst (λ xs. IsAscendingListOf c.self.inside.numbers.numbers xs) (sym c.iter.ensures.rest) c.as_slice.ensures in
    let recent : IsAscendingListOf c.self.inside.recent.numbers (iter_rest c.iter-2.result) = subst (λ xs. IsAscendingListOf c.self.inside.recent.numbers xs) (sym c.iter-2.ensures.rest) c.as_slice-2.ensures in
    subst (λ marks. IsAscendingListOf marks (sorted_merge nat_cmp true (iter_rest c.iter.result) (iter_rest c.iter-2.result))) (ap (λ (m : RoomySet). m.numbers) c.self.view_is) (Lists-merged _ _ _ _ numbers recent)
