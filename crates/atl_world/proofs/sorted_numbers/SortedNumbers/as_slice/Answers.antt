use Rattle.std.proofs.Common.{sym, ap, subst}
use Rattle.atl_world.specs.RoomySets.{RoomySet}
use Rattle.atl_world.specs.Tracking.{IsAscendingListOf}
use Rattle.atl_world.proofs.sorted_numbers.SortedNumbers.as_slice.Goals as goal

pub returns : goal.returns
returns c =
    subst (λ xs. IsAscendingListOf c.args.self.now.numbers xs) (sym c.deref.ensures.value) (record { ascending = c.self.invariant; all = ap (λ (m : RoomySet). m.numbers) c.self.view_is })
