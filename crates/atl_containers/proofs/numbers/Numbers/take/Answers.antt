use Rattle.std.proofs.Common.{sym}
use Rattle.atl_containers.specs.Ordered.{take_number}
use Rattle.atl_containers.proofs.SortedLaws.{IsSorted-take}
use Rattle.atl_containers.proofs.numbers.Numbers.take.Goals as goal

pub invariant_of-self : goal.invariant_of-self
unfolding take_number
invariant_of-self c =
    rw (c.remove.ensures, c.first_not_below-position.ensures.position, c.as_slice.ensures, sym c.self.view_is)
    (IsSorted-take c.args.number c.self.inside.items c.self.invariant)
