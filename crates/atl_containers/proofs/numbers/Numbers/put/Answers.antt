use Rattle.std.proofs.Common.{sym}
use Rattle.atl_containers.specs.Ordered.{put_number}
use Rattle.atl_containers.proofs.SortedLaws.{IsSorted-put}
use Rattle.atl_containers.proofs.numbers.Numbers.put.Goals as goal

pub invariant_of-self-2 : goal.invariant_of-self-2
unfolding put_number
invariant_of-self-2 c =
    rw (c.in_ok-insert.ensures.ok, c.first_not_below-position.ensures.position, c.as_slice.ensures, sym c.self.view_is)
    (IsSorted-put c.args.number c.self.inside.items c.self.invariant)
