use Rattle.atl_containers.proofs.IndexLaws.{sorted-none}
use Rattle.atl_containers.proofs.index.Index.with_room.Goals as goal

pub invariant_of-result : goal.invariant_of-result
invariant_of-result c = rw c.in_ok-with_room.ensures sorted-none
