use Rattle.atl_world.proofs.SortedListLaws.{sorted-empty}
use Rattle.atl_world.proofs.sorted_numbers.SortedNumbers.with_room.Goals as goal

pub invariant_of-result : goal.invariant_of-result
invariant_of-result c = rw c.in_ok-with_capacity.ensures.items sorted-empty
