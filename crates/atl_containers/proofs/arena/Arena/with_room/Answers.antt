use Rattle.atl_containers.proofs.SlotLaws.{no_values, IsArena-empty}
use Rattle.atl_containers.proofs.arena.Arena.with_room.Goals as goal

pub invariant_of-result : goal.invariant_of-result
invariant_of-result g c = rw c.in_ok-index.ensures (IsArena-empty c.in_ok-slots.slots c.in_ok-slots.ensures.empty)

pub returns : goal.returns
returns g c = rw c.in_ok-index.ensures (no_values c.in_ok-slots.slots)
