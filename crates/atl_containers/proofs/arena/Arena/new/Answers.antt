use Rattle.atl_containers.proofs.SlotLaws.{no_values, IsArena-empty}
use Rattle.atl_containers.proofs.arena.Arena.new.Goals as goal

pub invariant_of-result : goal.invariant_of-result
invariant_of-result g c = rw c.new.ensures (IsArena-empty c.new-2.result c.new-2.ensures.empty)

pub returns : goal.returns
returns g c = rw c.new.ensures (no_values c.new-2.result)
