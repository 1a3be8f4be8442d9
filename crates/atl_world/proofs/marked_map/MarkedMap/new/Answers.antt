use Rattle.atl_world.proofs.TrackLaws.{Room-empty}
use Rattle.atl_world.proofs.marked_map.MarkedMap.new.Goals as goal

pub invariant_of-result : goal.invariant_of-result
invariant_of-result g c = rw (c.new.ensures, c.new-2.ensures) (Room-empty g.row.V.Denot)
