use Rattle.std.proofs.Common.{refl}
use Rattle.atl_world.proofs.TrackLaws.{Room-of}
use Rattle.atl_world.proofs.marked_map.MarkedMap.from_values.Goals as goal

pub invariant_of-result : goal.invariant_of-result
invariant_of-result g c = rw (c.in_ok-marks.ensures, c.len.ensures) (Room-of c.args.values)

pub returns : goal.returns
returns g c = rw c.in_ok-marks.ensures refl
