use Rattle.std.proofs.Common.{refl}
use Rattle.atl_world.proofs.TrackLaws.{Room-cleared}
use Rattle.atl_world.proofs.marked_map.MarkedMap.clear.Goals as goal

pub invariant_of-self : goal.invariant_of-self
invariant_of-self g c =
    rw (c.mark_all.ensures, c.clear.ensures)
    (Room-cleared c.self.inside.values c.self.inside.marks.numbers c.self.inside.marks.room c.self.invariant)

pub returns : goal.returns
returns g c = rw (← c.self.view_is, c.mark_all.ensures, c.clear.ensures) refl
