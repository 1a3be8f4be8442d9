use Rattle.std.proofs.Common.{refl}
use Rattle.atl_world.proofs.TrackLaws.{Room-unmarked}
use Rattle.atl_world.proofs.marked_map.MarkedMap.unmark.Goals as goal

pub invariant_of-self : goal.invariant_of-self
invariant_of-self g c =
    rw c.clear.ensures
    (Room-unmarked c.self.inside.values c.self.inside.marks.numbers c.self.inside.marks.room c.self.invariant)

pub returns : goal.returns
returns g c = rw (← c.self.view_is, c.clear.ensures) refl
