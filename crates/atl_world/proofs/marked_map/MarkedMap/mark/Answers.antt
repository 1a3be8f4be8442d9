use Rattle.std.proofs.Common.{refl}
use Rattle.std.specs.FinMap.{get}
use Rattle.atl_world.proofs.TrackLaws.{Room-put}
use Rattle.atl_world.proofs.marked_map.MarkedMap.mark.Goals as goal

pub invariant_of-self : goal.invariant_of-self
invariant_of-self g c =
    let marks = c.self.inside.marks in
    rw c.mark_present.ensures (Room-put c.self.inside.values marks.numbers marks.room c.args.number (get c.self.inside.values c.args.number) refl c.self.invariant)

pub returns : goal.returns
returns g c = rw (← c.self.view_is, c.mark_present.ensures) refl
