use Rattle.std.proofs.Common.{refl}
use Rattle.std.specs.FinMap.{get}
use Rattle.atl_world.proofs.TrackLaws.{Room-without, without_value_is}
use Rattle.atl_world.proofs.marked_map.MarkedMap.remove.Goals as goal

pub invariant_of-self : goal.invariant_of-self
invariant_of-self g c =
    let marks = c.self.inside.marks in
    rw (c.mark_present.ensures, c.remove.ensures) (Room-without c.self.inside.values marks.numbers marks.room c.args.number (get c.self.inside.values c.args.number) refl c.self.invariant)

pub returns : goal.returns
returns g c =
    rw (← c.self.view_is, c.mark_present.ensures, c.remove.ensures)
    (without_value_is (record { values = c.self.inside.values; marks = c.self.inside.marks.numbers }) c.args.number (get c.self.inside.values c.args.number) refl)
