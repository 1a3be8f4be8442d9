use Rattle.std.proofs.Common.{refl}
use Rattle.atl_world.proofs.TrackLaws.{Room-taken}
use Rattle.atl_world.proofs.marked_map.MarkedMap.take_out.Goals as goal

pub invariant_of-self : goal.invariant_of-self
invariant_of-self g c =
    let marks = c.self.inside.marks in
    rw (c.remove-else-was_marked.ensures, c.take.ensures) (Room-taken c.self.inside.values marks.numbers marks.room c.args.number c.self.invariant)

pub returns-else-was_marked : goal.returns-else-was_marked
returns-else-was_marked g c =
    rw (← c.self.view_is, c.if-was_marked.false, c.remove-else-was_marked.ensures, c.take.ensures) refl
