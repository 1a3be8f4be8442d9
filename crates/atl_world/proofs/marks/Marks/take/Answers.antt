use Rattle.std.proofs.Common.{◌≡◌, ap, ◌∙◌}
use Rattle.std.specs.FinSet as set
use Rattle.atl_world.specs.RoomySets.{RoomySet}
use Rattle.atl_world.proofs.ApartLaws.{mark_taken, union-remove}
use Rattle.atl_world.proofs.marks.Marks.take.Goals as goal

pub invariant_of-self : goal.invariant_of-self
invariant_of-self c =
    rw (c.take.ensures, c.take-2.ensures)
    (mark_taken c.self.inside.numbers c.self.inside.recent c.args.number c.self.invariant)

pub returns : goal.returns
returns c =
    let n = c.args.number in
    let numbers : set.union c.take.new.self.numbers c.take-2.new.self.numbers ≡ set.remove c.args.self.now.numbers n =
    (λ i. set.union (c.take.ensures i).numbers (c.take-2.ensures i).numbers)
    ∙ union-remove c.self.inside.numbers.numbers c.self.inside.recent.numbers n
    ∙ ap (λ (m : RoomySet). set.remove m.numbers n) c.self.view_is in
    let room = ap (λ (m : RoomySet). m.room) c.take.ensures ∙ ap (λ (m : RoomySet). m.room) c.self.view_is in
    λ i. record { numbers = numbers i; room = room i }
