use Rattle.std.proofs.Common.{◌≡◌, ap, ◌∙◌}
use Rattle.std.specs.FinSet as set
use Rattle.atl_world.specs.RoomySets.{RoomySet}
use Rattle.atl_world.proofs.SetLaws.{union-empty}
use Rattle.atl_world.proofs.ApartLaws.{no_marks}
use Rattle.atl_world.proofs.marks.Marks.clear.Goals as goal

pub invariant_of-self : goal.invariant_of-self
invariant_of-self c =
    rw (c.clear.ensures, c.clear-2.ensures) (no_marks c.self.inside.numbers.room c.self.inside.recent.room)

pub returns : goal.returns
returns c =
    let numbers : set.union c.clear.new.self.numbers c.clear-2.new.self.numbers ≡ set.empty =
    (λ i. set.union (c.clear.ensures i).numbers (c.clear-2.ensures i).numbers) ∙ union-empty set.empty in
    let room = ap (λ (m : RoomySet). m.room) c.clear.ensures ∙ ap (λ (m : RoomySet). m.room) c.self.view_is in
    λ i. record { numbers = numbers i; room = room i }
