use Rattle.std.proofs.Common.{◌≡◌, ap, ◌∙◌}
use Rattle.std.specs.FinSet as set
use Rattle.atl_world.specs.RoomySets.{RoomySet}
use Rattle.atl_world.proofs.SetLaws.{union-empty}
use Rattle.atl_world.proofs.ApartLaws.{no_marks}
use Rattle.atl_world.proofs.marks.Marks.new.Goals as goal

pub invariant_of-result : goal.invariant_of-result
invariant_of-result c = rw (c.new.ensures, c.new-2.ensures) (no_marks 0 0)

pub returns : goal.returns
returns c =
    let numbers : set.union c.new.result.numbers c.new-2.result.numbers ≡ set.empty =
    (λ i. set.union (c.new.ensures i).numbers (c.new-2.ensures i).numbers) ∙ union-empty set.empty in
    let room = ap (λ (m : RoomySet). m.room) c.new.ensures in
    λ i. record { numbers = numbers i; room = room i }
