use Rattle.std.proofs.Common.{◌≡◌, ap, ◌∙◌}
use Rattle.std.specs.FinSet as set
use Rattle.atl_world.specs.RoomySets.{RoomySet}
use Rattle.atl_world.proofs.SetLaws.{union-empty}
use Rattle.atl_world.proofs.ApartLaws.{no_marks}
use Rattle.atl_world.proofs.marks.Marks.with_room.Goals as goal

pub invariant_of-result : goal.invariant_of-result
invariant_of-result c = rw (c.in_ok-numbers.ensures, c.in_ok-recent.ensures) (no_marks c.args.room c.min.result)

pub returns : goal.returns
returns c =
    let numbers : set.union c.in_ok-numbers.numbers.numbers c.in_ok-recent.recent.numbers ≡ set.empty =
    (λ i. set.union (c.in_ok-numbers.ensures i).numbers (c.in_ok-recent.ensures i).numbers) ∙ union-empty set.empty in
    let room = ap (λ (m : RoomySet). m.room) c.in_ok-numbers.ensures in
    λ i. record { numbers = numbers i; room = room i }
