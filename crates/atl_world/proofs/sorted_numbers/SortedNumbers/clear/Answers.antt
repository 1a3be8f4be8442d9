use Rattle.std.proofs.Common.{◌≡◌, ap, ◌∙◌}
use Rattle.std.specs.FinSet as set
use Rattle.atl_world.specs.RoomySets.{RoomySet}
use Rattle.atl_world.proofs.SortedListLaws.{sorted-empty}
use Rattle.atl_world.proofs.sorted_numbers.SortedNumbers.clear.Goals as goal

pub invariant_of-self : goal.invariant_of-self
invariant_of-self c = rw c.clear.ensures.items sorted-empty

pub returns : goal.returns
returns c =
    let numbers : set.from_list c.clear.new.self.items ≡ set.empty = ap set.from_list c.clear.ensures.items in
    let room = c.clear.ensures.capacity ∙ ap (λ (m : RoomySet). m.room) c.self.view_is in
    λ i. record { numbers = numbers i; room = room i }
