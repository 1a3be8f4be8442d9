use Rattle.std.proofs.Common.{◌≡◌, length, ap, ◌∙◌, arith}
use Rattle.std.specs.FinSet as set
use Rattle.atl_world.specs.RoomySets.{RoomySet}
use Rattle.atl_world.proofs.SortedListLaws.{sorted-empty, len-sorted}
use Rattle.atl_world.proofs.MergeLaws.{sorted-merged, from_list-merged}
use Rattle.atl_world.proofs.sorted_numbers.SortedNumbers.merge_from.Goals as goal

pub merge_into-requires-clause-room : goal.merge_into-requires-clause-room
merge_into-requires-clause-room c =
    let own = len-sorted c.self.inside.numbers.items c.self.invariant in
    let others = len-sorted c.others.inside.numbers.items c.others.invariant in
    let own_seen = ap (λ (m : RoomySet). set.len m.numbers) c.self.view_is in
    let others_seen = ap (λ (m : RoomySet). set.len m.numbers) c.others.view_is in
    let room = ap (λ (m : RoomySet). m.room) c.self.view_is in
    let size = ap length c.deref.ensures.value in
    omega (arith, own, others, own_seen, others_seen, room, size, c.requires.room)

pub invariant_of-self : goal.invariant_of-self
invariant_of-self c =
    rw (c.merge_into.ensures.items, c.deref.ensures.value)
    (sorted-merged c.self.inside.numbers.items c.others.inside.numbers.items c.self.invariant c.others.invariant)

pub invariant_of-others : goal.invariant_of-others
invariant_of-others c = rw c.clear.ensures.items sorted-empty

pub returns-clause-numbers : goal.returns-clause-numbers
returns-clause-numbers c =
    let others = c.others.inside.numbers.items in
    let numbers : set.from_list c.merge_into.new.numbers.items ≡ set.union c.args.self.now.numbers c.args.others.now.numbers =
    ap set.from_list (rw c.deref.ensures.value at c.merge_into.ensures.items)
    ∙ from_list-merged c.self.inside.numbers.items others
    ∙ (λ i. set.union (c.self.view_is i).numbers (c.others.view_is i).numbers) in
    let room = c.merge_into.ensures.room ∙ ap (λ (m : RoomySet). m.room) c.self.view_is in
    λ i. record { numbers = numbers i; room = room i }
