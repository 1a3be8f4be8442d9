use Rattle.std.proofs.Common.{◌≡◌, true, sym, ap, ◌∙◌}
use Rattle.std.specs.FinSet as set
use Rattle.atl_world.specs.RoomySets.{RoomySet}
use Rattle.atl_world.proofs.SetLaws.{insert_twice, union-insert, union-empty}
use Rattle.atl_world.proofs.ApartLaws.{fits_recent, one_recent, mark_is_added_to_all}
use Rattle.atl_world.proofs.marks.Marks.add.Goals as goal

pub returns-then-contains : goal.returns-then-contains
returns-then-contains c =
    let marked : set.contains c.args.self.now.numbers c.args.number ≡ true = sym c.contains.ensures ∙ c.if-contains.true in
    λ i. record { numbers = sym (insert_twice c.args.self.now.numbers c.args.number marked) i; room = c.args.self.now.room }

pub add-requires : goal.add-requires
add-requires c =
    fits_recent c.self.inside.numbers c.self.inside.recent c.args.self.now c.args.number c.self.view_is c.self.invariant (sym c.contains.ensures ∙ c.if-contains.false) (c.has_recent_room.ensures c.if-has_recent_room.true)

pub invariant_of-self : goal.invariant_of-self
invariant_of-self c =
    rw c.add.ensures (one_recent c.self.inside.numbers c.self.inside.recent c.args.self.now c.args.number c.self.view_is c.self.invariant (sym c.contains.ensures ∙ c.if-contains.false) c.requires)

pub invariant_of-self-else-has_recent_room : goal.invariant_of-self-else-has_recent_room
invariant_of-self-else-has_recent_room c =
    rw (c.add-else-has_recent_room.ensures, c.merge_from.ensures.numbers, c.merge_from.ensures.others)
    (mark_is_added_to_all c.self.inside.numbers c.self.inside.recent c.args.self.now c.args.number c.self.view_is c.self.invariant c.requires)

pub returns-then-has_recent_room : goal.returns-then-has_recent_room
returns-then-has_recent_room c =
    let n = c.args.number in
    let numbers : set.union c.self.inside.numbers.numbers c.add.new.self.numbers ≡ set.insert c.args.self.now.numbers n =
    (λ i. set.union c.self.inside.numbers.numbers (c.add.ensures i).numbers)
    ∙ union-insert c.self.inside.numbers.numbers c.self.inside.recent.numbers n
    ∙ ap (λ (m : RoomySet). set.insert m.numbers n) c.self.view_is in
    let room = ap (λ (m : RoomySet). m.room) c.self.view_is in
    λ i. record { numbers = numbers i; room = room i }

pub returns-else-has_recent_room : goal.returns-else-has_recent_room
returns-else-has_recent_room c =
    let n = c.args.number in
    let numbers : set.union c.add-else-has_recent_room.new.self.numbers c.merge_from.new.others.numbers ≡ set.insert c.args.self.now.numbers n =
    (λ i. set.union (c.add-else-has_recent_room.ensures i).numbers (c.merge_from.ensures.others i).numbers)
    ∙ union-empty (set.insert c.merge_from.new.self.numbers n)
    ∙ ap (λ (m : RoomySet). set.insert m.numbers n) (c.merge_from.ensures.numbers ∙ c.self.view_is) in
    let room = ap (λ (m : RoomySet). m.room) c.add-else-has_recent_room.ensures ∙ ap (λ (m : RoomySet). m.room) (c.merge_from.ensures.numbers ∙ c.self.view_is) in
    λ i. record { numbers = numbers i; room = room i }
