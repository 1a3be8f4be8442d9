use Rattle.std.proofs.Common.{◌≡◌, true, sym, ap, ◌∙◌, arith}
use Rattle.std.specs.FinSet as set
use Rattle.atl_world.specs.RoomySets.{RoomySet}
use Rattle.atl_world.specs.SortedNumbers.{IsAt, BelongsAt}
use Rattle.atl_world.proofs.SetLaws.{insert_twice}
use Rattle.atl_world.proofs.SortedListLaws.{sorted-insert, from_list-insert, len-belongs, contains-is_at}
use Rattle.atl_world.proofs.sorted_numbers.SortedNumbers.add.Goals as goal

pub put_at-requires-clause-room : goal.put_at-requires-clause-room
put_at-requires-clause-room c =
    let items = c.self.inside.numbers.items in
    let n = c.args.number in
    let belongs : BelongsAt items n c.in-Err.index = rw c.deref.ensures.value at c.in-Err.ensures.missing in
    let room = ap (λ (m : RoomySet). m.room) c.self.view_is in
    let size = ap (λ (m : RoomySet). set.len (set.insert m.numbers n)) c.self.view_is in
    let more = len-belongs items n c.in-Err.index c.self.invariant belongs in
    omega (arith, room, size, more, c.requires)

pub invariant_of-self : goal.invariant_of-self
invariant_of-self c =
    let items = c.self.inside.numbers.items in
    let belongs : BelongsAt items c.args.number c.in-Err.index = rw c.deref.ensures.value at c.in-Err.ensures.missing in
    rw c.put_at.ensures.items (sorted-insert items c.args.number c.in-Err.index c.self.invariant belongs)

pub returns-in-Ok : goal.returns-in-Ok
returns-in-Ok c =
    let items = c.self.inside.numbers.items in
    let n = c.args.number in
    let is_at : IsAt items n c.in-Ok.field-0 = rw c.deref.ensures.value at c.in-Ok.ensures.found in
    let marked : set.contains c.args.self.now.numbers n ≡ true = sym (ap (λ (m : RoomySet). set.contains m.numbers n) c.self.view_is) ∙ contains-is_at items n c.in-Ok.field-0 is_at in
    λ i. record { numbers = sym (insert_twice c.args.self.now.numbers n marked) i; room = c.args.self.now.room }

pub returns-in-Err : goal.returns-in-Err
returns-in-Err c =
    let items = c.self.inside.numbers.items in
    let n = c.args.number in
    let numbers : set.from_list c.put_at.new.numbers.items ≡ set.insert c.args.self.now.numbers n = ap set.from_list c.put_at.ensures.items ∙ from_list-insert items n c.in-Err.index ∙ ap (λ (m : RoomySet). set.insert m.numbers n) c.self.view_is in
    let room = c.put_at.ensures.room ∙ ap (λ (m : RoomySet). m.room) c.self.view_is in
    λ i. record { numbers = numbers i; room = room i }
