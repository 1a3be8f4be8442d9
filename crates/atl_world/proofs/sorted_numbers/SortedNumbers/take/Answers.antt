use Rattle.std.proofs.Common.{◌≡◌, false, sym, ap, ◌∙◌}
use Rattle.std.specs.FinSet as set
use Rattle.atl_world.specs.RoomySets.{RoomySet}
use Rattle.atl_world.specs.SortedNumbers.{IsAt, BelongsAt}
use Rattle.atl_world.proofs.SetLaws.{remove_absent}
use Rattle.atl_world.proofs.SortedListLaws.{sorted-remove, from_list-remove, contains-belongs}
use Rattle.atl_world.proofs.sorted_numbers.SortedNumbers.take.Goals as goal

pub invariant_of-self : goal.invariant_of-self
invariant_of-self c =
    let items = c.self.inside.numbers.items in
    let is_at : IsAt items c.args.number c.in-Ok.index = rw c.deref.ensures.value at c.in-Ok.ensures.found in
    rw c.remove.ensures.items (sorted-remove items c.in-Ok.index c.self.invariant is_at.within)

pub returns-in-Ok : goal.returns-in-Ok
returns-in-Ok c =
    let items = c.self.inside.numbers.items in
    let n = c.args.number in
    let is_at : IsAt items n c.in-Ok.index = rw c.deref.ensures.value at c.in-Ok.ensures.found in
    let numbers : set.from_list c.remove.new.self.items ≡ set.remove c.args.self.now.numbers n =
    ap set.from_list c.remove.ensures.items ∙ from_list-remove items n c.in-Ok.index c.self.invariant is_at ∙ ap (λ (m : RoomySet). set.remove m.numbers n) c.self.view_is in
    let room = c.remove.ensures.capacity ∙ ap (λ (m : RoomySet). m.room) c.self.view_is in
    λ i. record { numbers = numbers i; room = room i }

pub returns-in-Err : goal.returns-in-Err
returns-in-Err c =
    let items = c.self.inside.numbers.items in
    let n = c.args.number in
    let belongs : BelongsAt items n c.in-Err.field-0 = rw c.deref.ensures.value at c.in-Err.ensures.missing in
    let unmarked : set.contains c.args.self.now.numbers n ≡ false = sym (ap (λ (m : RoomySet). set.contains m.numbers n) c.self.view_is) ∙ contains-belongs items n c.in-Err.field-0 c.self.invariant belongs in
    λ i. record { numbers = sym (remove_absent c.args.self.now.numbers n unmarked) i; room = c.args.self.now.room }
