use Rattle.std.proofs.Common.{sym, ap, ◌∙◌}
use Rattle.std.specs.FinSet as set
use Rattle.atl_world.specs.RoomySets.{RoomySet}
use Rattle.atl_world.specs.SortedNumbers.{IsAt, BelongsAt}
use Rattle.atl_world.proofs.SortedListLaws.{contains-is_at, contains-belongs}
use Rattle.atl_world.proofs.sorted_numbers.SortedNumbers.contains.Goals as goal

pub returns-in-Ok : goal.returns-in-Ok
returns-in-Ok c =
    let items = c.self.inside.numbers.items in
    let is_at : IsAt items c.args.number c.in-Ok.field-0 = rw c.deref.ensures.value at c.in-Ok.ensures.found in
    sym (sym (ap (λ (m : RoomySet). set.contains m.numbers c.args.number) c.self.view_is) ∙ contains-is_at items c.args.number c.in-Ok.field-0 is_at)

pub returns-in-Err : goal.returns-in-Err
returns-in-Err c =
    let items = c.self.inside.numbers.items in
    let belongs : BelongsAt items c.args.number c.in-Err.field-0 = rw c.deref.ensures.value at c.in-Err.ensures.missing in
    sym (sym (ap (λ (m : RoomySet). set.contains m.numbers c.args.number) c.self.view_is) ∙ contains-belongs items c.args.number c.in-Err.field-0 c.self.invariant belongs)
