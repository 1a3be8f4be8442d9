use Rattle.std.proofs.Common.{◌||◌, sym, ap, ◌∙◌}
use Rattle.std.specs.Cmp.{nat_cmp_total}
use Rattle.std.specs.FinSet as set
use Rattle.atl_world.specs.RoomySets.{RoomySet}
use Rattle.atl_world.proofs.marks.Marks.contains.Goals as goal

pub returns-then-contains : goal.returns-then-contains
returns-then-contains c =
    let n = c.args.number in
    let first = sym c.contains.ensures ∙ c.if-contains.true in
    let both = ap (λ b. b || set.contains c.self.inside.recent.numbers n) first in
    c.if-contains.true
    ∙ sym (sym (ap (λ (m : RoomySet). set.contains m.numbers n) c.self.view_is) ∙ set.contains-union nat_cmp_total c.self.inside.numbers.numbers c.self.inside.recent.numbers n ∙ both)

pub returns-else-contains : goal.returns-else-contains
returns-else-contains c =
    let n = c.args.number in
    let first = sym c.contains.ensures ∙ c.if-contains.false in
    let both = ap (λ b. b || set.contains c.self.inside.recent.numbers n) first in
    c.contains-else-contains.ensures
    ∙ sym (sym (ap (λ (m : RoomySet). set.contains m.numbers n) c.self.view_is) ∙ set.contains-union nat_cmp_total c.self.inside.numbers.numbers c.self.inside.recent.numbers n ∙ both)
