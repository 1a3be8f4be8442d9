use Rattle.std.proofs.Common.{ap, arith}
use Rattle.std.specs.FinSet as set
use Rattle.atl_world.specs.Limits.{number_count}
use Rattle.atl_world.specs.RoomySets.{RoomySet}
use Rattle.atl_world.proofs.ApartLaws.{len-apart, len-both_below}
use Rattle.atl_world.proofs.marks.Marks.len.Goals as goal

-- the count of the recent marks and that of the other marks have a sum that fits `usize`, since all numbers are below
-- 2^32
pub overflow_add-result : goal.overflow_add-result
overflow_add-result c =
    let numbers = c.self.inside.numbers.numbers in
    let recent = c.self.inside.recent.numbers in
    let all = len-apart numbers recent c.self.invariant.apart in
    let few = len-both_below number_count numbers recent c.len.ensures.low c.len-2.ensures.low in
    omega (arith, all, few, c.len.ensures.value, c.len-2.ensures.value)

-- the count of the recent marks plus that of the other marks is the count of all marks, since no number is among both
pub returns-clause-value : goal.returns-clause-value
returns-clause-value c =
    let all = len-apart c.self.inside.numbers.numbers c.self.inside.recent.numbers c.self.invariant.apart in
    let seen = ap (λ (m : RoomySet). set.len m.numbers) c.self.view_is in
    omega (arith, all, seen, c.len.ensures.value, c.len-2.ensures.value)

pub returns-clause-small : goal.returns-clause-small
returns-clause-small c =
    let numbers = c.self.inside.numbers.numbers in
    let recent = c.self.inside.recent.numbers in
    let all = len-apart numbers recent c.self.invariant.apart in
    let few = len-both_below number_count numbers recent c.len.ensures.low c.len-2.ensures.low in
    omega (arith, all, few, c.len.ensures.value, c.len-2.ensures.value)
