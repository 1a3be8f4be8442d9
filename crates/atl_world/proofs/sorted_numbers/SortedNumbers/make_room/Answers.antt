use Rattle.std.proofs.Common.{ap, arith}
use Rattle.std.proofs.lemmas.Result.{on_ok_weaker}
use Rattle.std.specs.FinSet as set
use Rattle.atl_world.specs.RoomySets.{RoomySet}
use Rattle.atl_world.proofs.SortedListLaws.{len-sorted}
use Rattle.atl_world.proofs.sorted_numbers.SortedNumbers.make_room.Goals as goal

pub returns-clause-room : goal.returns-clause-room
returns-clause-room c =
    let all = len-sorted c.self.inside.numbers.items c.self.invariant in
    let seen = ap (λ (m : RoomySet). set.len m.numbers) c.self.view_is in
    let size = c.self.inside.numbers.ok.0 in
    on_ok_weaker c.reserve.result (λ room. omega (arith, room, all, seen, size, c.reserve.ensures.len)) c.reserve.ensures.ok
