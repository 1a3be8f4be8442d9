use Rattle.std.proofs.Common.{ap, arith}
use Rattle.std.proofs.lemmas.Result.{on_ok_weaker}
use Rattle.std.specs.FinSet as set
use Rattle.atl_world.specs.RoomySets.{RoomySet}
use Rattle.atl_world.proofs.ApartLaws.{len-apart}
use Rattle.atl_world.proofs.marks.Marks.make_room.Goals as goal

pub returns-clause-room : goal.returns-clause-room
returns-clause-room c =
    let all = len-apart c.self.inside.numbers.numbers c.self.inside.recent.numbers c.self.invariant.apart in
    let seen = ap (λ (m : RoomySet). set.len m.numbers) c.self.view_is in
    let sum = c.in-Some.ensures in
    on_ok_weaker c.make_room-2.result (λ room. omega (arith, room, all, seen, sum, c.len-recent.ensures.value)) c.make_room-2.ensures.room
