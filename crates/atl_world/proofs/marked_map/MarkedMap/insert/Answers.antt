use Rattle.std.proofs.Common.{◌≡◌, ◌+◌, ◌≤◌, None, refl, ap, ◌∙◌, arith}
use Rattle.std.specs.FinMap.{get, insert, len}
use Rattle.std.specs.FinSet as set
use Rattle.atl_world.specs.RoomySets.{valued_or_marked}
use Rattle.atl_world.proofs.SumLaws.{remove_undoes_insert}
use Rattle.atl_world.proofs.TrackLaws.{fits-inserted, Room-inserted}
use Rattle.atl_world.proofs.marked_map.MarkedMap.insert.Goals as goal

pub add-requires : goal.add-requires
add-requires g c =
    let more = insert c.self.inside.values c.args.number c.args.value in
    let marks = c.make_room.new.self in
    let size : c.len.result ≡ len more = c.len.ensures ∙ ap len c.in_ok-insert.ensures.ok in
    let same = ap set.len c.make_room.ensures.numbers in
    let room : set.len marks.numbers + len more ≤ marks.room = omega (arith, size, same, c.in-Ok.ensures.room) in
    fits-inserted c.self.inside.values marks.numbers marks.room c.args.number c.args.value room

pub invariant_of-self-in-Ok : goal.invariant_of-self-in-Ok
invariant_of-self-in-Ok g c =
    let more = insert c.self.inside.values c.args.number c.args.value in
    let marks = c.make_room.new.self in
    let size : c.len.result ≡ len more = c.len.ensures ∙ ap len c.in_ok-insert.ensures.ok in
    let same = ap set.len c.make_room.ensures.numbers in
    let room : set.len marks.numbers + len more ≤ marks.room = omega (arith, size, same, c.in-Ok.ensures.room) in
    rw (c.add.ensures, c.in_ok-insert.ensures.ok) (Room-inserted c.self.inside.values marks.numbers marks.room c.args.number c.args.value room)

pub invariant_of-self-in-Err : goal.invariant_of-self-in-Err
invariant_of-self-in-Err g c =
    let values = c.self.inside.values in
    let fresh : get values c.args.number ≡ None = rw (← c.self.view_is) at c.requires in
    let same = ap (λ m. set.len (valued_or_marked values m)) c.make_room.ensures.numbers in
    rw (c.remove.ensures, c.in_ok-insert.ensures.ok, remove_undoes_insert values c.args.number c.args.value fresh) (omega (arith, same, c.make_room.ensures.kept, c.self.invariant))

pub returns-in-Ok-clause-ok : goal.returns-in-Ok-clause-ok
returns-in-Ok-clause-ok g c =
    rw (← c.self.view_is, c.add.ensures, c.in_ok-insert.ensures.ok, c.make_room.ensures.numbers) refl

pub returns-in-Err-clause-err : goal.returns-in-Err-clause-err
returns-in-Err-clause-err g c =
    let fresh : get c.self.inside.values c.args.number ≡ None = rw (← c.self.view_is) at c.requires in
    rw (← c.self.view_is, c.remove.ensures, c.in_ok-insert.ensures.ok, remove_undoes_insert c.self.inside.values c.args.number c.args.value fresh, c.make_room.ensures.numbers) refl
