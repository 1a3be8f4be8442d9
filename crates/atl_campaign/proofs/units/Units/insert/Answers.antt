use Rattle.atl_campaign.proofs.UnitLaws.{fits-new, AreUnits-added}
use Rattle.atl_campaign.proofs.units.Units.insert.Goals as goal

pub add-requires : goal.add-requires
add-requires c =
    fits-new c.self.inside.units c.self.inside.marks c.make_room.new.self c.args.number c.args.unit
    record { same = c.make_room.ensures.numbers; room = rw (← c.len-room.ensures.value) c.in_ok-make_room.ensures.room }

pub add-requires-2 : goal.add-requires-2
add-requires-2 c =
    fits-new c.self.inside.units c.self.inside.rows c.make_room-2.new.self c.args.number c.args.unit
    record { same = c.make_room-2.ensures.numbers; room = rw (← c.len-room.ensures.value) c.in_ok-make_room-2.ensures.room }

pub add-requires-3 : goal.add-requires-3
add-requires-3 c =
    fits-new c.self.inside.units c.self.inside.goods c.make_room-3.new.self c.args.number c.args.unit
    record { same = c.make_room-3.ensures.numbers; room = rw (← c.len-room.ensures.value) c.in_ok-make_room-3.ensures.room }

pub invariant_of-self-2 : goal.invariant_of-self-2
invariant_of-self-2 c =
    rw (c.in_ok-insert.ensures.ok, c.add.ensures, c.add-2.ensures, c.add-3.ensures)
    (AreUnits-added c.self.inside.units c.self.inside.marks c.self.inside.rows c.self.inside.goods c.make_room.new.self c.make_room-2.new.self c.make_room-3.new.self c.self.inside.items c.self.inside.skills c.args.number c.args.unit
    record { same = c.make_room.ensures.numbers; room = rw (← c.len-room.ensures.value) c.in_ok-make_room.ensures.room }
    record { same = c.make_room-2.ensures.numbers; room = rw (← c.len-room.ensures.value) c.in_ok-make_room-2.ensures.room }
    record { same = c.make_room-3.ensures.numbers; room = rw (← c.len-room.ensures.value) c.in_ok-make_room-3.ensures.room }
    c.self.invariant)
