use Rattle.std.proofs.Common.{◌≡◌, None, sym}
use Rattle.atl_market.specs.Build.{begin_fault, size_added}
use Rattle.atl_market.proofs.BuildLaws.{begin_done, can_begin, can_use, next_within, size_held}
use Rattle.atl_market.proofs.build.begin.Goals as goal

pub start_structure-requires-clause-uses : goal.start_structure-requires-clause-uses
start_structure-requires-clause-uses c =
    let w = c.args.world.now in
    let u = c.in-Some.unit.now in
    let k = c.args.kind.now in
    rw c.size_added-size.ensures
    (can_use w c.args.campaign.now.value c.args.order.unit k.material (size_added k u.holding 0) u c.in-Some.ensures.there (size_held k u.holding 0) (c.requires.can.kinds c.args.number k c.requires.kind).material c.requires.can c.requires.room)

pub begin_fault-requires : goal.begin_fault-requires
begin_fault-requires c = c.requires.can.steady.next.structures

pub start_structure-requires-clause-room : goal.start_structure-requires-clause-room
start_structure-requires-clause-room c =
    let none : begin_fault c.args.world.now c.args.campaign.now.value c.in-Some.unit.now c.args.kind.now ≡ None = sym c.in_default-begin_fault.ensures in
    next_within c.args.campaign.now.value c.requires.can.steady.next.structures (can_begin c.args.world.now c.args.campaign.now.value c.in-Some.unit.now c.args.kind.now none).room

pub returns-clause-what : goal.returns-clause-what
returns-clause-what c =
    let w = c.args.world.now in
    let old = c.args.campaign.now.value in
    let u = c.in-Some.unit.now in
    let k = c.args.kind.now in
    let none : begin_fault w old u k ≡ None = sym c.in_default-begin_fault.ensures in
    begin_done w old c.start_structure.new.campaign.value c.args.order.faction c.args.order.unit c.args.number u k c.size_added-size.result c.from.result (sym c.in-Some.ensures.own) none c.in_ok-start_structure.ensures.what c.from.ensures c.size_added-size.ensures
