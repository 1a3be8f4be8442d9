use Rattle.std.proofs.Common.{◌≡◌, ◌+◌, ℕ, drop, get_or}
use Rattle.atl_campaign.proofs.CoverLaws.{marks-trans}
use Rattle.atl_phase.proofs.FoldLaws.{fold_after_step}
use Rattle.atl_instant.proofs.QuitLaws.{known_ahead, room_for_item, room_for_item_and_later}
use Rattle.atl_upkeep.specs.Sweep.{after_passing_item}
use Rattle.atl_upkeep.proofs.SweepLaws.{item_passes, rest_room}
use Rattle.atl_upkeep.proofs.sweep.pass_items.Goals as goal

pub pass_item-requires-clause-room : goal.pass_item-requires-clause-room
pass_item-requires-clause-room c =
    room_for_item c.args.items.now c.loop-item.item-index c.loop-item.campaign.value c.loop-item-test.true
    c.loop-item.invariant.room

pub loop-item-preserved : goal.loop-item-preserved
loop-item-preserved c =
    let w = c.args.world.now in
    let list = c.args.items.now in
    let to = c.args.to in
    let i = c.loop-item.item-index in
    let x : ℕ × ℕ = get_or list i (0, 0) in
    let before = c.loop-item.campaign.value in
    let old = c.loop-item.invariant in
    let known = known_ahead w list i c.loop-item-test.true old.known in
    let is : c.pass_item.new.campaign.value ≡ after_passing_item to before x = c.in_ok-pass_item.ensures.what in
    record {
      rest = fold_after_step (after_passing_item to) list i (0, 0) before c.loop-item-test.true is old.rest;
      steady = rw is (item_passes w before old.steady to x.0 x.1 known.0).steady;
      known = known.1;
      room =
          rw is (rest_room w before old.steady to x (drop (i + 1) list) known.0
          (room_for_item_and_later list i before c.loop-item-test.true old.room));
      marks = marks-trans c.args.campaign.now c.loop-item.campaign c.pass_item.new.campaign old.marks c.in_ok-pass_item.ensures.marks;
    }
