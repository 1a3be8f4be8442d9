use Rattle.std.proofs.Common.{◌≡◌, ℕ, get_or}
use Rattle.atl_campaign.proofs.CoverLaws.{marks-trans}
use Rattle.atl_phase.proofs.FoldLaws.{fold_after_step}
use Rattle.atl_phase.proofs.OrderEffectLaws.{room_left}
use Rattle.atl_instant.specs.Quit.{after_leaving}
use Rattle.atl_instant.proofs.QuitLaws.{left_well}
use Rattle.atl_instant.proofs.quit.leave_all.Goals as goal

pub loop-number-preserved : goal.loop-number-preserved
loop-number-preserved c =
    let w = c.args.world.now in
    let n : ℕ = get_or c.args.numbers.now c.loop-number.number-index 0 in
    let before = c.loop-number.campaign.value in
    let old = c.loop-number.invariant in
    let is : c.leave.new.campaign.value ≡ after_leaving before n = c.in_ok-leave.ensures.what in
    let well = left_well w before n old.steady in
    record {
      rest = fold_after_step after_leaving c.args.numbers.now c.loop-number.number-index 0 before c.loop-number-test.true is old.rest;
      steady = rw is well.holds_still;
      room = rw is (room_left w before (after_leaving before n) well old.room);
      marks = marks-trans c.args.campaign.now c.loop-number.campaign c.leave.new.campaign old.marks c.in_ok-leave.ensures.marks;
    }
