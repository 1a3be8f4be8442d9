use Rattle.std.proofs.Common.{◌≡◌, ◌∷◌, ◌+◌, ℕ, List, length, drop, get_or, sym, subst, ◌∙◌}
use Rattle.std.proofs.lemmas.List.{drop_more}
use Rattle.atl_world.specs.Limits.{most_amount}
use Rattle.atl_campaign.proofs.CoverLaws.{marks-trans}
use Rattle.atl_phase.specs.Bounds.{HaveRoom, moved_times}
use Rattle.atl_phase.proofs.FoldLaws.{fold_after_step}
use Rattle.atl_phase.proofs.MeaningLaws.{room_after_one, room_for_one}
use Rattle.atl_upkeep.specs.Sweep.{after_sweeping_unit, loses_by}
use Rattle.atl_upkeep.proofs.ReceiverLaws.{receiver_stays}
use Rattle.atl_upkeep.proofs.SweepAllLaws.{swept_at_leaves_well}
use Rattle.atl_upkeep.proofs.sweep.sweep_units.Goals as goal

pub sweep_unit-requires-clause-room : goal.sweep_unit-requires-clause-room
sweep_unit-requires-clause-room c =
    let w = c.args.world.now in
    let list = c.args.numbers.now in
    let i = c.loop-number.number-index in
    let n : ℕ = get_or list i 0 in
    let after : drop i list ≡ n ∷ drop (i + 1) list = drop_more list i _ c.loop-number-test.true in
    room_for_one (loses_by most_amount) w after_sweeping_unit (λ d m. swept_at_leaves_well w d m) c.loop-number.campaign.value n (drop (i + 1) list)
    (subst (λ (l : List ℕ). HaveRoom (moved_times (length l) (loses_by most_amount)) c.loop-number.campaign.value) after c.loop-number.invariant.room)

pub loop-number-preserved : goal.loop-number-preserved
loop-number-preserved c =
    let w = c.args.world.now in
    let list = c.args.numbers.now in
    let i = c.loop-number.number-index in
    let n : ℕ = get_or list i 0 in
    let before = c.loop-number.campaign.value in
    let old = c.loop-number.invariant in
    let after : drop i list ≡ n ∷ drop (i + 1) list = drop_more list i _ c.loop-number-test.true in
    let is : c.sweep_unit.new.campaign.value ≡ after_sweeping_unit before n = c.in_ok-sweep_unit.ensures.what in
    record {
      rest = fold_after_step after_sweeping_unit list i 0 before c.loop-number-test.true is old.rest;
      steady = rw is (swept_at_leaves_well w before n old.steady).leaves_it;
      receivers = rw is (λ region faction. old.receivers region faction ∙ sym (receiver_stays w before n old.steady region faction));
      room =
          rw is (room_after_one (loses_by most_amount) w after_sweeping_unit (λ d m. swept_at_leaves_well w d m) before n n (drop (i + 1) list) old.steady
          (subst (λ (l : List ℕ). HaveRoom (moved_times (length l) (loses_by most_amount)) before) after old.room));
      marks = marks-trans c.args.campaign.now c.loop-number.campaign c.sweep_unit.new.campaign old.marks c.in_ok-sweep_unit.ensures.marks;
    }
