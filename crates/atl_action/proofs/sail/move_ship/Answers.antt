use Rattle.std.proofs.Common.{ap, ◌∙◌, arith}
use Rattle.std.specs.Prelude.{fold}
use Rattle.atl_campaign.specs.Campaign.{with_structure_region}
use Rattle.atl_campaign.proofs.CoverLaws.{marks-trans}
use Rattle.atl_campaign.proofs.LeavingLaws.{marks-structure}
use Rattle.atl_phase.proofs.FoldLaws.{fold_after_step, fold_ended}
use Rattle.atl_phase.proofs.MarkLaws.{marks_by}
use Rattle.atl_action.specs.Sail.{after_sailing}
use Rattle.atl_action.specs.Walk.{with_unit_moved}
use Rattle.atl_action.proofs.sail.move_ship.Goals as goal

pub loop-unit-preserved : goal.loop-unit-preserved
loop-unit-preserved c =
    let so_far = c.loop-unit in
    record {
      rest = fold_after_step (with_unit_moved c.args.ship c.args.to) c.deref-unit-items.result.now so_far.unit-index 0 so_far.campaign.value c.loop-unit-test.true c.in_ok-put_unit.ensures.what so_far.invariant.rest;
      marks = marks-trans c.args.campaign.now so_far.campaign _ so_far.invariant.marks c.in_ok-put_unit.ensures.marks;
    }

pub returns-clause-what : goal.returns-clause-what
unfolding after_sailing
returns-clause-what c =
    let move = with_unit_moved c.args.ship c.args.to in
    let all = fold_ended move c.deref-unit-items.result.now c.loop-unit.unit-index c.loop-unit.campaign.value (omega (arith, c.loop-unit-test.false)) c.loop-unit.invariant.rest in
    c.set_structure_region.ensures.what
    ∙ ap (λ d. with_structure_region d c.args.ship c.args.to) (all ∙ ap (fold move c.args.campaign.now.value) (c.deref-unit-items.ensures.value ∙ c.in_ok-inside.ensures.items_if_clones_equal (λ x y same. same) ∙ c.inside.ensures))

pub returns-clause-marks : goal.returns-clause-marks
returns-clause-marks c =
    let gone = c.loop-unit.campaign in
    let set = c.set_structure_region in
    marks-trans c.args.campaign.now gone set.new.self c.loop-unit.invariant.marks
    (marks_by gone set.new.self _ set.ensures.what set.ensures.marks (marks-structure (λ s. record s { region = c.args.to }) gone c.args.ship))
