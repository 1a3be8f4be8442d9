use Rattle.atl_campaign.proofs.CoverLaws.{marks-trans}
use Rattle.atl_phase.proofs.FoldLaws.{fold_after_step}
use Rattle.atl_upkeep.specs.Sweep.{after_sweeping_faction}
use Rattle.atl_upkeep.proofs.sweep.sweep_factions.Goals as goal

pub loop-number-preserved : goal.loop-number-preserved
loop-number-preserved c = record {
  rest = fold_after_step after_sweeping_faction c.args.numbers.now c.loop-number.number-index 0 c.loop-number.campaign.value c.loop-number-test.true c.sweep_faction.ensures.what c.loop-number.invariant.rest;
  marks = marks-trans c.args.campaign.now c.loop-number.campaign c.sweep_faction.new.campaign c.loop-number.invariant.marks c.sweep_faction.ensures.marks;
}
