use Rattle.std.proofs.Common.{unwrap_or, []}
use Rattle.std.specs.FinMap.{get}
use Rattle.atl_campaign.proofs.CoverLaws.{marks-trans}
use Rattle.atl_phase.proofs.FoldLaws.{fold_after_step}
use Rattle.atl_commands.specs.Closing.{reported_to}
use Rattle.atl_commands.proofs.CloseLaws.{lists_stay}
use Rattle.atl_commands.proofs.reporting.report_to_each.Goals as goal

pub loop-faction-preserved : goal.loop-faction-preserved
loop-faction-preserved c =
    let (whole, marks, lists) = c.loop-faction.invariant in
    let outcome = c.args.outcome.now in (
      fold_after_step (reported_to c.args.world.now (λ n. unwrap_or (get outcome.faults n) []) outcome.events.items) c.deref-faction-items.result.now c.loop-faction.faction-index 0 c.loop-faction.campaign.value
          c.loop-faction-test.true c.in_ok-report_to.ensures.what whole,
      marks-trans c.args.campaign.now c.loop-faction.campaign c.report_to.new.campaign marks c.in_ok-report_to.ensures.marks,
      lists_stay c.args.world.now (λ n. unwrap_or (get outcome.faults n) []) outcome.events.items c.loop-faction.campaign.value c.report_to.new.campaign.value _ c.in_ok-report_to.ensures.what _ lists,
    )
