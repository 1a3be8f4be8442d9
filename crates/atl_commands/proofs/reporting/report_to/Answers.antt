use Rattle.std.proofs.Common.{◌∙◌, [], unwrap_or}
use Rattle.std.specs.FinMap.{get}
use Rattle.atl_commands.proofs.CloseLaws.{stored_marked}
use Rattle.atl_commands.proofs.SortLaws.{stored_own}
use Rattle.atl_commands.proofs.reporting.report_to.Goals as goal

pub returns-clause-what : goal.returns-clause-what
returns-clause-what c =
    stored_own c.args.world.now c.args.campaign.now.value c.store_report_with.new.campaign.value c.args.faction (unwrap_or (get c.args.outcome.now.faults c.args.faction) []) c.list_of-faults.result.now c.args.outcome.now.events.items c.list_of-events.result.now
    c.store_report_with.result c.list_of-faults.ensures (c.list_of-events.ensures ∙ c.requires.sorted c.args.faction) c.store_report_with.ensures.ok

pub returns-clause-marks : goal.returns-clause-marks
returns-clause-marks c =
    stored_marked c.args.world.now c.args.campaign.now c.store_report_with.new.campaign c.args.faction c.list_of-faults.result.now c.list_of-events.result.now c.store_report_with.result c.store_report_with.ensures.ok c.store_report_with.ensures.marks
