use Rattle.atl_report.proofs.EventLaws as laws
use Rattle.atl_report.proofs.report.others_events_are_not_reported.Goals as goal

pub returns : goal.returns
returns c = laws.others_events_are_not_reported
