use Rattle.atl_report.proofs.EventLaws as laws
use Rattle.atl_report.proofs.report.only_what_is_seen_is_reported.Goals as goal

pub returns : goal.returns
returns c = laws.only_what_is_seen_is_reported
