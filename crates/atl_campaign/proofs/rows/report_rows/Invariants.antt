use Rattle.std.proofs.Common.{◌≡◌, ◌++◌}
use Rattle.std.specs.FinMap.{entries}
use Rattle.atl_campaign.specs.Rows.{rows_by, report_row}
use Rattle.atl_campaign.proofs.rows.report_rows.Given as goal

abbrev pub invariant-loop-number : goal.invariant-loop-number
invariant-loop-number l =
    l.rows ++ rows_by report_row l.number-iterator ≡ rows_by report_row (entries l.campaign.value.reports)
