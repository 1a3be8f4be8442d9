use Rattle.std.proofs.Common.{◌≡◌, ◌++◌}
use Rattle.std.specs.FinMap.{entries}
use Rattle.atl_campaign.specs.Rows.{has_rows}
use Rattle.atl_campaign.proofs.rows.has_rows.Given as goal

abbrev pub invariant-loop-number : goal.invariant-loop-number
invariant-loop-number l = l.rows ++ has_rows l.number-iterator ≡ has_rows (entries l.campaign.value.units)
