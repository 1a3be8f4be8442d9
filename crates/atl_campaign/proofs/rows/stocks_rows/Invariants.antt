use Rattle.std.proofs.Common.{◌≡◌, ◌++◌}
use Rattle.std.specs.FinMap.{entries}
use Rattle.atl_world.specs.declared.format.Format.TheVariants.{Second}
use Rattle.atl_campaign.specs.Rows.{market_rows}
use Rattle.atl_campaign.proofs.rows.stocks_rows.Given as goal

abbrev pub invariant-loop-number : goal.invariant-loop-number
invariant-loop-number l =
    l.rows ++ market_rows Second l.number-iterator ≡ market_rows Second (entries l.campaign.value.regions)
