use Rattle.std.proofs.Common.{◌≡◌, drop}
use Rattle.atl_campaign.specs.Assembling.{with_rows_added, with_market_row}
use Rattle.atl_campaign.specs.FromRows.{as_u32}
use Rattle.atl_campaign.proofs.assembly.goods.put_stocks.Given as goal

abbrev pub invariant-loop-row : goal.invariant-loop-row
invariant-loop-row l =
    with_rows_added (λ r. as_u32 r.region) with_market_row (drop l.row-index l.rows) l.regions ≡ with_rows_added
    (λ r. as_u32 r.region) with_market_row l.rows l.fn.regions
