use Rattle.std.proofs.Common.{ap, ◌∙◌}
use Rattle.atl_campaign.specs.Assembling.{with_rows_added, with_market_row}
use Rattle.atl_campaign.specs.FromRows.{as_u32}
use Rattle.atl_campaign.proofs.AddedRowLaws.{regions_with_rows}
use Rattle.atl_campaign.proofs.assembly.maps.regions_of.Goals as goal

pub returns : goal.returns
returns c =
    c.in_ok-put_stocks.ensures
    ∙ ap (with_rows_added (λ r. as_u32 r.region) with_market_row c.args.markets.now) c.in_ok-regions.ensures
    ∙ regions_with_rows c.args.markets.now c.args.rows.now
