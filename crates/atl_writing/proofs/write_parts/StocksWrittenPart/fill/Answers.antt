use Rattle.atl_descriptions.specs.Tables.{Markets}
use Rattle.atl_writing.specs.Rows.{MarketRowsOf}
use Rattle.atl_writing.specs.GroupedRows.{region_stock_lines}
use Rattle.atl_writing.specs.Filling.{FillsPart}
use Rattle.atl_writing.specs.OwnStatements.{puts_row}
use Rattle.atl_writing.proofs.FillLaws.{groups_fill}
use Rattle.atl_writing.proofs.GroupRowLaws.{groups_rows}
use Rattle.atl_writing.proofs.MarketLaws.{stocks_grouped}
use Rattle.atl_writing.proofs.TurnLaws.{in_turn_one}
use Rattle.atl_writing.proofs.WholeLaws.{done_as}
use Rattle.atl_sql.proofs.WriteLaws.{among_each}
use Rattle.atl_writing.proofs.write_parts.StocksWrittenPart.fill.Goals as goal

pub returns : goal.returns
returns g c =
    let campaign = c.args.campaign.now.value in
    let regions = campaign.regions in
    done_as g.S.Store (λ old new did. in_turn_one (FillsPart campaign) Markets old new (groups_fill campaign Markets region_stock_lines 1 regions (λ own. stocks_grouped regions) _ c.regions.ensures old new did))
    (among_each g.S.Store _ _ (λ row there. puts_row Markets (λ own. groups_rows region_stock_lines 1 regions (MarketRowsOf regions) (stocks_grouped regions) _ c.regions.ensures row there)) c.put_all_stocks.ensures)
