use Rattle.atl_descriptions.specs.Tables.{market_table}
use Rattle.atl_writing.specs.Rows.{MarketRowsOf}
use Rattle.atl_writing.specs.Marked.{begins_marked, has_thing, region_and_item_pass}
use Rattle.atl_writing.proofs.MarketLaws.{finds_stocks, stocks_grouped}
use Rattle.atl_writing.proofs.RewriteLaws.{both_rewritten}
use Rattle.atl_writing.proofs.WholeLaws.{then_done}
use Rattle.atl_sql.proofs.WriteLaws.{stops}
use Rattle.atl_writing.proofs.markets.rewrite_stocks.Goals as goal

pub rewrite_marked_groups-requires : goal.rewrite_marked_groups-requires
rewrite_marked_groups-requires g c = stocks_grouped c.args.campaign.now.value.regions

pub rewrite_singles-requires : goal.rewrite_singles-requires
rewrite_singles-requires g c = finds_stocks

pub returns : goal.returns
returns g c =
    let marks = c.args.campaign.now.marks in
    then_done g.S.Store (both_rewritten market_table (MarketRowsOf c.args.campaign.now.value.regions) (begins_marked marks.stocks) (region_and_item_pass (has_thing marks.stock_items))) c.in_ok-rewrite_marked_groups.ensures c.rewrite_singles.ensures

pub returns-in_err-rewrite_marked_groups : goal.returns-in_err-rewrite_marked_groups
returns-in_err-rewrite_marked_groups g c =
    stops g.S.Store c.in_err-rewrite_marked_groups.ensures c.from_residual.ensures
