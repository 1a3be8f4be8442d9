use Rattle.std.proofs.Common.{ap}
use Rattle.atl_descriptions.specs.Tables.{market_table}
use Rattle.atl_writing.specs.GroupedRows.{region_stock_lines, all_stocks_lines}
use Rattle.atl_sql.proofs.PuttingLaws.{putting_begins, putting_more, putting_failed, putting_ends}
use Rattle.atl_writing.proofs.markets.put_all_stocks.Goals as goal

pub loop-number-init : goal.loop-number-init
loop-number-init g c =
    putting_begins g.S.Store market_table 2 _ _
    (ap all_stocks_lines c.into_iter-number-iterator.ensures.into_iter_gives)

pub loop-number-preserved : goal.loop-number-preserved
loop-number-preserved g c =
    let stocks = region_stock_lines c.in-Some.number c.in-Some.region.now in
    putting_more g.S.Store market_table 2 stocks (all_stocks_lines c.next.new.self) _ _ (ap all_stocks_lines c.in-Some.ensures.steps) c.loop-number.invariant c.in_ok-put_stocks.ensures

pub returns-in_err-put_stocks : goal.returns-in_err-put_stocks
returns-in_err-put_stocks g c =
    let stocks = region_stock_lines c.in-Some.number c.in-Some.region.now in
    putting_failed g.S.Store market_table 2 stocks (all_stocks_lines c.next.new.self) _ _ (ap all_stocks_lines c.in-Some.ensures.steps) c.loop-number.invariant c.in_err-put_stocks.ensures c.from_residual.ensures

pub returns : goal.returns
returns g c =
    putting_ends g.S.Store market_table 2 _ _ (ap all_stocks_lines c.in-None.ensures.steps.0) c.loop-number.invariant
