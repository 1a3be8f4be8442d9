use Rattle.std.proofs.Common.{refl, rules}
use Rattle.atl_descriptions.specs.Tables.{Markets, market_table}
use Rattle.atl_sql.specs.Shown.{market_key}
use Rattle.atl_writing.specs.OwnStatements.{changes_row, puts_row, drops_row}
use Rattle.atl_writing.proofs.MarketLaws.{stock_has_row, no_stock, stock_put, stock_dropped}
use Rattle.atl_sql.proofs.WriteLaws.{weaker, among_only}
use Rattle.atl_sql.proofs.WrittenLaws.{taken_as}
use Rattle.atl_writing.proofs.markets.SingleStocksSingleAmounts.rewrite_single.Goals as goal

pub returns : goal.returns
returns g c =
    let campaign = c.args.campaign.now.value in
    let stock = c.stock-stock in
    weaker g.S.Store (stock_put c.args.owner c.args.number campaign stock.result stock.ensures c.if-stock-eq0.false)
    (among_only g.S.Store _ _ (changes_row (puts_row Markets (λ own. stock_has_row campaign.regions c.args.owner c.args.number stock.result stock.ensures c.if-stock-eq0.false))) c.put_stock.ensures)

pub returns-then-stock-eq0 : goal.returns-then-stock-eq0
returns-then-stock-eq0 g c =
    let stock = c.stock-stock in
    weaker g.S.Store (stock_dropped c.args.owner c.args.number c.args.campaign.now.value stock.result stock.ensures c.if-stock-eq0.true)
    (among_only g.S.Store _ _ (drops_row Markets (refl, λ own. no_stock c.args.owner c.args.number c.args.campaign.now.value stock.result stock.ensures c.if-stock-eq0.true)) (taken_as g.S.Store market_table 2 _ (market_key c.args.owner c.args.number) (search rules) c.take_out.ensures))
