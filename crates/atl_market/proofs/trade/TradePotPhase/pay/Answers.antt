use Rattle.std.proofs.Common.{◌≡◌, Some, sym, ap, ◌∙◌, rules}
use Rattle.std.specs.FinMap.{get}
use Rattle.atl_campaign.specs.Stocks.{stock_of}
use Rattle.atl_market.specs.Trade.{market_for}
use Rattle.atl_market.proofs.TradeLaws.{can_book_result}
use Rattle.atl_market.proofs.trade.TradePotPhase.pay.Goals as goal

pub book_trade-requires : goal.book_trade-requires
book_trade-requires c =
    let before = c.args.campaign.now.value in
    let u = c.in-Some.unit.now in
    let m = c.in-Some-market_for.market.now in
    let there : get before.units c.args.number ≡ Some u = sym c.in-Some.ensures in
    let at : market_for c.args.world.now u (get c.args.items.now c.args.number) ≡ Some m = search rules in
    let stock : c.stock-stock.result ≡ stock_of before u.region m.item = c.stock-stock.ensures ∙ ap (stock_of before u.region) c.from-item.ensures in
    can_book_result c.args.self.now c.args.items.now c.args.world.now before c.args.number c.args.share c.requires.can u m c.stock-stock.result c.entry.result c.trade_result_of-deal.result there at stock c.entry.ensures c.trade_result_of-deal.ensures
