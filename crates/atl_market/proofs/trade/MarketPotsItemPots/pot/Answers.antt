use Rattle.std.proofs.Common.{arith}
use Rattle.atl_market.proofs.TradeLaws.{stock_most}
use Rattle.atl_market.proofs.trade.MarketPotsItemPots.pot.Goals as goal

pub returns-in-Buy-clause-bound : goal.returns-in-Buy-clause-bound
returns-in-Buy-clause-bound c =
    let pots = c.args.self.now in
    let most = stock_most pots.world.now pots.campaign.now.value c.args.region c.args.item c.world_is_well_formed.ensures c.requires in
    omega (arith, most, c.from-in-Buy.ensures, c.stock-stock.ensures)
