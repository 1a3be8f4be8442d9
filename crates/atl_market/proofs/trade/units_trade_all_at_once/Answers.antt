use Rattle.atl_market.proofs.AfterTradeLaws as laws
use Rattle.atl_market.proofs.trade.units_trade_all_at_once.Goals as goal

pub returns : goal.returns
returns c = laws.trades_at_once
