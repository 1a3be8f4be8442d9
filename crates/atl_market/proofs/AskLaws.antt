-- Laws of what orders ask for: those of RECRUIT, SELL and BUY ask for a count. `v` is the verb of an order, and `o` are
-- its operands.
use Rattle.std.proofs.Common.{◌≡◌, true, refl}
use Rattle.atl_lines.specs.declared.order.Operands.TheVariants as operands
use Rattle.atl_world.specs.declared.verb.Verb.{Verb}
use Rattle.atl_world.specs.declared.verb.Verb.TheVariants as verbs
use Rattle.atl_lines.specs.Orders.{OperandsValue}
use Rattle.atl_phase.proofs.EventLaws.{Fits}
use Rattle.atl_market.specs.PotPhase.{asks_count}
use Rattle.atl_market.specs.Recruit.{is_recruit}
use Rattle.atl_market.specs.Trade.{is_trade}
use Rattle.atl_market.specs.declared.trade.Trade.{Trade}
use Rattle.atl_market.specs.declared.trade.Trade.TheVariants.{Buy, Sell}

-- an order of RECRUIT whose operands have the shape of its verb (`Fits`) asks for a count
pub recruit_asks : (v : Verb) (o : OperandsValue) → is_recruit v ≡ true → Fits v o → asks_count o ≡ true
recruit_asks verbs.Recruit (operands.Number n) of_phase fits = refl
recruit_asks verbs.Recruit o of_phase fits = cc
recruit_asks v o of_phase fits = cc

-- an order of SELL or BUY whose operands have the shape of its verb (`Fits`) asks for a count
pub trade_asks : (trade : Trade) (v : Verb) (o : OperandsValue) → is_trade trade v ≡ true → Fits v o
    → asks_count o ≡ true
trade_asks Sell verbs.Sell (operands.Goods n i) of_phase fits = refl
trade_asks Sell verbs.Sell o of_phase fits = cc
trade_asks Sell v o of_phase fits = cc
trade_asks Buy verbs.Buy (operands.Goods n i) of_phase fits = refl
trade_asks Buy verbs.Buy o of_phase fits = cc
trade_asks Buy v o of_phase fits = cc
