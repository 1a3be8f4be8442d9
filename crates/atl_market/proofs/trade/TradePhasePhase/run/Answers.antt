use Rattle.std.proofs.Common.{◌≡◌, All, map, subst, sym, true, rules}
use Rattle.atl_campaign.specs.Good.{IsEarly}
use Rattle.atl_phase.specs.Meaning.{LeavesWell, most_moved}
use Rattle.atl_phase.specs.Bounds.{HaveRoom}
use Rattle.atl_phase.specs.PhaseOrders.{orders_by_unit, task_of}
use Rattle.atl_phase.specs.declared.phase_order.Arrangement.TheVariants.{ByUnit}
use Rattle.atl_phase.proofs.OrderEffectLaws.{each_order}
use Rattle.atl_market.specs.PotPhase.{asks_count}
use Rattle.atl_market.specs.Trade.{is_trade, trade_moves}
use Rattle.atl_market.specs.Unordered.{OthersAreNoWorse}
use Rattle.atl_market.proofs.AskLaws.{trade_asks}
use Rattle.atl_market.proofs.TradeLaws.{all_trades_leave_well, can_share_out, trade_keeps_others}
use Rattle.atl_market.proofs.trade.TradePhasePhase.run.Goals as goal

pub share_out-requires-clause-asks : goal.share_out-requires-clause-asks
share_out-requires-clause-asks g c =
    let trade = c.trade_of-trade.result in
    let m = c.args.month in
    let orders : map task_of c.deref.result.now ≡ orders_by_unit (is_trade trade) m = rw c.trade_of-trade.ensures (search rules) in
    subst (All (λ t. asks_count t.order_value.operands ≡ true)) (sym orders)
    (each_order c.args.world.now m.aliases m.readings c.requires.read (is_trade trade) ByUnit (λ t. asks_count t.order_value.operands ≡ true) (λ t of_phase fit. trade_asks trade t.order_value.verb t.order_value.operands of_phase fit.shape))

pub share_out-requires-clause-can : goal.share_out-requires-clause-can
share_out-requires-clause-can g c =
    let room : HaveRoom (trade_moves c.trade_of-trade.result most_moved) c.args.campaign.value = rw c.trade_of-trade.ensures c.requires.room in
    can_share_out c.trade_of-trade.result c.args.world.now c.world_is_well_formed.ensures c.args.campaign.value c.requires.needs (map task_of c.deref.result.now) room

pub returns-clause-leaves : goal.returns-clause-leaves
returns-clause-leaves g c =
    let trade = c.trade_of-trade.result in
    let room : HaveRoom (trade_moves trade most_moved) c.args.campaign.value = rw c.trade_of-trade.ensures c.requires.room in
    subst (λ t. LeavesWell IsEarly (trade_moves t most_moved) c.args.world.now c.args.campaign.value c.share_out.new.campaign.value) c.trade_of-trade.ensures
    (subst (λ d. LeavesWell IsEarly (trade_moves trade most_moved) c.args.world.now c.args.campaign.value d) (sym c.in_ok-events.ensures.what)
    (all_trades_leave_well trade c.args.world.now c.world_is_well_formed.ensures c.args.campaign.value c.requires.needs (map task_of c.deref.result.now) room))

pub returns-clause-keeps : goal.returns-clause-keeps
returns-clause-keeps g c =
    let trade = c.trade_of-trade.result in
    let orders : map task_of c.deref.result.now ≡ orders_by_unit (is_trade trade) c.args.month = rw c.trade_of-trade.ensures (search rules) in
    let kept = trade_keeps_others trade c.args.world.now c.args.campaign.value (map task_of c.deref.result.now) in
    subst (λ t. OthersAreNoWorse (orders_by_unit (is_trade t) c.args.month) c.args.campaign.value c.share_out.new.campaign.value) c.trade_of-trade.ensures
    (subst (λ os. OthersAreNoWorse os c.args.campaign.value c.share_out.new.campaign.value) orders (subst (λ d. OthersAreNoWorse (map task_of c.deref.result.now) c.args.campaign.value d) (sym c.in_ok-events.ensures.what) kept))
