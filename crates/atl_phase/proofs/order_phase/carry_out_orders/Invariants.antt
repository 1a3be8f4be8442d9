use Rattle.std.proofs.Common.{◌≡◌, [], drop}
use Rattle.std.specs.Prelude.{fold}
use Rattle.atl_campaign.specs.Covers.{MarksChanges}
use Rattle.atl_phase.specs.Month.{with_events}
use Rattle.atl_phase.specs.PhaseOrders.{task_of}
use Rattle.atl_phase.specs.OrderEffects.{one_order}
use Rattle.atl_phase.specs.Bounds.{StepsWell}
use Rattle.atl_phase.proofs.order_phase.carry_out_orders.Given as goal

-- Before each order: the orders still to come make of campaign and month what all orders make from the start. The steps
-- so far kept condition, month and balance, moved each amount by at most what its remaining bound fell (`StepsWell`),
-- and marked what they changed.
abbrev pub invariant-loop-order : goal.invariant-loop-order
invariant-loop-order g l = record {
  orders : fold (λ p o. one_order (g.P.OrderPhase.step l.phase) l.world p (task_of o)) (l.campaign.value, with_events l.fn.month l.events.items) (drop l.order-index l.order-items)
      ≡ fold (λ p o. one_order (g.P.OrderPhase.step l.phase) l.world p (task_of o)) (l.fn.campaign.value, with_events l.fn.month []) l.order-items;
  well : StepsWell g.P.OrderPhase.holds g.P.OrderPhase.remaining l.world l.fn.campaign.value l.campaign.value;
  marks : MarksChanges l.fn.campaign l.campaign;
}
