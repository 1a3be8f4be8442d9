use Rattle.std.proofs.Common.{◌≡◌, ◌++◌, drop, map}
use Rattle.atl_phase.specs.PhaseOrders.{task_of}
use Rattle.atl_market.specs.PotPhase.{event_of}
use Rattle.atl_market.proofs.pot_phase.events_of.Given as goal

-- the events so far, followed by those of the orders still to come, are the events of all orders
abbrev pub invariant-loop-order : goal.invariant-loop-order
invariant-loop-order g l =
    l.events.items ++ map (event_of (g.P.PotPhase.meaning l.phase) l.world l.campaign.value l.given) (map task_of (drop l.order-index l.orders))
    ≡ map (event_of (g.P.PotPhase.meaning l.phase) l.world l.campaign.value l.given) (map task_of l.orders)
