use Rattle.std.proofs.Common.{◌≡◌, ◌++◌, map}
use Rattle.std.specs.List.{flat_map}
use Rattle.atl_phase.specs.PhaseOrders.{task_of}
use Rattle.atl_market.specs.Idle.{all_idle_orders, idle_order, own_writers}
use Rattle.atl_market.proofs.work.add_idle_orders.Given as goal

-- the list so far, followed by the orders for the idle units still to come, is the list before the loop, followed by
-- the orders for all idle units
abbrev pub invariant-loop-number : goal.invariant-loop-number
invariant-loop-number l =
    map task_of l.list.items ++ flat_map (idle_order (own_writers l.campaign.value (map task_of l.orders))) l.number-iterator
    ≡ map task_of l.fn.list.items ++ all_idle_orders l.campaign.value (map task_of l.orders)
