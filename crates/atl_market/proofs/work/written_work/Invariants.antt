use Rattle.std.proofs.Common.{◌≡◌, ◌++◌, drop, filter, map}
use Rattle.atl_phase.specs.PhaseOrders.{task_of}
use Rattle.atl_market.specs.Work.{is_work}
use Rattle.atl_market.proofs.work.written_work.Given as goal

-- the list so far, followed by the orders of WORK still to come, has all orders of WORK
abbrev pub invariant-loop-order : goal.invariant-loop-order
invariant-loop-order l =
    map task_of l.list.items ++ filter (λ t. is_work t.order_value.verb) (map task_of (drop l.order-index l.orders))
    ≡ filter (λ t. is_work t.order_value.verb) (map task_of l.orders)
