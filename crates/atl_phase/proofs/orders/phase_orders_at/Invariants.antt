use Rattle.std.proofs.Common.{◌≡◌, map, take}
use Rattle.atl_phase.specs.OrderIndices.{tasks_picked}
use Rattle.atl_phase.specs.PhaseOrders.{task_of}
use Rattle.atl_phase.proofs.orders.phase_orders_at.Given as goal

-- before each index: the list has those orders with a verb of the phase that the indices so far name
abbrev pub invariant-loop-placed : goal.invariant-loop-placed
invariant-loop-placed g l =
    map task_of l.list.items ≡ tasks_picked g.P.PhaseVerbs.is_of l.mailings (take l.placed-index l.places)
