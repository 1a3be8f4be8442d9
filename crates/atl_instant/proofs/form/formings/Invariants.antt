use Rattle.std.proofs.Common.{◌≡◌, ◌++◌, map, drop}
use Rattle.atl_phase.specs.PhaseOrders.{task_of}
use Rattle.atl_instant.specs.Forming.{forming_of}
use Rattle.atl_instant.proofs.form.formings.Given as goal

-- the copies made so far, followed by those of the orders still to come, are the copies of all orders of FORM
abbrev pub invariant-loop-order : goal.invariant-loop-order
invariant-loop-order l =
    l.list.items ++ map forming_of (map task_of (drop l.order-index l.order-items)) ≡ map forming_of
    (map task_of l.order-items)
