use Rattle.std.proofs.Common.{◌≡◌, [], drop}
use Rattle.std.specs.Prelude.{fold}
use Rattle.atl_records.specs.Holdings.{amount_of}
use Rattle.atl_phase.specs.Month.{with_events}
use Rattle.atl_phase.specs.PhaseOrders.{task_of}
use Rattle.atl_teaching.specs.Teach.{teach_order}
use Rattle.atl_teaching.proofs.teach.teach_all.Given as goal

-- carrying out the orders still to come makes the men taught and the month that carrying out all orders makes
abbrev pub invariant-loop-order : goal.invariant-loop-order
invariant-loop-order l =
    fold (λ p o. teach_order l.campaign.value l.learning p (task_of o)) (amount_of l.taught, with_events l.fn.month l.events.items) (drop l.order-index l.order-items)
    ≡ fold (λ p o. teach_order l.campaign.value l.learning p (task_of o)) ((λ n. 0), with_events l.fn.month []) l.order-items
