use Rattle.std.proofs.Common.{◌≡◌, drop}
use Rattle.std.specs.Prelude.{fold}
use Rattle.std.specs.FinMap.{empty}
use Rattle.atl_phase.specs.PhaseOrders.{task_of}
use Rattle.atl_teaching.specs.Learners.{with_learner}
use Rattle.atl_action.proofs.learners.learners.Given as goal

-- adding the units that learn by the orders left to the map so far gives the map of the units that learn by all orders
abbrev pub invariant-loop-order : goal.invariant-loop-order
invariant-loop-order l =
    fold (λ m o. with_learner l.world l.campaign.value m (task_of o)) l.learning (drop l.order-index l.order-items)
    ≡ fold (λ m o. with_learner l.world l.campaign.value m (task_of o)) empty l.order-items
