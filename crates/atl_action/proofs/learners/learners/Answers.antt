use Rattle.std.proofs.Common.{ap, ◌∙◌, map, arith}
use Rattle.std.specs.Prelude.{fold}
use Rattle.std.specs.FinMap.{empty}
use Rattle.atl_phase.specs.PhaseOrders.{task_of}
use Rattle.atl_phase.proofs.FoldLaws.{fold_ended, fold_mapped}
use Rattle.atl_teaching.specs.Learners.{is_studying, learners, with_learner}
use Rattle.atl_world.specs.declared.verb.Verb.TheVariants as verbs
use Rattle.atl_phase.specs.declared.phase_order.Arrangement.TheVariants.{ByUnit}
use Rattle.atl_phase.proofs.EventLaws.{Fits}
use Rattle.atl_phase.proofs.OrderEffectLaws.{listed_order}
use Rattle.atl_action.proofs.TakenLaws.{study_shape}
use Rattle.atl_action.proofs.learners.learners.Goals as goal

pub add_learner-requires : goal.add_learner-requires
add_learner-requires c =
    let m = c.args.month.now in
    listed_order c.args.world.now m.aliases m.readings c.requires is_studying ByUnit (λ t. Fits verbs.Study t.order_value.operands) (λ t of_phase fit. study_shape t.order_value.verb t.order_value.operands of_phase fit.shape)
    c.deref-order-items.result.now (ap (map task_of) c.deref-order-items.ensures.value ∙ c.in_ok-orders.ensures) c.loop-order.order-index c.order-item.result c.order-item.is c.loop-order-test.true

pub returns : goal.returns
unfolding learners
returns c =
    let f = with_learner c.args.world.now c.args.campaign.now.value in
    let xs = c.deref-order-items.result.now in
    fold_ended (λ m o. f m (task_of o)) xs c.loop-order.order-index c.loop-order.learning (omega (arith, c.loop-order-test.false)) c.loop-order.invariant
    ∙ fold_mapped f task_of empty xs
    ∙ ap (fold f empty) (ap (map task_of) c.deref-order-items.ensures.value ∙ c.in_ok-orders.ensures)
