use Rattle.std.proofs.Common.{ap, ◌∙◌, map}
use Rattle.atl_world.specs.declared.verb.Verb.TheVariants as verbs
use Rattle.atl_phase.specs.PhaseOrders.{task_of}
use Rattle.atl_phase.specs.declared.phase_order.Arrangement.TheVariants.{ByFaction}
use Rattle.atl_phase.proofs.EventLaws.{Fits}
use Rattle.atl_phase.proofs.OrderEffectLaws.{listed_order}
use Rattle.atl_instant.specs.Form.{is_forming}
use Rattle.atl_instant.proofs.TakenLaws.{form_shape}
use Rattle.atl_instant.proofs.form.formings.Goals as goal

pub forming_of-requires : goal.forming_of-requires
forming_of-requires c =
    let m = c.args.month.now in
    listed_order c.requires.0 m.aliases m.readings c.requires.1 is_forming ByFaction (λ t. Fits verbs.Form t.order_value.operands) (λ t of_phase fit. form_shape t.order_value.verb t.order_value.operands of_phase fit.shape)
    c.deref-order-items.result.now (ap (map task_of) c.deref-order-items.ensures.value ∙ c.in_ok-orders.ensures) c.loop-order.order-index c.order-item.result c.order-item.is c.loop-order-test.true
