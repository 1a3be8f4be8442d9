use Rattle.std.proofs.Common.{get_or, true, false, rules}
use Rattle.std.proofs.lemmas.List.{get_or_default}
use Rattle.atl_phase.specs.declared.order_indices.OrderIndex.{OrderIndex}
use Rattle.atl_phase.proofs.PickedLaws.{picked_more}
use Rattle.atl_phase.proofs.orders.phase_orders_at.Goals as goal
use Rattle.atl_phase.proofs.orders.phase_orders_at.Goals.{then-has+in_ok-push, else-has}

pub loop-placed-preserved : goal.loop-placed-preserved
loop-placed-preserved g c =
    let is_of = g.P.PhaseVerbs.is_of in
    let ps = c.args.places.now in
    let i = c.loop-placed.placed-index in
    let none : OrderIndex = record { unit = 0; line = 0; faction = 0; mailing = 0; index = 0 } in
    let p = get_or ps i none in
    let h = c.loop-placed-test.true in
    let more = picked_more is_of c.args.mailings.now ps i p c.order_at-order.result c.loop-placed.list.items c.if-has.list.items in
    elim c.if-has.branch [
      | then-has+in_ok-push w ↦ more true h (get_or_default ps i none p h) c.order_at-order.ensures c.loop-placed.invariant (search rules) (search rules)
      | else-has w ↦ more false h (get_or_default ps i none p h) c.order_at-order.ensures c.loop-placed.invariant (search rules) (search rules)
    ]
