use Rattle.std.proofs.Common.{◌≡◌, ℕ, [], Option, ap, ◌∙◌, map, arith, append_assoc, rules}
use Rattle.std.proofs.Math.Path.{fun_ext}
use Rattle.std.proofs.lemmas.List.{append-nil}
use Rattle.std.specs.Prelude.{fold, unwrap_or}
use Rattle.std.specs.Ordering.{nat_cmp}
use Rattle.std.specs.FinMap.{empty, get-empty}
use Rattle.atl_records.specs.Holdings.{amount_of}
use Rattle.atl_phase.specs.Month.{MonthValue, with_events}
use Rattle.atl_phase.specs.PhaseOrders.{orders_by_unit, task_of}
use Rattle.atl_phase.specs.declared.phase_order.PhaseOrder.{PhaseOrder}
use Rattle.atl_phase.proofs.FoldLaws.{fold_after_step, fold_ended, fold_mapped}
use Rattle.atl_teaching.specs.Teach.{TaughtMen, after_lessons, is_teaching, teach_order}
use Rattle.atl_world.specs.declared.verb.Verb.TheVariants as verbs
use Rattle.atl_phase.specs.declared.phase_order.Arrangement.TheVariants.{ByUnit}
use Rattle.atl_phase.proofs.EventLaws.{Fits}
use Rattle.atl_phase.proofs.OrderEffectLaws.{listed_order}
use Rattle.atl_teaching.proofs.ShapeLaws.{teach_shape}
use Rattle.atl_teaching.proofs.teach.teach_all.Goals as goal

nobody_yet : amount_of empty ≡ (λ n. 0)
nobody_yet = fun_ext (λ n. ap (λ (o : Option ℕ). unwrap_or o 0) (get-empty nat_cmp n))

pub loop-order-init : goal.loop-order-init
loop-order-init c =
    let step = teach_order c.args.campaign.now.value c.args.learning.now in
    let xs = c.deref-order-items.result.now in
    let m = c.args.month.now in
    ap (λ t. fold (λ p o. step p (task_of o)) (t, with_events m c.new-events.result.items) xs) (ap amount_of c.new-taught.ensures ∙ nobody_yet)
    ∙ ap (λ es. fold (λ p o. step p (task_of o)) ((λ n. 0), with_events m es) xs) c.new-events.ensures.items

pub teach-requires : goal.teach-requires
teach-requires c =
    let m = c.args.month.now in
    listed_order c.requires.0 m.aliases m.readings c.requires.1 is_teaching ByUnit (λ t. Fits verbs.Teach t.order_value.operands) (λ t of_phase fit. teach_shape t.order_value.verb t.order_value.operands of_phase fit.shape)
    c.deref-order-items.result.now (ap (map task_of) c.deref-order-items.ensures.value ∙ c.in_ok-orders.ensures) c.loop-order.order-index c.order-item.result c.order-item.is c.loop-order-test.true

pub loop-order-preserved : goal.loop-order-preserved
loop-order-preserved c =
    let step = teach_order c.args.campaign.now.value c.args.learning.now in
    let before : TaughtMen × MonthValue = (amount_of c.loop-order.taught, with_events c.args.month.now c.loop-order.events.items) in
    let one = λ (p : TaughtMen × MonthValue) (x : PhaseOrder). step p (task_of x) in
    let now : (amount_of c.teach.new.taught, with_events c.args.month.now c.push.new.self.items) ≡ one before c.order-item.result = search (rules, append_assoc) in
    fold_after_step one c.deref-order-items.result.now c.loop-order.order-index c.order-item.result before c.loop-order-test.true (now ∙ ap (one before) c.order-item.is) c.loop-order.invariant

pub returns-clause-meaning : goal.returns-clause-meaning
unfolding after_lessons
returns-clause-meaning c =
    let step = teach_order c.args.campaign.now.value c.args.learning.now in
    let m = c.args.month.now in
    let xs = c.deref-order-items.result.now in
    let start : TaughtMen × MonthValue = ((λ n. 0), with_events m []) in
    let after : TaughtMen × MonthValue = (amount_of c.loop-order.taught, with_events m c.loop-order.events.items) in
    let none : start ≡ ((λ n. 0), m) = ap (λ es. ((λ n. 0), record m { events = es })) (append-nil m.events) in
    ap (λ n. (amount_of c.loop-order.taught, n)) c.in_ok-add_events.ensures
    ∙ ap (λ es. (amount_of c.loop-order.taught, with_events m es)) c.deref.ensures.value
    ∙ fold_ended (λ p o. step p (task_of o)) xs c.loop-order.order-index after (omega (arith, c.loop-order-test.false)) c.loop-order.invariant
    ∙ fold_mapped step task_of start xs
    ∙ ap (fold step start) (ap (map task_of) c.deref-order-items.ensures.value ∙ c.in_ok-orders.ensures)
    ∙ ap (λ p. fold step p (orders_by_unit is_teaching m)) none
