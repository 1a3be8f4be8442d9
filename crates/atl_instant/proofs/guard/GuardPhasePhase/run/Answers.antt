use Rattle.std.proofs.Common.{◌≡◌, [], ap, subst, sym, ◌∙◌, map, true, arith}
use Rattle.atl_world.specs.declared.verb.Verb.TheVariants as verbs
use Rattle.atl_phase.specs.declared.phase_order.Arrangement.TheVariants.{ByUnit}
use Rattle.atl_phase.proofs.EventLaws.{Fits}
use Rattle.atl_instant.proofs.TakenLaws.{guard_shape}
use Rattle.std.proofs.lemmas.List.{append-nil}
use Rattle.std.specs.Prelude.{fold}
use Rattle.atl_orders.specs.Bounds.{IsOrderOf}
use Rattle.atl_campaign.specs.Good.{IsSteady}
use Rattle.atl_campaign.specs.Campaign.{CampaignValue}
use Rattle.atl_campaign.proofs.CoverLaws.{marks-refl, marks-trans}
use Rattle.atl_phase.specs.Month.{MonthValue, with_events}
use Rattle.atl_phase.specs.PhaseOrders.{orders_by_unit, task_of}
use Rattle.atl_phase.specs.NoWorse.{IsNoWorse}
use Rattle.atl_phase.specs.declared.phase_order.PhaseOrder.{PhaseOrder}
use Rattle.atl_phase.specs.OrderEffects.{AreUnaffected, meaning_by_orders, one_order}
use Rattle.atl_phase.specs.Bounds.{StepsWell, nothing_remaining}
use Rattle.atl_phase.proofs.FoldLaws.{fold_after_step, fold_ended, fold_mapped}
use Rattle.atl_phase.proofs.OrderEffectLaws.{leaves_well, listed_order, order_well, orders_fit, orders_leave_others, well_same, well_twice}
use Rattle.atl_instant.specs.Guard.{guard_affects, guard_step, is_guarding}
use Rattle.atl_instant.specs.RegionGuards.{AreRegionGuards}
use Rattle.atl_instant.proofs.GuardingLaws.{guard_orderly}
use Rattle.atl_instant.proofs.RegionGuardLaws.{holders_are}
use Rattle.atl_instant.proofs.guard.GuardPhasePhase.run.Goals as goal

pub loop-order-init : goal.loop-order-init
loop-order-init c = record {
  orders = ap (λ es. fold (λ p o. one_order guard_step c.args._world.now p (task_of o)) (c.args.campaign.value, with_events c.args.month es) c.deref-order-items.result.now) c.new-events.ensures.items;
  well = well_same c.args._world.now c.args.campaign.value c.requires.needs;
  held = subst (AreRegionGuards c.args.campaign.value) (sym c.in_ok-holders.ensures) (holders_are c.args.campaign.value c.requires.needs.guarded);
  marks = marks-refl c.args.campaign;
}

-- the next order of GUARD has a flag
pub guard_one-requires-clause-flag : goal.guard_one-requires-clause-flag
guard_one-requires-clause-flag c =
    let m = c.args.month in
    listed_order c.args._world.now m.aliases m.readings c.requires.read is_guarding ByUnit (λ t. Fits verbs.Guard t.order_value.operands) (λ t of_phase fit. guard_shape t.order_value.verb t.order_value.operands of_phase fit.shape)
    c.deref-order-items.result.now (ap (map task_of) c.deref-order-items.ensures.value ∙ c.in_ok-orders.ensures) c.loop-order.order-index c.order-item.result c.order-item.is c.loop-order-test.true

pub loop-order-preserved : goal.loop-order-preserved
loop-order-preserved c =
    let w = c.args._world.now in
    let m = c.args.month in
    let now = c.loop-order.campaign.value in
    let before : CampaignValue × MonthValue = (now, with_events m c.loop-order.events.items) in
    let xs = c.deref-order-items.result.now in
    let step = c.in_ok-guard_one.ensures.step w m in
    let o = c.order-item.result in
    let one = λ (p : CampaignValue × MonthValue) (x : PhaseOrder). one_order guard_step w p (task_of x) in
    let fit =
    listed_order w m.aliases m.readings c.requires.read is_guarding ByUnit (λ t. IsOrderOf w t.order_value) (λ t of_phase fit. fit) xs
    (ap (map task_of) c.deref-order-items.ensures.value ∙ c.in_ok-orders.ensures) c.loop-order.order-index o c.order-item.is c.loop-order-test.true in
    let well = order_well guard_step guard_orderly w m.aliases now (task_of o) c.loop-order.invariant.well.holds_still fit in
    record {
      orders = fold_after_step one xs c.loop-order.order-index o before c.loop-order-test.true (step ∙ ap (one before) c.order-item.is) c.loop-order.invariant.orders;
      well = well_twice w c.args.campaign.value now _ c.loop-order.invariant.well (subst (StepsWell IsSteady nothing_remaining w now) (sym (ap (λ (p : CampaignValue × MonthValue). p.0) step)) well);
      held = c.in_ok-guard_one.ensures.held;
      marks = marks-trans c.args.campaign c.loop-order.campaign _ c.loop-order.invariant.marks c.in_ok-guard_one.ensures.marks;
    }

pub returns-clause-meaning : goal.returns-clause-meaning
unfolding meaning_by_orders
returns-clause-meaning c =
    let w = c.args._world.now in
    let m = c.args.month in
    let old = c.args.campaign.value in
    let step = one_order guard_step w in
    let after_loop : CampaignValue × MonthValue = (c.loop-order.campaign.value, with_events m c.loop-order.events.items) in
    let xs = c.deref-order-items.result.now in
    let start : CampaignValue × MonthValue = (old, with_events m []) in
    let none : start ≡ (old, m) = ap (λ es. (old, record m { events = es })) (append-nil m.events) in
    ap (λ n. (c.loop-order.campaign.value, n)) c.in_ok-add_events.ensures
    ∙ ap (λ es. (c.loop-order.campaign.value, with_events m es)) c.deref.ensures.value
    ∙ fold_ended (λ p o. step p (task_of o)) xs c.loop-order.order-index after_loop (omega (arith, c.loop-order-test.false)) c.loop-order.invariant.orders
    ∙ fold_mapped step task_of start xs
    ∙ ap (fold step start) (ap (map task_of) c.deref-order-items.ensures.value ∙ c.in_ok-orders.ensures)
    ∙ ap (λ p. fold step p (orders_by_unit is_guarding m)) none

pub returns-clause-leaves : goal.returns-clause-leaves
returns-clause-leaves c =
    leaves_well c.args._world.now c.args.campaign.value c.loop-order.campaign.value (λ e t. omega arith)
    c.loop-order.invariant.well

pub returns-clause-keeps : goal.returns-clause-keeps
unfolding meaning_by_orders
returns-clause-keeps c =
    let w = c.args._world.now in
    let m = c.args.month in
    let ts = orders_by_unit is_guarding m in
    subst (λ d. AreUnaffected guard_affects IsNoWorse ts c.args.campaign.value d) (sym (ap (λ p. p.0) (returns-clause-meaning c)))
    (orders_leave_others guard_step guard_orderly w c.args.campaign.value m ts c.requires.needs (orders_fit w m.aliases m.readings c.requires.read is_guarding))

pub returns-clause-marks : goal.returns-clause-marks
returns-clause-marks c = c.loop-order.invariant.marks
