use Rattle.std.proofs.Common.{◌≡◌, [], ap, subst, sym, ◌∙◌, map, true, arith}
use Rattle.std.proofs.lemmas.List.{append-nil}
use Rattle.std.specs.Prelude.{fold}
use Rattle.atl_orders.specs.Bounds.{IsOrderOf}
use Rattle.atl_campaign.proofs.CoverLaws.{marks-refl, marks-trans}
use Rattle.atl_campaign.specs.Campaign.{CampaignValue}
use Rattle.atl_phase.specs.Month.{MonthValue, with_events}
use Rattle.atl_phase.specs.PhaseOrders.{orders_by_unit, task_of}
use Rattle.atl_phase.specs.declared.phase_order.PhaseOrder.{PhaseOrder}
use Rattle.atl_phase.specs.OrderEffects.{AreUnaffected, meaning_by_orders, one_order}
use Rattle.atl_phase.specs.Bounds.{StepsWell}
use Rattle.atl_phase.proofs.FoldLaws.{fold_after_step, fold_ended, fold_mapped}
use Rattle.atl_phase.proofs.MeaningLaws.{room_less}
use Rattle.atl_phase.specs.declared.phase_order.Arrangement.TheVariants.{ByUnit}
use Rattle.atl_phase.proofs.OrderEffectLaws.{leaves_well, listed_order, order_well, orders_fit, orders_leave_others, room_left, well_same, well_twice}
use Rattle.atl_phase.proofs.order_phase.carry_out_orders.Goals as goal

pub loop-order-init : goal.loop-order-init
loop-order-init g c =
    let P = g.P.OrderPhase in
    let m = c.args.month.now in
    record {
      orders = ap (λ es. fold (λ p o. one_order (P.step c.args.phase.now) c.args.world.now p (task_of o)) (c.args.campaign.now.value, with_events m es) c.deref-order-items.result.now) c.new-events.ensures.items;
      well = well_same c.args.world.now c.args.campaign.now.value c.requires.holds;
      marks = marks-refl c.args.campaign.now;
    }

pub carry_one-requires-clause-room : goal.carry_one-requires-clause-room
carry_one-requires-clause-room g c =
    let P = g.P.OrderPhase in
    room_left c.args.world.now c.args.campaign.now.value c.loop-order.campaign.value c.loop-order.invariant.well
    (room_less (P.remaining c.args.campaign.now.value) P.book_bound c.args.campaign.now.value (c.is_orderly.ensures.bounded c.args.world.now c.args.campaign.now.value c.requires.holds) c.requires.room)

-- the next order has a verb of the phase
pub carry_one-requires-clause-verb : goal.carry_one-requires-clause-verb
carry_one-requires-clause-verb g c =
    let m = c.args.month.now in
    let is_of = g.P.PhaseVerbs.is_of in
    listed_order c.args.world.now m.aliases m.readings c.requires.read is_of ByUnit (λ t. is_of t.order_value.verb ≡ true) (λ t of_phase fit. of_phase) c.deref-order-items.result.now
    (ap (map task_of) c.deref-order-items.ensures.value ∙ c.in_ok-orders.ensures) c.loop-order.order-index c.order-item.result c.order-item.is c.loop-order-test.true

pub carry_one-requires-clause-fit : goal.carry_one-requires-clause-fit
carry_one-requires-clause-fit g c =
    let w = c.args.world.now in
    let m = c.args.month.now in
    listed_order w m.aliases m.readings c.requires.read g.P.PhaseVerbs.is_of ByUnit (λ t. IsOrderOf w t.order_value) (λ t of_phase fit. fit) c.deref-order-items.result.now
    (ap (map task_of) c.deref-order-items.ensures.value ∙ c.in_ok-orders.ensures) c.loop-order.order-index c.order-item.result c.order-item.is c.loop-order-test.true

pub loop-order-preserved : goal.loop-order-preserved
loop-order-preserved g c =
    let P = g.P.OrderPhase in
    let w = c.args.world.now in
    let m = c.args.month.now in
    let before : CampaignValue × MonthValue = (c.loop-order.campaign.value, with_events m c.loop-order.events.items) in
    let step = c.in_ok-carry_one.ensures.step in
    let o = c.order-item.result in
    let xs = c.deref-order-items.result.now in
    let one = λ (p : CampaignValue × MonthValue) (x : PhaseOrder). one_order (P.step c.args.phase.now) w p (task_of x) in
    let fit =
    listed_order w m.aliases m.readings c.requires.read g.P.PhaseVerbs.is_of ByUnit (λ t. IsOrderOf w t.order_value) (λ t of_phase fit. fit) xs
    (ap (map task_of) c.deref-order-items.ensures.value ∙ c.in_ok-orders.ensures) c.loop-order.order-index o c.order-item.is c.loop-order-test.true in
    let well = order_well (P.step c.args.phase.now) c.is_orderly.ensures w m.aliases c.loop-order.campaign.value (task_of o) c.loop-order.invariant.well.holds_still fit in
    record {
      orders = fold_after_step one xs c.loop-order.order-index o before c.loop-order-test.true (step ∙ ap (one before) c.order-item.is) c.loop-order.invariant.orders;
      well =
          well_twice w c.args.campaign.now.value c.loop-order.campaign.value _ c.loop-order.invariant.well
          (subst (StepsWell P.holds P.remaining w c.loop-order.campaign.value) (sym (ap (λ (p : CampaignValue × MonthValue). p.0) step)) well);
      marks = marks-trans c.args.campaign.now c.loop-order.campaign _ c.loop-order.invariant.marks c.in_ok-carry_one.ensures.marks;
    }

pub returns-clause-meaning : goal.returns-clause-meaning
unfolding meaning_by_orders
returns-clause-meaning g c =
    let P = g.P.OrderPhase in
    let w = c.args.world.now in
    let m = c.args.month.now in
    let old = c.args.campaign.now.value in
    let step = one_order (P.step c.args.phase.now) w in
    let after : CampaignValue × MonthValue = (c.loop-order.campaign.value, with_events m c.loop-order.events.items) in
    let xs = c.deref-order-items.result.now in
    let start : CampaignValue × MonthValue = (old, with_events m []) in
    let none : start ≡ (old, m) = ap (λ es. (old, record m { events = es })) (append-nil m.events) in
    ap (λ n. (c.loop-order.campaign.value, n)) c.in_ok-add_events.ensures
    ∙ ap (λ es. (c.loop-order.campaign.value, with_events m es)) c.deref.ensures.value
    ∙ fold_ended (λ p o. step p (task_of o)) xs c.loop-order.order-index after (omega (arith, c.loop-order-test.false)) c.loop-order.invariant.orders
    ∙ fold_mapped step task_of start xs
    ∙ ap (fold step start) (ap (map task_of) c.deref-order-items.ensures.value ∙ c.in_ok-orders.ensures)
    ∙ ap (λ p. fold step p (orders_by_unit g.P.PhaseVerbs.is_of m)) none

pub returns-clause-leaves : goal.returns-clause-leaves
returns-clause-leaves g c =
    leaves_well c.args.world.now c.args.campaign.now.value c.loop-order.campaign.value
    (c.is_orderly.ensures.bounded c.args.world.now c.args.campaign.now.value c.requires.holds) c.loop-order.invariant.well

pub returns-clause-keeps : goal.returns-clause-keeps
unfolding meaning_by_orders
returns-clause-keeps g c =
    let P = g.P.OrderPhase in
    let w = c.args.world.now in
    let m = c.args.month.now in
    let ts = orders_by_unit g.P.PhaseVerbs.is_of m in
    subst (λ d. AreUnaffected P.affects P.unaffected ts c.args.campaign.now.value d) (sym (ap (λ p. p.0) (returns-clause-meaning g c)))
    (orders_leave_others (P.step c.args.phase.now) c.is_orderly.ensures w c.args.campaign.now.value m ts c.requires.holds (orders_fit w m.aliases m.readings c.requires.read g.P.PhaseVerbs.is_of))
