use Rattle.std.proofs.Common.{◌≡◌, Global, IfOk, IfSome, Option, Vec, map, refl, sym, subst}
use Rattle.atl_phase.specs.declared.order_indices.OrderIndex.{OrderIndex}
use Rattle.atl_phase.specs.declared.phase_order.Arrangement.{Arrangement}
use Rattle.atl_phase.specs.declared.phase_order.Arrangement.TheVariants.{ByUnit}
use Rattle.atl_phase.specs.Month.{MonthValue}
use Rattle.atl_phase.specs.OrderIndices.{AreOrderIndices, every_verb}
use Rattle.atl_phase.specs.PhaseOrders.{orders_of, task_of}
use Rattle.atl_phase.proofs.PickedLaws.{picked_list, twice}
use Rattle.atl_phase.proofs.month.Month.orders.Goals as goal

pub returns-in-ByUnit-Some : goal.returns-in-ByUnit-Some
returns-in-ByUnit-Some g c =
    let ms = c.self.inside.mailings.items in
    let aliases = c.self.inside.aliases in
    let is_of = g.P.PhaseVerbs.is_of in
    let r = c.phase_orders_at.result in
    let all = subst (λ (o : Option (Vec OrderIndex Global)). IfSome o (λ places. AreOrderIndices every_verb ByUnit aliases ms places.items)) c.in-ByUnit-Some.is-1 c.self.invariant.gathered in
    let picked = picked_list every_verb is_of (λ v. refl) aliases ByUnit ms c.deref.result.now c.in-ByUnit-Some.places.items c.deref-in-ByUnit-Some.result.now r c.deref.ensures.value c.deref-in-ByUnit-Some.ensures.value all c.phase_orders_at.ensures in
    subst (λ (a : Arrangement). IfOk r (λ list. map task_of list.items ≡ orders_of is_of a c.args.self.now.aliases c.args.self.now.readings)) (sym c.in-ByUnit-Some.is-0)
    (subst (λ (m : MonthValue). IfOk r (λ list. map task_of list.items ≡ orders_of is_of ByUnit m.aliases m.readings)) c.self.view_is picked)

pub returns-in_ok-places-in_default : goal.returns-in_ok-places-in_default
returns-in_ok-places-in_default g c =
    let ms = c.self.inside.mailings.items in
    let aliases = c.self.inside.aliases in
    let a = c.args.arrangement in
    let is_of = g.P.PhaseVerbs.is_of in
    let r = c.phase_orders_at-in_default.result in
    let places = c.in_ok-places-in_default.places.items in
    let all = subst (λ ns. AreOrderIndices is_of a aliases ns places) c.deref-in_default.ensures.value c.in_ok-places-in_default.ensures in
    subst (λ (m : MonthValue). IfOk r (λ list. map task_of list.items ≡ orders_of is_of a m.aliases m.readings)) c.self.view_is
    (picked_list is_of is_of (λ v. twice (is_of v)) aliases a ms c.deref-in_default-2.result.now places c.deref-in_default-3.result.now r c.deref-in_default-2.ensures.value c.deref-in_default-3.ensures.value all c.phase_orders_at-in_default.ensures)
