use Rattle.std.proofs.Common.{rules, ◌≡◌, ◌+◌, ◌∷◌, [], ◌++◌, is_some, map, take, ap, sym, ◌∙◌, arith}
use Rattle.std.proofs.lemmas.List.{map-append, take_more}
use Rattle.std.specs.Ordering.{nat_cmp}
use Rattle.std.specs.FinMap.{get-empty}
use Rattle.std.specs.FinSet as set
use Rattle.atl_world.specs.RoomySets.{RoomySet}
use Rattle.atl_phase.specs.PhaseOrders.{task_of}
use Rattle.atl_phase.specs.declared.phase_order.PhaseOrder.{PhaseOrder}
use Rattle.atl_market.specs.Idle.{with_writer}
use Rattle.atl_market.proofs.WriterLaws.{few_more, one_more}
use Rattle.atl_market.proofs.work.own_writers.Goals as goal

pub loop-order-init : goal.loop-order-init
loop-order-init c = record {
  each = λ unit. rw c.in_ok-writers.ensures (set.contains-empty nat_cmp unit ∙ sym (ap is_some (get-empty nat_cmp unit)));
  few = rw c.in_ok-writers.ensures (let none = set.len-empty nat_cmp in omega (arith, none));
  room = ap (λ (m : RoomySet). m.room) c.in_ok-writers.ensures;
}

pub loop-order-preserved : goal.loop-order-preserved
loop-order-preserved c =
    let orders = c.args.orders.now in
    let i = c.loop-order.order-index in
    let p : PhaseOrder = c.order-item.result in
    let more : take (i + 1) orders ≡ take i orders ++ p ∷ [] = take_more orders i p c.loop-order-test.true ∙ ap (λ q. take i orders ++ q ∷ []) (sym c.order-item.is) in
    let is : c.add_writer.new.writers ≡ record c.loop-order.writers { numbers = with_writer c.args.campaign.now.value p.unit p.faction c.loop-order.writers.numbers } = search rules in
    let tasks : map task_of (take (i + 1) orders) ≡ map task_of (take i orders) ++ task_of p ∷ [] = ap (map task_of) more ∙ map-append task_of (take i orders) (p ∷ []) in
    record {
      each = λ unit. rw (is, tasks) (one_more c.args.campaign.now.value (map task_of (take i orders)) (task_of p) c.loop-order.writers.numbers c.loop-order.invariant.each unit);
      few = rw is (few_more c.args.campaign.now.value [] (task_of p) c.loop-order.writers.numbers i c.loop-order.invariant.few);
      room = rw is c.loop-order.invariant.room;
    }
