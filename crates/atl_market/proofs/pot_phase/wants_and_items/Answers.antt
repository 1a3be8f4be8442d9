use Rattle.std.proofs.Common.{◌≤◌, ◌∙◌, ℕ, ap, map, refl, subst, sym}
use Rattle.atl_phase.specs.PhaseOrders.{Task, task_of}
use Rattle.atl_phase.proofs.FoldLaws.{each_mapped}
use Rattle.std.specs.List.{filter_map}
use Rattle.atl_world.specs.Limits.{most_amount}
use Rattle.atl_world.proofs.EveryLaws.{every-empty}
use Rattle.atl_pots.specs.Puts.{with_entries}
use Rattle.atl_pots.proofs.PotLaws.{put_in_turn}
use Rattle.atl_market.specs.PotPhase.{item_by, want_by}
use Rattle.atl_market.proofs.pot_phase.wants_and_items.Goals as goal

pub loop-order-init : goal.loop-order-init
loop-order-init g c =
    let p = g.P.PotPhase.meaning c.args.phase.now in
    let ts = map task_of c.args.orders.now in
    let wanted = filter_map (want_by p c.args.world.now c.args.campaign.now.value) ts in
    let named = filter_map (item_by p c.args.world.now c.args.campaign.now.value) ts in
    record {
      wants = ap (λ m. with_entries m wanted) c.new-wants.ensures ∙ put_in_turn wanted;
      bound = rw c.new-wants.ensures (every-empty (λ (number want : ℕ). want ≤ most_amount));
      items = ap (λ m. with_entries m named) c.new-items.ensures ∙ put_in_turn named;
    }

pub note_order-requires-clause-asks : goal.note_order-requires-clause-asks
note_order-requires-clause-asks g c =
    let asks = λ (t : Task). g.P.PotPhase.asks t.order_value.operands in
    subst (λ x. asks (task_of x)) (sym c.order-item.is) (each_mapped asks task_of c.args.orders.now (map task_of c.args.orders.now) refl c.requires c.loop-order.order-index c.order-item.result c.loop-order-test.true)
