use Rattle.std.proofs.Common.{◌≡◌, drop, map}
use Rattle.atl_phase.specs.PhaseOrders.{task_of}
use Rattle.std.specs.List.{filter_map}
use Rattle.atl_pots.specs.Pots.{AreWants}
use Rattle.atl_pots.specs.Puts.{with_entries}
use Rattle.atl_market.specs.PotPhase.{item_by, items_by, want_by, wants_by}
use Rattle.atl_market.proofs.pot_phase.wants_and_items.Given as goal

-- the maps so far, with what the orders to come put into them, are what the units want and the items that orders name
abbrev pub invariant-loop-order : goal.invariant-loop-order
invariant-loop-order g l = record {
  wants : with_entries l.wants (filter_map (want_by (g.P.PotPhase.meaning l.phase) l.world l.campaign.value) (map task_of (drop l.order-index l.orders)))
      ≡ wants_by (g.P.PotPhase.meaning l.phase) l.world l.campaign.value (map task_of l.orders);
  bound : AreWants l.wants;
  items : with_entries l.items (filter_map (item_by (g.P.PotPhase.meaning l.phase) l.world l.campaign.value) (map task_of (drop l.order-index l.orders)))
      ≡ items_by (g.P.PotPhase.meaning l.phase) l.world l.campaign.value (map task_of l.orders);
}
