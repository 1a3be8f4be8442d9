use Rattle.std.proofs.Common.{◌≡◌, ◌<◌, length, drop}
use Rattle.std.specs.Prelude.{fold}
use Rattle.atl_campaign.specs.Covers.{MarksChanges}
use Rattle.atl_world.specs.Every.{EachEntry}
use Rattle.atl_campaign.specs.Good.{IsSteady}
use Rattle.atl_phase.specs.Bounds.{HaveRoom, items_bound}
use Rattle.atl_upkeep.specs.Sweep.{after_passing_item}
use Rattle.atl_upkeep.proofs.sweep.pass_items.Given as goal

-- before each item: passing on those still to come makes what passing on all makes; the campaign is steady, its books
-- have room, and all changes are marked
abbrev pub invariant-loop-item : goal.invariant-loop-item
invariant-loop-item l = record {
  rest : fold (after_passing_item l.to) l.campaign.value (drop l.item-index l.items)
      ≡ fold (after_passing_item l.to) l.initial.campaign.value l.items;
  steady : IsSteady l.world l.campaign.value;
  known : EachEntry (λ i amount. i < length l.world.items) (drop l.item-index l.items);
  room : HaveRoom (items_bound (drop l.item-index l.items)) l.campaign.value;
  marks : MarksChanges l.initial.campaign l.campaign;
}
