use Rattle.std.proofs.Common.{◌≡◌}
use Rattle.std.specs.Prelude.{fold}
use Rattle.std.specs.FinMap.{entries}
use Rattle.atl_campaign.specs.Covers.{MarksChanges}
use Rattle.atl_world.specs.Every.{EachEntry}
use Rattle.atl_campaign.specs.Good.{IsSteady}
use Rattle.atl_phase.specs.Bounds.{HaveRoom}
use Rattle.atl_upkeep.specs.Restock.{after_market_restock, after_restock, markets_of}
use Rattle.atl_upkeep.proofs.RestockLaws.{IsMarketOf, stocking_bound}
use Rattle.atl_upkeep.proofs.restock.restock_region.Given as goal

-- before each market: restocking those still to come makes what restocking all makes; the campaign is steady, its books
-- have room, and all changes are marked
abbrev pub invariant-loop-item : goal.invariant-loop-item
invariant-loop-item l = record {
  can_next : (goal.iterator-loop-item).can_next l.item-iterator;
  is_finite : (goal.iterator-loop-item).is_finite l.item-iterator;
  rest : fold (after_market_restock l.region) l.campaign.value l.item-iterator
      ≡ after_restock l.region l.initial.campaign.value (entries (markets_of l.world l.region));
  each : EachEntry (IsMarketOf l.world l.region) l.item-iterator;
  steady : IsSteady l.world l.campaign.value;
  room : HaveRoom (stocking_bound l.item-iterator) l.campaign.value;
  marks : MarksChanges l.initial.campaign l.campaign;
}
