-- What a faction sees of a campaign. See docs/RULES.md, "Sight". `watch` has the watching faction, the watched region,
-- and the faction's best level of observation there.
use Rattle.std.specs.Prelude.{◌==◌, ◌-◌, ℕ, List, [], map, filter, if◌then◌else◌, Option, Some, None, option_and_then, option_map}
use Rattle.std.specs.List.{filter_map}
use Rattle.std.specs.Option.{option_map_or}
use Rattle.std.specs.Ordering.{nat_cmp}
use Rattle.std.specs.FinMap.{FinMap, get, entries}
use Rattle.atl_world.specs.Worlds.{WorldValue}
use Rattle.atl_world.specs.Sums.{numbers_where}
use Rattle.atl_world.specs.declared.world.Market.{Market}
use Rattle.atl_world.specs.declared.world.RegionPlan.{RegionPlan}
use Rattle.atl_records.specs.declared.records.Region.{Region}
use Rattle.atl_records.specs.declared.records.Structure.{Structure}
use Rattle.atl_records.specs.declared.records.Unit.{Unit}
use Rattle.atl_records.specs.Holdings.{amount_of}
use Rattle.atl_campaign.specs.Campaign.{CampaignValue, numbers_in_region}
use Rattle.atl_sight.specs.declared.views.View.{View}
use Rattle.atl_sight.specs.declared.views.RegionView.{RegionView}
use Rattle.atl_sight.specs.declared.views.MarketView.{MarketView}
use Rattle.atl_sight.specs.declared.views.StructureView.{StructureView}
use Rattle.atl_sight.specs.declared.views.UnitView.{UnitView}
use Rattle.atl_sight.specs.declared.watch.Watch.{Watch}
use Rattle.atl_sight.specs.Watching.{watch_over, is_seen, is_seen_there, sees_region}
use Rattle.atl_sight.specs.Units.{shown_name, unit_view}

-- ---- units

-- the view that the watching faction has of the unit of this number; None where there is no such unit, or it isn't seen
abbrev pub seen_unit : WorldValue → CampaignValue → Watch → ℕ → Option Unit → Option UnitView
seen_unit w c watch number unit =
    option_and_then (λ u. if is_seen w watch u then Some (unit_view c watch.faction number u) else None) unit

-- the views of the units that the watching faction sees in the watched region, in the order of their numbers
abbrev pub unit_views : WorldValue → CampaignValue → Watch → List UnitView
unit_views w c watch = filter_map (λ n. seen_unit w c watch n (get c.units n)) (numbers_in_region watch.region c.units)

-- ---- structures

-- the numbers of a region's structures, sorted
abbrev pub structures_in : ℕ → FinMap nat_cmp Structure → List ℕ
structures_in region structures = numbers_where (λ s. s.region == region) structures

-- the number of the unit that owns a structure, as the watching faction is shown it; 0 where no unit does, or the
-- faction doesn't see this unit in the watched region
abbrev pub shown_owner : WorldValue → CampaignValue → Watch → Structure → ℕ
shown_owner w c watch s = if is_seen_there w watch (get c.units s.owner) then s.owner else 0

-- the view of a structure: number, kind, name, how much is done, and the owner, which is 0 where there is none, or the
-- owner isn't seen
abbrev pub structure_view : WorldValue → CampaignValue → Watch → ℕ → Structure → StructureView
structure_view w c watch number s = record {
  number = number;
  kind = s.kind;
  name = s.name;
  done = s.done;
  owner = shown_owner w c watch s;
}

-- the views of all structures of the watched region, in the order of their numbers
abbrev pub structure_views : WorldValue → CampaignValue → Watch → List StructureView
structure_views w c watch =
    filter_map (λ n. option_map (structure_view w c watch n) (get c.structures n))
    (structures_in watch.region c.structures)

-- ---- markets

-- the view of a market, given with the index of its item in the world: the item, its stock, and how many more pieces
-- its limit leaves room for
abbrev pub market_view : Region → ℕ × Market → MarketView
market_view r (item, m) = record { item = m.item; stock = amount_of r.stocks item; wanted = m.limit - amount_of r.stocks item }

-- the views of all markets that the world gives a region, in the order of their items
abbrev pub market_views : Region → RegionPlan → List MarketView
market_views r p = map (market_view r) (entries p.markets)

-- the views of all markets of a region; none where the world does not have the region
abbrev pub region_market_views : Region → Option RegionPlan → List MarketView
region_market_views r plan = option_map_or (market_views r) plan []

-- ---- the whole

-- the view of the watched region, whose record is `r`: number, peasants, money, markets, all structures, and the units
-- that are seen
abbrev pub region_view : WorldValue → CampaignValue → Watch → Region → RegionView
region_view w c watch r = record {
  number = watch.region;
  peasants = r.peasants;
  money = r.money;
  markets = region_market_views r (get w.regions watch.region);
  structures = structure_views w c watch;
  units = unit_views w c watch;
}

-- the views of the regions that the faction sees, in the order of their numbers
abbrev pub region_views : WorldValue → CampaignValue → ℕ → List RegionView
region_views w c faction =
    map (λ e. region_view w c (watch_over w c faction e.0) e.1)
    (filter (λ e. sees_region c faction e.0) (entries c.regions))

-- what a faction sees: the month last closed, its number, its name (empty if it isn't there), and the regions it sees
unfoldable pub view_of : WorldValue → CampaignValue → ℕ → View
view_of w c faction = record {
  month = c.month;
  faction = faction;
  name = shown_name (get c.factions faction);
  regions = region_views w c faction;
}
