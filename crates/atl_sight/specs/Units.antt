-- What a faction sees of one unit. See docs/RULES.md, "Sight".
use Rattle.std.specs.Prelude.{◌==◌, ◌-◌, ℕ, List, [], map, if◌then◌else◌, Option}
use Rattle.std.specs.Option.{option_map_or}
use Rattle.std.specs.FinMap.{get, entries}
use Rattle.atl_records.specs.declared.records.Faction.{Faction}
use Rattle.atl_records.specs.declared.records.Unit.{Unit}
use Rattle.atl_campaign.specs.Good.{guards}
use Rattle.atl_records.specs.Holdings.{HoldingValue}
use Rattle.atl_records.specs.Levels.{level_of}
use Rattle.atl_campaign.specs.Campaign.{CampaignValue}
use Rattle.atl_sight.specs.declared.views.UnitView.{UnitView}
use Rattle.atl_sight.specs.declared.views.ItemView.{ItemView}
use Rattle.atl_sight.specs.declared.views.SkillView.{SkillView}
use Rattle.atl_sight.specs.declared.views.Side.{Side}
use Rattle.atl_sight.specs.declared.views.Side.TheVariants.{Own, Other}

-- the name of a faction, as reports show it; empty where there is no such faction
abbrev pub shown_name : Option Faction → List ℕ
shown_name faction = option_map_or (λ f. f.name) faction []

-- `item_view (item, amount)`: the view of an item that an own unit holds: its index in the world, and how many pieces
abbrev pub item_view : ℕ × ℕ → ItemView
item_view (item, amount) = record { item = item; amount = amount }

-- the views of all items that a unit holds, in the order of the world
abbrev pub item_views : HoldingValue → List ItemView
item_views h = map item_view (entries h.items)

-- `skill_view men (skill, days)`: the view of a skill in which an own unit has days: the skill's index in the world,
-- the level by days and men, and the days
abbrev pub skill_view : ℕ → ℕ × ℕ → SkillView
skill_view men (skill, days) = record { skill = skill; level = level_of days men; days = days }

-- the views of all skills whose days are listed of a unit, in the order of the world
abbrev pub skill_views : HoldingValue → List SkillView
skill_views h = map (skill_view h.men) (entries h.days)

-- the side of a unit in a faction's view: `Own` with money, items and skills where the unit is this faction's, else
-- `Other` with the number and the name of the unit's faction
abbrev pub side_of : CampaignValue → ℕ → Unit → Side
side_of c faction u =
    if u.faction == faction then Own u.holding.money (item_views u.holding) (skill_views u.holding)
    else Other u.faction (shown_name (get c.factions u.faction))

-- `unit_view c faction number u`: the view that a faction has of the unit u, which it sees and which has this number
abbrev pub unit_view : CampaignValue → ℕ → ℕ → Unit → UnitView
unit_view c faction number u = record {
  number = number;
  name = u.holding.name;
  men = u.holding.men;
  guard = guards u;
  structure = u.structure;
  side = side_of c faction u;
}
