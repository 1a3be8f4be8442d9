-- The text of a report, line by line. See docs/FORMATS.md, "Reports".
use Rattle.std.specs.Prelude.{◌≡◌, ℕ, Bool, true, false, ◌==◌, if◌then◌else◌, List, [], ◌∷◌, codes, Option, option_map}
use Rattle.std.specs.Fmt.{decimal}
use Rattle.std.specs.FinMap.{get}
use Rattle.std.specs.List.{filter_map, slice_get}
use Rattle.std.specs.Option.{option_map_or}
use Rattle.atl_world.specs.Texts.{◌▸◌}
use Rattle.atl_world.specs.ByNumber.{market_of}
use Rattle.atl_world.specs.Worlds.{WorldValue}
use Rattle.atl_world.specs.declared.world.Market.{Market}
use Rattle.atl_world.specs.declared.world.RegionPlan.{RegionPlan}
use Rattle.atl_world.specs.declared.world.Item.{Item}
use Rattle.atl_world.specs.declared.world.Kind.{Kind}
use Rattle.atl_lines.specs.declared.fault.FaultyLine.{FaultyLine}
use Rattle.atl_records.specs.declared.event.Event.{Event}
use Rattle.atl_campaign.specs.Campaign.{CampaignValue}
use Rattle.atl_sight.specs.Each.{each_text, separated_texts}
use Rattle.atl_sight.specs.Events.{own_events, orders_part}
use Rattle.atl_report.specs.Sight.{view_of}
use Rattle.atl_sight.specs.declared.views.View.{View}
use Rattle.atl_sight.specs.declared.views.RegionView.{RegionView}
use Rattle.atl_sight.specs.declared.views.MarketView.{MarketView}
use Rattle.atl_sight.specs.declared.views.StructureView.{StructureView}
use Rattle.atl_sight.specs.declared.views.UnitView.{UnitView}
use Rattle.atl_sight.specs.declared.views.ItemView.{ItemView}
use Rattle.atl_sight.specs.declared.views.SkillView.{SkillView}
use Rattle.atl_sight.specs.declared.views.Side.{Side}
use Rattle.atl_sight.specs.declared.views.Side.TheVariants.{Own, Other}

-- the first line of a report: month, and the faction's number and name
unfoldable pub header_line : View → List ℕ
header_line v =
    codes "Atlantis report, month " ▸ decimal v.month
    ▸ codes ", faction " ▸ decimal v.faction
    ▸ codes " \"" ▸ v.name ▸ codes "\".\n"

-- ---- a unit that is seen

-- the start of a unit's line, given its side: number, name and men, after `*` with the money of an own unit, or after
-- `-` with the number and the name of the faction of another's
abbrev pub unit_head : UnitView → Side → List ℕ
unit_head u (Own money items skills) =
    codes "* Unit " ▸ decimal u.number
    ▸ codes " \"" ▸ u.name
    ▸ codes "\": " ▸ decimal u.men
    ▸ codes " men, " ▸ decimal money ▸ codes " money"
unit_head u (Other faction name) =
    codes "- Unit " ▸ decimal u.number
    ▸ codes " \"" ▸ u.name
    ▸ codes "\" of faction " ▸ decimal faction
    ▸ codes " \"" ▸ name
    ▸ codes "\": " ▸ decimal u.men ▸ codes " men"

-- the word `guard`, after a comma, in the line of a unit that guards; else empty
abbrev pub guard_text : Bool → List ℕ
guard_text true = codes ", guard"
guard_text false = []

-- the text of the structure that a unit is inside, by its number as in `, in 7`; empty where it is inside none
abbrev pub inside_text : ℕ → List ℕ
inside_text structure = if structure == 0 then [] else codes ", in " ▸ decimal structure

-- after a comma an amount of an item and the item's name in the world; empty for an item that the world does not have
unfoldable pub item_text : WorldValue → ItemView → List ℕ
item_text w e = option_map_or (λ item. codes ", " ▸ decimal e.amount ▸ codes " " ▸ item.name) (slice_get w.items e.item) []

-- the texts of the items of a list, in its order
abbrev pub item_texts : WorldValue → List ItemView → List ℕ
item_texts w = each_text (item_text w)

-- after a comma the name of a skill, with the unit's level and days; empty for a skill that the world does not have
unfoldable pub skill_text : WorldValue → SkillView → List ℕ
skill_text w e =
    option_map_or (λ skill. codes ", " ▸ skill.name ▸ codes " " ▸ decimal e.level ▸ codes " (" ▸ decimal e.days ▸ codes ")")
    (slice_get w.skills e.skill) []

-- the texts of the skills of a list, in its order
abbrev pub skill_texts : WorldValue → List SkillView → List ℕ
skill_texts w = each_text (skill_text w)

-- the texts of the items and the skills of an own unit, one after another; empty for another faction's unit
abbrev pub goods_text : WorldValue → Side → List ℕ
goods_text w (Own money items skills) = item_texts w items ▸ skill_texts w skills
goods_text w (Other faction name) = []

-- the line of a unit: head, guard, structure, and an own unit's items and skills
unfoldable pub unit_line : WorldValue → UnitView → List ℕ
unit_line w u = unit_head u u.side ▸ guard_text u.guard ▸ inside_text u.structure ▸ goods_text w u.side ▸ codes ".\n"

-- the lines of the units of a list, in its order
abbrev pub unit_lines : WorldValue → List UnitView → List ℕ
unit_lines w = each_text (unit_line w)

-- ---- a structure that is seen

-- the line of a structure: number, name, the kind's name, how much is done of the kind's full size, and the owner
abbrev pub structure_text : StructureView → Kind → List ℕ
structure_text s kind =
    codes "Structure " ▸ decimal s.number
    ▸ codes " \"" ▸ s.name
    ▸ codes "\", " ▸ kind.name
    ▸ codes ", " ▸ decimal s.done
    ▸ codes " of "
    ▸ decimal kind.size ▸ codes ", owner " ▸ decimal s.owner ▸ codes ".\n"

-- the line of a structure; empty where the world does not have its kind
unfoldable pub structure_line : WorldValue → StructureView → List ℕ
structure_line w s = option_map_or (structure_text s) (slice_get w.kinds s.kind) []

-- the lines of the structures of a list, in its order
abbrev pub structure_lines : WorldValue → List StructureView → List ℕ
structure_lines w = each_text (structure_line w)

-- ---- a region that is seen

-- the line of a region: its number, its name and terrain as the world gives them, its peasants and its money
abbrev pub region_text : RegionView → RegionPlan → (terrain : List ℕ) → List ℕ
region_text r plan terrain =
    codes "Region " ▸ decimal r.number
    ▸ codes " \"" ▸ plan.name
    ▸ codes "\", " ▸ terrain
    ▸ codes ": " ▸ decimal r.peasants
    ▸ codes " peasants, "
    ▸ decimal r.money ▸ codes " money.\n"

-- the name of a region's terrain; empty where the world does not have it
abbrev pub terrain_name : WorldValue → RegionPlan → List ℕ
terrain_name w plan = option_map_or (λ t. t.name) (slice_get w.terrains plan.terrain) []

-- the line of a region; empty where the world does not have it
unfoldable pub region_line : WorldValue → RegionView → List ℕ
region_line w r = option_map_or (λ plan. region_text r plan (terrain_name w plan)) (get w.regions r.number) []

-- the text of an exit of a region: its direction, and the number of the region to which it leads
abbrev pub exit_text : (direction : List ℕ) → (to : ℕ) → List ℕ
exit_text direction to = direction ▸ codes " " ▸ decimal to

-- the texts of the exits that a region has, in the order north, south, east, west
unfoldable pub exit_texts : RegionPlan → List (List ℕ)
exit_texts p =
    filter_map (λ (e : List ℕ × Option ℕ). option_map (exit_text e.0) e.1)
    ((codes "north", p.north) ∷ (codes "south", p.south) ∷ (codes "east", p.east) ∷ (codes "west", p.west) ∷ [])

-- some texts with commas between them, or `none` where there is no text
abbrev pub joined_or_none : List (List ℕ) → List ℕ
joined_or_none [] = codes "none"
joined_or_none (text ∷ texts) = separated_texts (codes ", ") (text ∷ texts)

-- the line with all exits of a region, or with `none`
abbrev pub exits_text : RegionPlan → List ℕ
exits_text p = codes "Exits: " ▸ joined_or_none (exit_texts p) ▸ codes ".\n"

-- the line of a region's exits; empty where the world does not have the region
unfoldable pub exits_line : WorldValue → RegionView → List ℕ
exits_line w r = option_map_or exits_text (get w.regions r.number) []

-- the line of a market: its item, its stock with the price of one, and how many it wants with what it pays for one
abbrev pub market_text : MarketView → Market → Item → List ℕ
market_text e m item =
    codes "Market " ▸ item.name
    ▸ codes ": " ▸ decimal e.stock
    ▸ codes " in stock at " ▸ decimal m.price
    ▸ codes ", " ▸ decimal e.wanted
    ▸ codes " wanted at " ▸ decimal m.pays ▸ codes ".\n"

-- the line of an item's market in a region; empty where the world has no such market or item
unfoldable pub market_line : WorldValue → ℕ → MarketView → List ℕ
market_line w region e =
    option_map_or
    (λ m. option_map_or (market_text e m) (slice_get w.items e.item) [])
    (market_of w region e.item) []

-- the lines of the markets of a list, which are of one region, in its order
abbrev pub market_lines : WorldValue → ℕ → List MarketView → List ℕ
market_lines w region = each_text (market_line w region)

-- all lines of a region: its own, exits, markets, structures and units
unfoldable pub region_part : WorldValue → RegionView → List ℕ
region_part w r =
    region_line w r
    ▸ exits_line w r
    ▸ market_lines w r.number r.markets
    ▸ structure_lines w r.structures
    ▸ unit_lines w r.units

-- all lines of each region of a list (`region_part`), in the order of the list
abbrev pub region_parts : WorldValue → List RegionView → List ℕ
region_parts w = each_text (region_part w)

-- ---- the whole

-- the report to a view's faction: first line, `Orders:` with the faulty lines and its own events, the view's regions
unfoldable pub report_of : WorldValue → View → List FaultyLine → List Event → List ℕ
report_of w v faults events = header_line v ▸ orders_part v.faction faults events ▸ region_parts w v.regions

-- the law that two lists of events with the same events of a faction give this faction the same report, for the same
-- view and faulty lines
abbrev pub OthersEventsAreNotReported : Type 0
OthersEventsAreNotReported =
    (w : WorldValue) (v : View) (faults : List FaultyLine) (events others : List Event)
    → own_events v.faction events ≡ own_events v.faction others
    → report_of w v faults events ≡ report_of w v faults others

-- the law that a faction that sees the same of two campaigns of one world gets one report, for the same faulty lines
-- and own events
abbrev pub OnlyWhatIsSeenIsReported : Type 0
OnlyWhatIsSeenIsReported =
    (w : WorldValue) (c d : CampaignValue) (faction : ℕ) (faults : List FaultyLine) (events others : List Event)
    → view_of w c faction ≡ view_of w d faction
    → own_events faction events ≡ own_events faction others
    → report_of w (view_of w c faction) faults events ≡ report_of w (view_of w d faction) faults others
