-- A world as contracts see it, and what is true of every world.
use Rattle.std.specs.Prelude.{◌≡◌, ◌≢◌, ◌≤◌, ◌<◌, ℕ, Bool, true, false, List, length, map, refl, Option, Some, IfSome, option_and_then}
use Rattle.std.specs.List.{All, slice_get}
use Rattle.std.specs.Option.{option_map_or}
use Rattle.std.specs.Ordering.{nat_cmp}
use Rattle.std.specs.Coded.{Coded, code_by, coded×, coded_ℕ, coded_list}
use Rattle.std.specs.FinMap.{FinMap, code, empty, get, len}
use Rattle.atl_world.specs.declared.direction.Direction.{Direction}
use Rattle.atl_world.specs.declared.direction.Direction.TheVariants.{North, South, East, West}
use Rattle.atl_world.specs.declared.world.Rules.{Rules}
use Rattle.atl_world.specs.declared.world.Terrain.{Terrain}
use Rattle.atl_world.specs.declared.world.Item.{Item}
use Rattle.atl_world.specs.declared.world.Skill.{Skill}
use Rattle.atl_world.specs.declared.world.Kind.{Kind}
use Rattle.atl_world.specs.declared.world.Market.{Market}
use Rattle.atl_world.specs.declared.world.RegionPlan.{RegionPlan}
use Rattle.atl_world.specs.contracts.world.Rules as rules
use Rattle.atl_world.specs.contracts.world.Terrain as terrain
use Rattle.atl_world.specs.contracts.world.Item as item
use Rattle.atl_world.specs.contracts.world.Skill as skill
use Rattle.atl_world.specs.contracts.world.Kind as kind
use Rattle.atl_world.specs.contracts.world.RegionPlan as plan
use Rattle.atl_world.specs.Limits.{most_terrains, most_items, most_skills, most_kinds, most_regions, last_region, most_amount, most_per_head, most_price, most_fraction, most_growth, most_weight, last_level, most_raw_count, most_size}
use Rattle.atl_world.specs.Names.{name_ok, NamesDiffer}
use Rattle.atl_world.specs.Sums.{map_values, numbers_where}

-- a world: its rules; its terrains, items, skills and kinds as lists, indexed by number; and a map of regions by number
pub record WorldValue : Type 0 where
  pub rules : Rules
  pub terrains : List Terrain
  pub items : List Item
  pub skills : List Skill
  pub kinds : List Kind
  pub regions : FinMap nat_cmp RegionPlan

-- the world that has these rules, terrains, items, skills, kinds and regions
abbrev pub world_of_parts : Rules → List Terrain → List Item → List Skill → List Kind → FinMap nat_cmp RegionPlan → WorldValue
world_of_parts rules terrains items skills kinds regions =
    record { rules = rules; terrains = terrains; items = items; skills = skills; kinds = kinds; regions = regions }

-- for proofs alone: a world encoded as nested pairs of what it has, as the kit asks of a type that contracts see
abbrev pub world_code : Coded WorldValue
world_code =
    code_by (Rules × (List Terrain × (List Item × (List Skill × (List Kind × FinMap nat_cmp RegionPlan)))))
    (coded× rules.the_row.coded
    (coded× (coded_list terrain.the_row.coded)
    (coded× (coded_list item.the_row.coded)
    (coded× (coded_list skill.the_row.coded)
    (coded× (coded_list kind.the_row.coded) (code coded_ℕ plan.the_row.coded))))))
    (λ p. (p.rules, (p.terrains, (p.items, (p.skills, (p.kinds, p.regions))))))
    (λ q. world_of_parts q.0 q.1.0 q.1.1.0 q.1.1.1.0 q.1.1.1.1.0 q.1.1.1.1.1)
    (λ _. refl)

-- whether the terrain of a region, looked up by its number in a list of terrains, is land; false if it is missing
abbrev pub is_land : List Terrain → RegionPlan → Bool
is_land terrains plan = option_map_or (λ t. t.land) (slice_get terrains plan.terrain) false

-- the numbers of the regions whose terrain is land, in ascending order
abbrev pub land_of : WorldValue → List ℕ
land_of w = numbers_where (is_land w.terrains) w.regions

-- a region with its markets left out
abbrev pub without_market : RegionPlan → RegionPlan
without_market p = record p { markets = empty }

-- a world with the markets of all regions left out
abbrev pub without_markets : WorldValue → WorldValue
without_markets w = record w { regions = map_values without_market w.regions }

-- the number of a region's neighbour in a direction, None if it has none there
abbrev pub neighbour_to : Direction → RegionPlan → Option ℕ
neighbour_to North p = p.north
neighbour_to South p = p.south
neighbour_to East p = p.east
neighbour_to West p = p.west

-- ---- what is true of every world: numbers are in their ranges, and the number of a thing is below how many there are

-- the numbers of the rules r are in their ranges, and the skills that r refers to, if any, are among `skills` skills
pub record AreRules (skills : ℕ) (r : Rules) : Type 0 where
  pub maintenance_least : 1 ≤ r.maintenance
  pub maintenance : r.maintenance ≤ most_per_head
  pub tax_per_man : r.tax_per_man ≤ most_per_head
  pub recruit_price_least : 1 ≤ r.recruit_price
  pub recruit_price : r.recruit_price ≤ most_price
  pub recruit_fraction_least : 1 ≤ r.recruit_fraction
  pub recruit_fraction : r.recruit_fraction ≤ most_fraction
  pub growth : r.growth ≤ most_growth
  pub income : r.income ≤ most_per_head
  pub start_money : r.start_money ≤ most_amount
  pub man_weight : r.man_weight ≤ most_weight
  pub man_carry : r.man_carry ≤ most_weight
  pub observation : IfSome r.observation (λ s. s < skills)
  pub stealth : IfSome r.stealth (λ s. s < skills)
  pub sailing : IfSome r.sailing (λ s. s < skills)

-- the name of the terrain t keeps the rule of names, its numbers are in their ranges, and its output has an amount for
-- each of `items` items
pub record IsTerrain (items : ℕ) (t : Terrain) : Type 0 where
  pub name : name_ok t.name ≡ true
  pub wage_least : 1 ≤ t.wage
  pub wage : t.wage ≤ most_price
  pub places : t.places ≤ most_amount
  pub money_limit : t.money_limit ≤ most_amount
  pub peasant_limit : t.peasant_limit ≤ most_amount
  pub outputs : length t.output ≡ items
  pub output : All (λ amount. amount ≤ most_amount) t.output

-- The name of the item x, whose number is i, keeps the rule of names, and its numbers are in their ranges. Its skill,
-- if any, is one of `skills` skills, and the item that it is made of, if any, is another one of `items` items.
pub record IsItem (items skills i : ℕ) (x : Item) : Type 0 where
  pub name : name_ok x.name ≡ true
  pub weight : x.weight ≤ most_weight
  pub carry : x.carry ≤ most_weight
  pub skill : IfSome x.skill (λ s. s < skills)
  pub level_least : 1 ≤ x.level
  pub level : x.level ≤ last_level
  pub raw : IfSome x.raw (λ r. r < items)
  pub raw_is_other : IfSome x.raw (λ r. r ≢ i)
  pub raw_count_least : 1 ≤ x.raw_count
  pub raw_count : x.raw_count ≤ most_raw_count

-- a skill's name keeps the rule of names, and its fee is at most most_price
pub record IsSkill (s : Skill) : Type 0 where
  pub name : name_ok s.name ≡ true
  pub fee : s.fee ≤ most_price

-- The name of the kind k keeps the rule of names, and its numbers are in their ranges. Its material is one of `items`
-- items. Its skill, and the skill that it helps, if any, are among `skills` skills.
pub record IsKind (items skills : ℕ) (k : Kind) : Type 0 where
  pub name : name_ok k.name ≡ true
  pub material : k.material < items
  pub size_least : 1 ≤ k.size
  pub size : k.size ≤ most_size
  pub skill : k.skill < skills
  pub level_least : 1 ≤ k.level
  pub level : k.level ≤ last_level
  pub capacity : k.capacity ≤ most_amount
  pub crew : k.crew ≤ most_size
  pub helps : IfSome k.helps (λ s. s < skills)

-- the market m trades the item `number`, one of `items` items, and its prices, limit and restock are in their ranges
pub record IsMarket (items number : ℕ) (m : Market) : Type 0 where
  pub number_is : m.item ≡ number
  pub item : m.item < items
  pub price_least : 1 ≤ m.price
  pub price : m.price ≤ most_price
  pub pays_least : 1 ≤ m.pays
  pub pays : m.pays ≤ most_price
  pub limit : m.limit ≤ most_amount
  pub restock : m.restock ≤ most_amount

-- The region p has the number `number`, a name that keeps the rule of names, numbers in their ranges, and one of
-- `terrains` terrains. Each market is under the number of its item, one of `items` items (`IsMarket`).
pub record IsRegionPlan (terrains items number : ℕ) (p : RegionPlan) : Type 0 where
  pub number_is : p.number ≡ number
  pub number_least : 1 ≤ number
  pub number_most : number ≤ last_region
  pub name : name_ok p.name ≡ true
  pub terrain : p.terrain < terrains
  pub peasants : p.peasants ≤ most_amount
  pub money : p.money ≤ most_amount
  pub markets : (i : ℕ) (m : Market) → get p.markets i ≡ Some m → IsMarket items i m

-- `neighbour`, if any, is one of `regions`, whose neighbour on the opposite side (`opposite`) is the region `number`
abbrev pub LeadsBack : FinMap nat_cmp RegionPlan → (RegionPlan → Option ℕ) → ℕ → Option ℕ → Type 0
LeadsBack regions opposite number neighbour = IfSome neighbour (λ m. option_and_then opposite (get regions m) ≡ Some number)

-- The neighbours of the region `number` in the north, south, east and west (n, s, e, w), if any, are of `regions`. Each
-- has it on its opposite side.
pub record HasMutualNeighbours (regions : FinMap nat_cmp RegionPlan) (number : ℕ) (n s e w : Option ℕ) : Type 0 where
  pub north : LeadsBack regions (λ q. q.south) number n
  pub south : LeadsBack regions (λ q. q.north) number s
  pub east : LeadsBack regions (λ q. q.west) number e
  pub west : LeadsBack regions (λ q. q.east) number w

-- What is true of every world: numbers in their ranges, references only to what it has, mutual neighbours, and some
-- region of land. No two terrains, no two items, no two skills and no two kinds have one name, ignoring ASCII case. Of
-- these and of regions there are at most as many as the limits say.
pub record IsWorld (w : WorldValue) : Type 0 where
  pub rules : AreRules (length w.skills) w.rules
  pub terrains : (i : ℕ) (t : Terrain) → slice_get w.terrains i ≡ Some t → IsTerrain (length w.items) t
  pub items : (i : ℕ) (x : Item) → slice_get w.items i ≡ Some x → IsItem (length w.items) (length w.skills) i x
  pub skills : (i : ℕ) (s : Skill) → slice_get w.skills i ≡ Some s → IsSkill s
  pub kinds : (i : ℕ) (k : Kind) → slice_get w.kinds i ≡ Some k → IsKind (length w.items) (length w.skills) k
  pub regions : (n : ℕ) (p : RegionPlan) → get w.regions n ≡ Some p → IsRegionPlan (length w.terrains) (length w.items) n p
  -- each neighbour of a region is a region of the world, whose neighbour on the opposite side is the region itself
  pub neighbours : (n : ℕ) (p : RegionPlan) → get w.regions n ≡ Some p → HasMutualNeighbours w.regions n p.north p.south p.east p.west
  pub terrain_names : NamesDiffer (map (λ (t : Terrain). t.name) w.terrains)
  pub item_names : NamesDiffer (map (λ (x : Item). x.name) w.items)
  pub skill_names : NamesDiffer (map (λ (s : Skill). s.name) w.skills)
  pub kind_names : NamesDiffer (map (λ (k : Kind). k.name) w.kinds)
  pub few_terrains : length w.terrains ≤ most_terrains
  pub few_items : length w.items ≤ most_items
  pub few_skills : length w.skills ≤ most_skills
  pub few_kinds : length w.kinds ≤ most_kinds
  pub few_regions : len w.regions ≤ most_regions
  pub some_land : 0 < length (land_of w)
