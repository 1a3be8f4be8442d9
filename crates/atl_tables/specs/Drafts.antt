-- For proofs alone: bounds of a world file's tables as read, with names not looked up. The rule of names is `name_ok`.
use Rattle.std.specs.Prelude.{◌≡◌, ◌≤◌, true, length, map}
use Rattle.std.specs.List.{All}
use Rattle.atl_world.specs.Limits.{most_terrains, most_items, most_skills, most_kinds, most_regions, last_region, most_amount, most_per_head, most_price, most_fraction, most_growth, most_weight, last_level, most_raw_count, most_size}
use Rattle.atl_world.specs.Names.{name_ok, NamesDiffer}
use Rattle.atl_world.specs.Worlds.{IsSkill}
use Rattle.atl_tables.specs.declared.item_table.ItemDraft.{ItemDraft}
use Rattle.atl_tables.specs.declared.item_table.Recipe.{Recipe}
use Rattle.atl_tables.specs.declared.kind_table.BuildingNeeds.{BuildingNeeds}
use Rattle.atl_tables.specs.declared.kind_table.KindDraft.{KindDraft}
use Rattle.atl_tables.specs.declared.kind_table.Purpose.{Purpose}
use Rattle.atl_tables.specs.declared.market_table.MarketDraft.{MarketDraft}
use Rattle.atl_tables.specs.declared.output_table.Output.{Output}
use Rattle.atl_tables.specs.declared.reading.OptionalTables.{OptionalTables}
use Rattle.atl_tables.specs.declared.region_table.OldRegion.{OldRegion}
use Rattle.atl_tables.specs.declared.region_table.RegionBasics.{RegionBasics}
use Rattle.atl_tables.specs.declared.region_table.RegionDraft.{RegionDraft}
use Rattle.atl_tables.specs.declared.rules_table.MenRules.{MenRules}
use Rattle.atl_tables.specs.declared.rules_table.PeasantRules.{PeasantRules}
use Rattle.atl_tables.specs.declared.rules_table.Prices.{Prices}
use Rattle.atl_tables.specs.declared.rules_table.RulesDraft.{RulesDraft}
use Rattle.atl_tables.specs.declared.world_draft.WorldDraft.{WorldDraft}
use Rattle.atl_tables.specs.declared.terrain_table.Economy.{Economy}
use Rattle.atl_tables.specs.declared.terrain_table.TerrainDraft.{TerrainDraft}
use Rattle.atl_world.specs.declared.world.Skill.{Skill}

-- `maintenance`, `tax_per_man` and `recruit_price` of the table `[rules]` are in their ranges
pub record ArePrices (p : Prices) : Type 0 where
  pub maintenance_least : 1 ≤ p.maintenance
  pub maintenance : p.maintenance ≤ most_per_head
  pub tax_per_man : p.tax_per_man ≤ most_per_head
  pub recruit_price_least : 1 ≤ p.recruit_price
  pub recruit_price : p.recruit_price ≤ most_price

-- `recruit_fraction`, `growth` and `income` of the table `[rules]` are in their ranges
pub record ArePeasantRules (p : PeasantRules) : Type 0 where
  pub recruit_fraction_least : 1 ≤ p.recruit_fraction
  pub recruit_fraction : p.recruit_fraction ≤ most_fraction
  pub growth : p.growth ≤ most_growth
  pub income : p.income ≤ most_per_head

-- `start_money`, `man_weight` and `man_carry` of the table `[rules]` are in their ranges
pub record AreMenRules (m : MenRules) : Type 0 where
  pub start_money : m.start_money ≤ most_amount
  pub man_weight : m.man_weight ≤ most_weight
  pub man_carry : m.man_carry ≤ most_weight

-- the whole table `[rules]` has its numbers in their ranges
pub record AreRulesDraft (r : RulesDraft) : Type 0 where
  pub prices : ArePrices r.prices
  pub peasants : ArePeasantRules r.peasants
  pub men : AreMenRules r.men

-- the amount of one item in a terrain's output is in its range
pub record IsOutput (o : Output) : Type 0 where
  pub amount : o.amount ≤ most_amount

-- the wage, the number of work places, and the limits of money and peasants of a terrain are in their ranges
pub record IsEconomy (e : Economy) : Type 0 where
  pub wage_least : 1 ≤ e.wage
  pub wage : e.wage ≤ most_price
  pub places : e.places ≤ most_amount
  pub money_limit : e.money_limit ≤ most_amount
  pub peasant_limit : e.peasant_limit ≤ most_amount

-- a table `[[terrain]]` has a name that keeps the rule of names, and numbers in their ranges
pub record IsTerrainDraft (d : TerrainDraft) : Type 0 where
  pub name : name_ok d.name ≡ true
  pub economy : IsEconomy d.economy
  pub output : All IsOutput d.output

-- the level of the skill that making an item takes, and the count of its raw items, are in their ranges
pub record IsRecipe (m : Recipe) : Type 0 where
  pub level_least : 1 ≤ m.level
  pub level : m.level ≤ last_level
  pub raw_count_least : 1 ≤ m.raw_count
  pub raw_count : m.raw_count ≤ most_raw_count

-- a table `[[item]]` has a name that keeps the rule of names, and numbers in their ranges
pub record IsItemDraft (d : ItemDraft) : Type 0 where
  pub name : name_ok d.name ≡ true
  pub weight : d.weight ≤ most_weight
  pub carry : d.carry ≤ most_weight
  pub making : IsRecipe d.making

-- the size of a structure, ships too, and the level of the skill that building it takes, are in their ranges
pub record AreBuildingNeeds (b : BuildingNeeds) : Type 0 where
  pub size_least : 1 ≤ b.size
  pub size : b.size ≤ most_size
  pub level_least : 1 ≤ b.level
  pub level : b.level ≤ last_level

-- the capacity and the crew of a kind of structure are in their ranges
pub record IsPurpose (p : Purpose) : Type 0 where
  pub capacity : p.capacity ≤ most_amount
  pub crew : p.crew ≤ most_size

-- a table `[[kind]]` has a name that keeps the rule of names, and numbers in their ranges
pub record IsKindDraft (d : KindDraft) : Type 0 where
  pub name : name_ok d.name ≡ true
  pub building : AreBuildingNeeds d.building
  pub purpose : IsPurpose d.purpose

-- a region's number, peasants and money are in their ranges, and its name keeps the rule of names
pub record AreRegionBasics (p : RegionBasics) : Type 0 where
  pub number_least : 1 ≤ p.number
  pub number_most : p.number ≤ last_region
  pub name : name_ok p.name ≡ true
  pub peasants : p.peasants ≤ most_amount
  pub money : p.money ≤ most_amount

-- a region of the first format has number, peasants and money in their ranges, and a name that keeps the rule of names
pub record IsOldRegion (r : OldRegion) : Type 0 where
  pub basics : AreRegionBasics r.basics

-- a table `[[region.market]]` has its numbers in their ranges
pub record IsMarketDraft (d : MarketDraft) : Type 0 where
  pub price_least : 1 ≤ d.price
  pub price : d.price ≤ most_price
  pub pays_least : 1 ≤ d.pays
  pub pays : d.pays ≤ most_price
  pub limit : d.limit ≤ most_amount
  pub restock : d.restock ≤ most_amount

-- a region of the second format has its number, peasants, money and the numbers of its markets in their ranges, and a
-- name that keeps the rule of names
pub record IsRegionDraft (d : RegionDraft) : Type 0 where
  pub basics : AreRegionBasics d.basics
  pub markets : All IsMarketDraft d.markets

-- the tables of items, skills and kinds have names that keep the rule of names, numbers in their ranges, and no more of
-- each than a world may have
pub record AreOptionalTables (t : OptionalTables) : Type 0 where
  pub items : All IsItemDraft t.items
  pub skills : All IsSkill t.skills
  pub kinds : All IsKindDraft t.kinds
  pub few_items : length t.items ≤ most_items
  pub few_skills : length t.skills ≤ most_skills
  pub few_kinds : length t.kinds ≤ most_kinds

-- All tables of a world file have names that keep the rule of names, and numbers in their ranges, except those of
-- neighbours. There are no more terrains, items, skills, kinds and regions than a world may have.
pub record IsWorldDraft (t : WorldDraft) : Type 0 where
  pub rules : AreRulesDraft t.rules
  pub terrains : All IsTerrainDraft t.terrains
  pub items : All IsItemDraft t.items
  pub skills : All IsSkill t.skills
  pub kinds : All IsKindDraft t.kinds
  pub regions : All IsRegionDraft t.regions
  pub few_terrains : length t.terrains ≤ most_terrains
  pub few_items : length t.items ≤ most_items
  pub few_skills : length t.skills ≤ most_skills
  pub few_kinds : length t.kinds ≤ most_kinds
  pub few_regions : length t.regions ≤ most_regions

-- no two terrains, no two items, no two skills and no two kinds have the same name, ignoring ASCII case
pub record ThingNamesDiffer (t : WorldDraft) : Type 0 where
  pub terrains : NamesDiffer (map (λ (d : TerrainDraft). d.name) t.terrains)
  pub items : NamesDiffer (map (λ (d : ItemDraft). d.name) t.items)
  pub skills : NamesDiffer (map (λ (s : Skill). s.name) t.skills)
  pub kinds : NamesDiffer (map (λ (d : KindDraft). d.name) t.kinds)
