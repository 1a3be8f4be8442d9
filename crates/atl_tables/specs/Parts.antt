-- For proofs alone: the parts of a world (rules, terrains, items, kinds, regions) as they are read from its file, and
-- their ranges. Regions are still a list, in the order of the file. The rule of names is `name_ok`.
use Rattle.std.specs.Prelude.{map, length}
use Rattle.atl_tables.specs.EachIndex.{EachIndex}
use Rattle.atl_tables.specs.ItemTable.{item_of}
use Rattle.atl_tables.specs.KindTable.{kind_of}
use Rattle.atl_world.specs.Worlds.{AreRules, IsTerrain, IsItem, IsKind, IsRegionPlan}
use Rattle.atl_tables.specs.RegionTable.{region_of}
use Rattle.atl_tables.specs.RulesTable.{rules_of}
use Rattle.atl_tables.specs.TerrainTable.{terrain_of}
use Rattle.atl_tables.specs.declared.reading.WorldParts.{WorldParts}
use Rattle.atl_tables.specs.declared.world_draft.WorldDraft.{WorldDraft}

-- the parts of the world that `all`, the tables of a file as they were read, describe: numbers are in place of the
-- names by which a table refers to others, 0 or None for an unknown name; skills are left out, since they refer to none
abbrev pub world_parts_of : WorldDraft → WorldParts
world_parts_of all = record {
  rules = rules_of all;
  terrains = map (terrain_of all) all.terrains;
  items = map (item_of all) all.items;
  kinds = map (kind_of all) all.kinds;
  regions = map (region_of all) all.regions;
}

-- The parts p of a world have names that keep the rule of names, and numbers in their ranges. Each terrain has an
-- output of every item of the tables `all`. The parts refer only to terrains, items and skills that `all` have, and no
-- item to itself. Each market of a region is under the number of its item.
pub record AreWorldPartsOf (all : WorldDraft) (p : WorldParts) : Type 0 where
  pub rules : AreRules (length all.skills) p.rules
  pub terrains : EachIndex (λ i x. IsTerrain (length all.items) x) p.terrains
  pub items : EachIndex (λ i x. IsItem (length all.items) (length all.skills) i x) p.items
  pub kinds : EachIndex (λ i x. IsKind (length all.items) (length all.skills) x) p.kinds
  pub regions : EachIndex (λ i x. IsRegionPlan (length all.terrains) (length all.items) x.number x) p.regions
