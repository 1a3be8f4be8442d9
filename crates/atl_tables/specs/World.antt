-- The conditions on a world file, in the order in which faults count, and the world that it gives.
-- See docs/FORMATS.md, "Faults of a world file".
-- `doc` has the members of the whole document, and `all` has all its tables as read.
use Rattle.std.specs.Prelude.{ℕ, List, [], ◌∷◌, ◌++◌, map, codes, Option, Some, None, Result, Err}
use Rattle.std.specs.FinMap.{FinMap}
use Rattle.std.specs.Ordering.{nat_cmp}
use Rattle.toml.specs.Data.{Members}
use Rattle.toml.specs.Parse.{parse_document}
use Rattle.atl_tables.specs.Arrays.{list_conditions, list_of}
use Rattle.atl_tables.specs.Each.{conditions_on_each}
use Rattle.atl_tables.specs.Faults.{Conditions, first_fault, fault_or_value}
use Rattle.atl_tables.specs.ItemTable.{item_keys, item_from, item_known, item_of}
use Rattle.atl_tables.specs.Keys.{array_at, optional_array_at}
use Rattle.atl_tables.specs.KindTable.{kind_keys, kind_from, kind_known, kind_of}
use Rattle.atl_world.specs.Limits.{most_terrains, most_items, most_skills, most_kinds, most_regions}
use Rattle.atl_tables.specs.Neighbours.{neighbours_at}
use Rattle.atl_world.specs.Worlds.{WorldValue, land_of}
use Rattle.atl_tables.specs.RegionTable.{old_region_keys, old_region_from, as_draft, region_keys, region_from, duplicate_market_items, region_known, region_of}
use Rattle.atl_tables.specs.Regions.{duplicate_numbers}
use Rattle.atl_tables.specs.RulesTable.{rules_conditions, rules_in, rules_known, rules_of}
use Rattle.atl_tables.specs.SkillTable.{skill_keys, skill_from}
use Rattle.atl_world.specs.Sums.{by_number}
use Rattle.atl_tables.specs.TerrainTable.{terrain_keys, terrain_from, duplicate_output_keys, terrain_known, terrain_of}
use Rattle.atl_tables.specs.Titles.{no_duplicates}
use Rattle.atl_tables.specs.declared.fault.WorldFault.{WorldFault}
use Rattle.atl_tables.specs.declared.fault.WorldFault.TheVariants.{NotToml, NoLand}
use Rattle.atl_world.specs.declared.format.Format.{Format}
use Rattle.atl_world.specs.declared.format.Format.TheVariants.{First, Second}
use Rattle.atl_tables.specs.declared.reading.OptionalTables.{OptionalTables}
use Rattle.atl_tables.specs.declared.region_table.RegionDraft.{RegionDraft}
use Rattle.atl_tables.specs.declared.world_draft.WorldDraft.{WorldDraft}
use Rattle.atl_world.specs.declared.world.RegionPlan.{RegionPlan}

-- the items, skills and kinds of a document, none where their array is missing, read with a default for each fault
unfoldable pub optional_tables_of : Members → OptionalTables
optional_tables_of doc = record {
  items = list_of item_from (codes "item") (optional_array_at most_items (codes "item") (codes "item") doc);
  skills = list_of skill_from (codes "skill") (optional_array_at most_skills (codes "skill") (codes "skill") doc);
  kinds = list_of kind_from (codes "kind") (optional_array_at most_kinds (codes "kind") (codes "kind") doc);
}

-- the regions of a document in a format, with a default in place of each fault; the first format reads no markets
unfoldable pub regions_in : Format → Members → List RegionDraft
regions_in First doc = map as_draft (list_of old_region_from (codes "region") (array_at most_regions (codes "region") doc))
regions_in Second doc = list_of region_from (codes "region") (array_at most_regions (codes "region") doc)

-- all tables of a document in a format, read with a default in place of each fault; names are not looked up
unfoldable pub tables_of : Format → Members → WorldDraft
tables_of format doc = record {
  rules = rules_in doc;
  terrains = list_of terrain_from (codes "terrain") (array_at most_terrains (codes "terrain") doc);
  items = (optional_tables_of doc).items;
  skills = (optional_tables_of doc).skills;
  kinds = (optional_tables_of doc).kinds;
  regions = regions_in format doc;
}

-- the regions of the tables, each under its number; of two with the same number the first counts
unfoldable pub regions_of : WorldDraft → FinMap nat_cmp RegionPlan
regions_of all = by_number (λ p. p.number) (map (region_of all) all.regions)

-- the world that the tables describe, with numbers in place of names by which they refer, 0 or None for unknown ones
unfoldable pub world_of_tables : WorldDraft → WorldValue
world_of_tables all = record {
  rules = rules_of all;
  terrains = map (terrain_of all) all.terrains;
  items = map (item_of all) all.items;
  skills = all.skills;
  kinds = map (kind_of all) all.kinds;
  regions = regions_of all;
}

-- ---- the conditions, in the order in which their faults count

-- the conditions on the arrays of items, skills and kinds of a document, each of which may be missing or has at most as
-- many elements as a world may have, and on the keys of their tables
unfoldable pub optional_conditions : Members → Conditions
optional_conditions doc =
    list_conditions item_keys (codes "item") (optional_array_at most_items (codes "item") (codes "item") doc)
    ++ (list_conditions skill_keys (codes "skill") (optional_array_at most_skills (codes "skill") (codes "skill") doc)
    ++ list_conditions kind_keys (codes "kind") (optional_array_at most_kinds (codes "kind") (codes "kind") doc))

-- the conditions on the array of regions of a document in a format, of 1 to most_regions tables, and on their keys
unfoldable pub regions_conditions : Format → Members → Conditions
regions_conditions First doc = list_conditions old_region_keys (codes "region") (array_at most_regions (codes "region") doc)
regions_conditions Second doc = list_conditions region_keys (codes "region") (array_at most_regions (codes "region") doc)

-- the conditions on the table `[rules]` of a document in a format, then on its arrays, and on all keys in these
unfoldable pub keys_conditions : Format → Members → Conditions
keys_conditions format doc =
    rules_conditions doc
    ++ (list_conditions terrain_keys (codes "terrain") (array_at most_terrains (codes "terrain") doc)
    ++ (optional_conditions doc
    ++ regions_conditions format doc))

-- the conditions that names of terrains, of items, of skills, of kinds are unique, ignoring ASCII case; else TwoNames
unfoldable pub titles_differ : WorldDraft → Conditions
titles_differ all =
    no_duplicates (λ d. d.name) (codes "terrain") (codes "name") all.terrains
    ++ (no_duplicates (λ d. d.name) (codes "item") (codes "name") all.items
    ++ (no_duplicates (λ s. s.name) (codes "skill") (codes "name") all.skills
    ++ no_duplicates (λ d. d.name) (codes "kind") (codes "name") all.kinds))

-- the conditions that names of terrains, of items, of skills and of kinds, region numbers, output keys of a terrain and
-- market items of a region are unique, ignoring ASCII case; else TwoNames
unfoldable pub names_differ : WorldDraft → Conditions
names_differ all =
    titles_differ all
    ++ (duplicate_numbers all.regions
    ++ (conditions_on_each duplicate_output_keys 0 all.terrains
    ++ conditions_on_each duplicate_market_items 0 all.regions))

-- the conditions that each name by which a table refers to a terrain, an item or a skill is the name of one, and `raw`
-- that of another item, ignoring ASCII case; else UnknownName
unfoldable pub names_are_known : WorldDraft → Conditions
names_are_known all =
    rules_known all
    ++ (conditions_on_each (terrain_known all) 0 all.terrains
    ++ (conditions_on_each (item_known all) 0 all.items
    ++ (conditions_on_each (kind_known all) 0 all.kinds
    ++ conditions_on_each (region_known all) 0 all.regions)))

-- the conditions that each neighbour of a region is a region, and has this one on its opposite side; else BadNeighbour
unfoldable pub neighbours_are_mutual : WorldDraft → Conditions
neighbours_are_mutual all = conditions_on_each (neighbours_at (regions_of all)) 0 all.regions

-- the condition that some region is land, given the numbers of all regions of land; else the fault NoLand
abbrev pub is_some_land : List ℕ → Conditions
is_some_land [] = Some NoLand ∷ []
is_some_land (n ∷ ns) = None ∷ []

-- the conditions on tables beyond keys: unique names and region numbers, known names, mutual neighbours, some land
abbrev pub table_conditions : WorldDraft → Conditions
table_conditions all =
    names_differ all
    ++ (names_are_known all
    ++ (neighbours_are_mutual all
    ++ is_some_land (land_of (world_of_tables all))))

-- all conditions on a document in a format, those on keys first
unfoldable pub document_conditions : Format → Members → Conditions
document_conditions format doc = keys_conditions format doc ++ table_conditions (tables_of format doc)

-- ---- the world of a text in a format, or its first fault

-- the world of a document in a format, or its first fault; NotToml without a document (None: the text is no TOML)
abbrev pub world_of_document : Format → Option Members → Result WorldValue WorldFault
world_of_document format None = Err NotToml
world_of_document format (Some doc) = fault_or_value (first_fault (document_conditions format doc)) (world_of_tables (tables_of format doc))

-- the world of a text in a format, or its first fault
unfoldable pub world_of_text : Format → List ℕ → Result WorldValue WorldFault
world_of_text format text = world_of_document format (parse_document text)

-- the world of a text in the second format, with markets, or its first fault
abbrev pub world_of : List ℕ → Result WorldValue WorldFault
world_of = world_of_text Second

-- the world of a text in the first format, without markets, or its first fault
abbrev pub old_world_of : List ℕ → Result WorldValue WorldFault
old_world_of = world_of_text First
