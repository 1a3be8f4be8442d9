-- A table `[[terrain]]` of the world file: its keys in order, with their ranges, and the terrain that they give.
-- See docs/FORMATS.md, "The world file". A key with a fault gives a default value (`one_key`).
-- `all` has all tables of the file as read, and d is the i-th table `[[terrain]]`. The rule of names is `name_ok`.
use Rattle.std.specs.Prelude.{ℕ, List, codes, map}
use Rattle.toml.specs.Data.{Members}
use Rattle.atl_tables.specs.Each.{conditions_on_each}
use Rattle.atl_tables.specs.Faults.{Conditions}
use Rattle.atl_tables.specs.KeyByKey.{TableReader, conditions_of, value_of, ◌>>=◌, value_only, as_one_condition, number_key, name_key, flag_key}
use Rattle.atl_tables.specs.Keys.{element_path}
use Rattle.atl_world.specs.Limits.{most_amount, most_price}
use Rattle.atl_tables.specs.OutputTable.{output_path, output_at, duplicate_key_at, known_key_at, amount_of}
use Rattle.atl_tables.specs.declared.world_draft.WorldDraft.{WorldDraft}
use Rattle.atl_tables.specs.declared.terrain_table.Economy.{Economy}
use Rattle.atl_tables.specs.declared.terrain_table.TerrainDraft.{TerrainDraft}
use Rattle.atl_world.specs.declared.world.Terrain.{Terrain}

-- reads the keys of a table `[[terrain]]` for wage, work places, and what a region's money and peasants grow to at most
unfoldable pub economy_at : TableReader Economy
economy_at = do
  wage ← number_key 1 most_price (codes "wage")
  places ← number_key 0 most_amount (codes "places")
  money_limit ← number_key 0 most_amount (codes "money_limit")
  peasant_limit ← number_key 0 most_amount (codes "peasant_limit")
  value_only (record { wage = wage; places = places; money_limit = money_limit; peasant_limit = peasant_limit })

-- reads all keys of a table `[[terrain]]`, in order: name, whether it is land, wage, work places and limits (as one
-- condition), and output (as another)
unfoldable pub terrain_at : TableReader TerrainDraft
terrain_at = do
  name ← name_key (codes "name")
  land ← flag_key (codes "land")
  economy ← as_one_condition economy_at
  output ← as_one_condition output_at
  value_only (record { name = name; land = land; economy = economy; output = output })

-- The conditions on the keys of the table `[[terrain]]` at a path, and on those of its `output`. Each has its type,
-- numbers are in their ranges, and `name` keeps the rule of names; none but `output` may be missing.
abbrev pub terrain_keys : List ℕ → Members → Conditions
terrain_keys = conditions_of terrain_at

-- the terrain that the table `[[terrain]]` at a path gives, with its output by names of items
abbrev pub terrain_from : List ℕ → Members → TerrainDraft
terrain_from = value_of terrain_at

-- the conditions that no two keys of the i-th terrain's output are equal, ignoring ASCII case; else the fault TwoNames
unfoldable pub duplicate_output_keys : ℕ → TerrainDraft → Conditions
duplicate_output_keys i d = conditions_on_each (duplicate_key_at (output_path (element_path (codes "terrain") i)) d.output) 0 d.output

-- the conditions that each key of the i-th terrain's output names an item, ignoring ASCII case; else UnknownName
unfoldable pub terrain_known : WorldDraft → ℕ → TerrainDraft → Conditions
terrain_known all i d = conditions_on_each (known_key_at all (output_path (element_path (codes "terrain") i))) 0 d.output

-- the terrain that a table `[[terrain]]` describes; its output has the amount (`amount_of`) of each item, by number
unfoldable pub terrain_of : WorldDraft → TerrainDraft → Terrain
terrain_of all d = record {
  name = d.name;
  land = d.land;
  wage = d.economy.wage;
  places = d.economy.places;
  money_limit = d.economy.money_limit;
  peasant_limit = d.economy.peasant_limit;
  output = map (λ item. amount_of d.output item.name) all.items;
}
