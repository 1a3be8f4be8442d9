-- A table `[[kind]]` of the world file: its keys in order, with their ranges, and the kind that they give.
-- See docs/FORMATS.md, "The world file". A key with a fault gives a default value (`one_key`).
-- `all` has all tables of the file as read, and d is the i-th table `[[kind]]`. The rule of names is `name_ok`.
use Rattle.std.specs.Prelude.{ℕ, List, [], ◌∷◌, codes, unwrap_or, option_and_then}
use Rattle.toml.specs.Data.{Members}
use Rattle.atl_tables.specs.Faults.{Conditions}
use Rattle.atl_tables.specs.KeyByKey.{TableReader, conditions_of, value_of, ◌>>=◌, value_only, as_one_condition, number_key, number_or_key, name_key, text_key, optional_text_key, flag_key}
use Rattle.atl_tables.specs.Keys.{path, element_path}
use Rattle.atl_world.specs.Limits.{most_amount, last_level, most_size}
use Rattle.atl_tables.specs.Titles.{name_is_known, optional_name_is_known, skill_number, item_number}
use Rattle.atl_tables.specs.declared.kind_table.BuildingNeeds.{BuildingNeeds}
use Rattle.atl_tables.specs.declared.kind_table.KindDraft.{KindDraft}
use Rattle.atl_tables.specs.declared.kind_table.Purpose.{Purpose}
use Rattle.atl_tables.specs.declared.world_draft.WorldDraft.{WorldDraft}
use Rattle.atl_world.specs.declared.world.Kind.{Kind}

-- reads the keys of a table `[[kind]]` for what building a structure takes: material, size, skill and level
unfoldable pub building_needs_at : TableReader BuildingNeeds
building_needs_at = do
  material ← text_key (codes "material")
  size ← number_key 1 most_size (codes "size")
  skill ← text_key (codes "skill")
  level ← number_key 1 last_level (codes "level")
  value_only (record { material = material; size = size; skill = skill; level = level })

-- reads the keys of a table `[[kind]]` for what a structure is good for: capacity, crew and the skill that it helps.
-- Each may be missing; capacity and crew are 0 then, and the skill is None.
unfoldable pub purpose_at : TableReader Purpose
purpose_at = do
  capacity ← number_or_key 0 0 most_amount (codes "capacity")
  crew ← number_or_key 0 0 most_size (codes "crew")
  helps ← optional_text_key (codes "helps")
  value_only (record { capacity = capacity; crew = crew; helps = helps })

-- reads all keys of a table `[[kind]]`, in order: name, whether it is a ship, what building takes (as one condition),
-- and what it is good for (as another)
unfoldable pub kind_at : TableReader KindDraft
kind_at = do
  name ← name_key (codes "name")
  ship ← flag_key (codes "ship")
  building ← as_one_condition building_needs_at
  purpose ← as_one_condition purpose_at
  value_only (record { name = name; ship = ship; building = building; purpose = purpose })

-- The conditions on the keys of the table `[[kind]]` at a path. Each has its type, numbers are in their ranges, and
-- `name` keeps the rule of names; none but `capacity`, `crew` and `helps` may be missing.
abbrev pub kind_keys : List ℕ → Members → Conditions
kind_keys = conditions_of kind_at

-- the kind of structure that the table `[[kind]]` at a path gives, with its material and skills by name
abbrev pub kind_from : List ℕ → Members → KindDraft
kind_from = value_of kind_at

-- the conditions on the names in the i-th kind: `material` names an item, `skill` a skill, and `helps`, if it is there,
-- a skill, ignoring ASCII case; else UnknownName
unfoldable pub kind_known : WorldDraft → ℕ → KindDraft → Conditions
kind_known all i d =
    name_is_known (path (element_path (codes "kind") i) (codes "material")) (item_number all d.building.material)
    ∷ name_is_known (path (element_path (codes "kind") i) (codes "skill")) (skill_number all d.building.skill)
    ∷ optional_name_is_known (path (element_path (codes "kind") i) (codes "helps")) (skill_number all) d.purpose.helps
    ∷ []

-- the kind of structure that a table `[[kind]]` describes, with its material and skills by number. For an unknown name
-- `material` and `skill` are 0; `helps` is None for a missing or an unknown one.
unfoldable pub kind_of : WorldDraft → KindDraft → Kind
kind_of all d = record {
  name = d.name;
  ship = d.ship;
  material = unwrap_or (item_number all d.building.material) 0;
  size = d.building.size;
  skill = unwrap_or (skill_number all d.building.skill) 0;
  level = d.building.level;
  capacity = d.purpose.capacity;
  crew = d.purpose.crew;
  helps = option_and_then (skill_number all) d.purpose.helps;
}
