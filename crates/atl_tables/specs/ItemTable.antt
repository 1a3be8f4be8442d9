-- A table `[[item]]` of the world file: its keys in order, with their ranges, and the item that they give.
-- See docs/FORMATS.md, "The world file". A key with a fault gives a default value (`one_key`).
-- `all` has all tables of the file as read, and d is the i-th table `[[item]]`. The rule of names is `name_ok`.
use Rattle.std.specs.Prelude.{ℕ, ◌==◌, if◌then◌else◌, List, [], ◌∷◌, codes, Option, Some, None, option_and_then}
use Rattle.toml.specs.Data.{Members}
use Rattle.atl_tables.specs.Faults.{Conditions}
use Rattle.atl_tables.specs.KeyByKey.{TableReader, conditions_of, value_of, ◌>>=◌, value_only, as_one_condition, number_key, number_or_key, name_key, optional_text_key}
use Rattle.atl_tables.specs.Keys.{path, element_path}
use Rattle.atl_world.specs.Limits.{most_weight, last_level, most_raw_count}
use Rattle.atl_tables.specs.Titles.{optional_name_is_known, skill_number, item_number}
use Rattle.atl_tables.specs.declared.item_table.ItemDraft.{ItemDraft}
use Rattle.atl_tables.specs.declared.item_table.Recipe.{Recipe}
use Rattle.atl_tables.specs.declared.world_draft.WorldDraft.{WorldDraft}
use Rattle.atl_world.specs.declared.world.Item.{Item}

-- reads the keys of a table `[[item]]` for what making an item takes: skill, level, raw item and its count. Each may be
-- missing; skill and raw item are None then, level and count 1.
unfoldable pub making_at : TableReader Recipe
making_at = do
  skill ← optional_text_key (codes "skill")
  level ← number_or_key 1 1 last_level (codes "level")
  raw ← optional_text_key (codes "raw")
  raw_count ← number_or_key 1 1 most_raw_count (codes "raw_count")
  value_only (record { skill = skill; level = level; raw = raw; raw_count = raw_count })

-- reads all keys of a table `[[item]]`, in order: name, weight, what it carries, what making takes (as one condition)
unfoldable pub item_at : TableReader ItemDraft
item_at = do
  name ← name_key (codes "name")
  weight ← number_key 0 most_weight (codes "weight")
  carry ← number_key 0 most_weight (codes "carry")
  making ← as_one_condition making_at
  value_only (record { name = name; weight = weight; carry = carry; making = making })

-- The conditions on the keys of the table `[[item]]` at a path. Each has its type, numbers are in their ranges, and
-- `name` keeps the rule of names; none but `skill`, `level`, `raw` and `raw_count` may be missing.
abbrev pub item_keys : List ℕ → Members → Conditions
item_keys = conditions_of item_at

-- the item that the table `[[item]]` at a path gives, with its skill and its raw item by name
abbrev pub item_from : List ℕ → Members → ItemDraft
item_from = value_of item_at

-- `other_than i number` is `number`, but None if it is Some i, since the i-th item isn't made of itself
abbrev pub other_than : ℕ → Option ℕ → Option ℕ
other_than i None = None
other_than i (Some n) = if n == i then None else Some n

-- the conditions that `skill` and `raw` of the i-th item, if there, name a skill and another item, ignoring ASCII case;
-- else UnknownName
unfoldable pub item_known : WorldDraft → ℕ → ItemDraft → Conditions
item_known all i d =
    optional_name_is_known (path (element_path (codes "item") i) (codes "skill")) (skill_number all) d.making.skill
    ∷ optional_name_is_known (path (element_path (codes "item") i) (codes "raw"))
    (λ name. other_than i (item_number all name)) d.making.raw
    ∷ []

-- the item that a table `[[item]]` describes, with skill and raw item by number, None for a missing or an unknown name
unfoldable pub item_of : WorldDraft → ItemDraft → Item
item_of all d = record {
  name = d.name;
  weight = d.weight;
  carry = d.carry;
  skill = option_and_then (skill_number all) d.making.skill;
  level = d.making.level;
  raw = option_and_then (item_number all) d.making.raw;
  raw_count = d.making.raw_count;
}
