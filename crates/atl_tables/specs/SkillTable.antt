-- A table `[[skill]]` of the world file: its keys in order, with their ranges, and the skill that they give.
-- See docs/FORMATS.md, "The world file". A faulty key gives a default value (`one_key`). The rule of names: `name_ok`.
use Rattle.std.specs.Prelude.{ℕ, List, codes}
use Rattle.toml.specs.Data.{Members}
use Rattle.atl_tables.specs.Faults.{Conditions}
use Rattle.atl_tables.specs.KeyByKey.{TableReader, conditions_of, value_of, ◌>>=◌, value_only, number_key, name_key}
use Rattle.atl_world.specs.Limits.{most_price}
use Rattle.atl_world.specs.declared.world.Skill.{Skill}

-- reads all keys of a table `[[skill]]`, in order: name and fee
unfoldable pub skill_at : TableReader Skill
skill_at = do
  name ← name_key (codes "name")
  fee ← number_key 0 most_price (codes "fee")
  value_only (record { name = name; fee = fee })

-- the conditions on the table `[[skill]]` at a path: it has a `name` by the rule of names, and a `fee` up to most_price
abbrev pub skill_keys : List ℕ → Members → Conditions
skill_keys = conditions_of skill_at

-- the skill that the table `[[skill]]` at a path gives
abbrev pub skill_from : List ℕ → Members → Skill
skill_from = value_of skill_at
