-- The table `output` of a terrain. An entry is a key, the name of an item, with the amount that a region gives a month.
-- See docs/FORMATS.md, "The world file". A key with a fault gives a default value (`value_or`).
-- `all` has all tables of the file as read, or all entries of the output, and o is the i-th entry.
use Rattle.std.specs.Prelude.{ℕ, List, [], ◌∷◌, map, codes, take, if◌then◌else◌, Some, None, Result}
use Rattle.std.specs.List.{find, list_any}
use Rattle.std.specs.Option.{option_map_or}
use Rattle.std.specs.Ordering.{nat_cmp, is_lt}
use Rattle.std.specs.Cmp.Lexicographic.{slice_cmp}
use Rattle.toml.specs.Data.{Data, Members, no_members, member, as_integer}
use Rattle.atl_tables.specs.Faults.{Conditions, fault_of, value_or}
use Rattle.atl_tables.specs.KeyByKey.{TableReader}
use Rattle.atl_tables.specs.Keys.{path, integer_in_range, optional_table_at}
use Rattle.atl_world.specs.Limits.{most_amount}
use Rattle.atl_tables.specs.Titles.{name_is_known, item_number}
use Rattle.atl_world.specs.Names.{same_name}
use Rattle.atl_tables.specs.declared.fault.WorldFault.{WorldFault}
use Rattle.atl_tables.specs.declared.fault.WorldFault.TheVariants.{TwoNames}
use Rattle.atl_tables.specs.declared.output_table.Output.{Output}
use Rattle.atl_tables.specs.declared.world_draft.WorldDraft.{WorldDraft}

-- entries sorted by key, with `key` and its value d put in before the first greater key, or at the end without one
abbrev pub put_key : List ℕ → Data → List (List ℕ × Data) → List (List ℕ × Data)
put_key key d [] = (key, d) ∷ []
put_key key d (e ∷ es) = if is_lt (slice_cmp nat_cmp key e.0) then (key, d) ∷ e ∷ es else e ∷ put_key key d es

-- the entries of a table, each a key and the value under it, in the byte order of the keys
unfoldable pub in_byte_order : Members → List (List ℕ × Data)
in_byte_order no_members = []
in_byte_order (member key d ms) = put_key key d (in_byte_order ms)

-- the amount under a key of the table `output` at a path, from 0 to most_amount; else the fault WrongType or OutOfRange
abbrev pub amount_at : List ℕ → List ℕ × Data → Result ℕ WorldFault
amount_at at (key, d) = integer_in_range (path at key) 0 most_amount (as_integer d)

-- the conditions that the amount of each entry of the table `output` at a path is a number from 0 to most_amount
abbrev pub amounts_keys : List ℕ → List (List ℕ × Data) → Conditions
amounts_keys at es = map (λ e. fault_of (amount_at at e)) es

-- what each entry of the table `output` at a path gives: the item, by its name, and its amount, 0 if that has a fault
abbrev pub amounts_from : List ℕ → List (List ℕ × Data) → List Output
amounts_from at es = map (λ e. record { item = e.0; amount = value_or 0 (amount_at at e) }) es

-- the path of the output of the terrain at a path, as `terrain[0].output`
abbrev pub output_path : List ℕ → List ℕ
output_path at = path at (codes "output")

-- the table `output` in the table of the terrain at a path, empty if it is missing or no table
abbrev pub output_table : List ℕ → Members → Members
output_table at t = value_or no_members (optional_table_at (codes "output") at t)

-- reads the table `output` of a terrain, empty if missing, in byte order of its keys; amounts are from 0 to most_amount
unfoldable pub output_at : TableReader (List Output)
output_at = λ at t. record {
  conditions = fault_of (optional_table_at (codes "output") at t)
      ∷ amounts_keys (output_path at) (in_byte_order (output_table at t));
  value = amounts_from (output_path at) (in_byte_order (output_table at t));
}

-- the condition that no key of the output at a path before the i-th equals the i-th, ignoring ASCII case; else TwoNames
unfoldable pub duplicate_key_at : List ℕ → List Output → ℕ → Output → Conditions
duplicate_key_at at all i o =
    (if list_any (λ p. same_name p.item o.item) (take i all) then Some (TwoNames (path at o.item)) else None) ∷ []

-- the condition that a key of the output at a path names an item, ignoring ASCII case; else the fault UnknownName
unfoldable pub known_key_at : WorldDraft → List ℕ → ℕ → Output → Conditions
known_key_at all at i o = name_is_known (path at o.item) (item_number all o.item) ∷ []

-- how much of the item with a given name an output gives in a month: the amount of the first key that names the item,
-- ignoring ASCII case, 0 if none does
unfoldable pub amount_of : List Output → List ℕ → ℕ
amount_of outputs item = option_map_or (λ o. o.amount) (find (λ o. same_name o.item item) outputs) 0
