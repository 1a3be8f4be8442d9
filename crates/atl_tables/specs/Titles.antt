-- Unique names, and numbers (indices, from 0) of an array's elements by name. See docs/FORMATS.md, "The world file".
use Rattle.std.specs.Prelude.{ℕ, List, [], ◌∷◌, take, Option, Some, None, if◌then◌else◌}
use Rattle.std.specs.List.{list_any, position_from}
use Rattle.atl_tables.specs.declared.fault.WorldFault.{WorldFault}
use Rattle.atl_tables.specs.declared.fault.WorldFault.TheVariants.{TwoNames, UnknownName}
use Rattle.atl_tables.specs.declared.world_draft.WorldDraft.{WorldDraft}
use Rattle.atl_tables.specs.Each.{conditions_on_each}
use Rattle.atl_tables.specs.Faults.{Conditions}
use Rattle.atl_tables.specs.Keys.{path, element_path}
use Rattle.atl_world.specs.Names.{same_name}

-- `title` gives the name of an element, and `all` are the elements of an array
module _ {A : Type 0} (title : A → List ℕ) where
  -- The condition that no element before x, the i-th of the array at a path (the first text), has the name of x,
  -- ignoring ASCII case. Its fault is TwoNames at the path of the key of x's name (the second text).
  unfoldable pub no_duplicate_before : List ℕ → List ℕ → List A → ℕ → A → Conditions
  no_duplicate_before array key all i x =
      (if list_any (λ y. same_name (title y) (title x)) (take i all)
      then Some (TwoNames (path (element_path array i) key))
      else None)
      ∷ []

  -- the conditions that no two elements of the array at a path (the first text) have the same name, which is under a
  -- key (the second text), ignoring ASCII case; else TwoNames
  abbrev pub no_duplicates : List ℕ → List ℕ → List A → Conditions
  no_duplicates array key all = conditions_on_each (no_duplicate_before array key all) 0 all

  -- the number of the first element with a name, which is its index; None if there is none; ASCII case is ignored
  unfoldable pub number_of : List A → List ℕ → Option ℕ
  number_of all name = position_from (λ x. same_name (title x) name) 0 all

-- the number of the first terrain with a given name, ignoring ASCII case, None if there is no such terrain
abbrev pub terrain_number : WorldDraft → List ℕ → Option ℕ
terrain_number all name = number_of (λ d. d.name) all.terrains name

-- the number of the first item with a given name, ignoring ASCII case, None if there is no such item
abbrev pub item_number : WorldDraft → List ℕ → Option ℕ
item_number all name = number_of (λ d. d.name) all.items name

-- the number of the first skill with a given name, ignoring ASCII case, None if there is no such skill
abbrev pub skill_number : WorldDraft → List ℕ → Option ℕ
skill_number all name = number_of (λ s. s.name) all.skills name

-- the condition that a name was found, given its number (Some) or None; else the fault UnknownName at the path p
abbrev pub name_is_known : List ℕ → Option ℕ → Option WorldFault
name_is_known p None = Some (UnknownName p)
name_is_known p (Some n) = None

-- the condition that `number` finds the number of a name, if there is a name, else the fault UnknownName at the path p
abbrev pub optional_name_is_known : List ℕ → (List ℕ → Option ℕ) → Option (List ℕ) → Option WorldFault
optional_name_is_known p number None = None
optional_name_is_known p number (Some name) = name_is_known p (number name)
