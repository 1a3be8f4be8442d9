-- Arrays of tables of the world file: the conditions on their elements, and the list of values that they give. `key` is
-- the path of an array, and `at` that of an element, d. `conditions` gives the conditions on a table by its path and
-- members, `record_of` its value.
use Rattle.std.specs.Prelude.{ℕ, ◌+◌, List, [], ◌∷◌, ◌++◌, Result}
use Rattle.toml.specs.Data.{Data, Items, no_items, item, Members, no_members, as_table}
use Rattle.atl_tables.specs.Faults.{Conditions, fault_of, value_or}
use Rattle.atl_tables.specs.Keys.{value_or_wrong_type, element_path}
use Rattle.atl_tables.specs.declared.fault.WorldFault.{WorldFault}

-- the table that an element of an array is, or the empty table if it is no table
abbrev pub element_table : List ℕ → Data → Members
element_table at d = value_or no_members (value_or_wrong_type at (as_table d))

-- the conditions on an element of an array: it is a table, else WrongType; then those on this table, or on an empty one
abbrev pub element_conditions : (List ℕ → Members → Conditions) → List ℕ → Data → Conditions
element_conditions conditions at d = fault_of (value_or_wrong_type at (as_table d)) ∷ conditions at (element_table at d)

-- the conditions on elements of an array, in their order (`element_conditions`); the first has the index i
abbrev pub elements_conditions : (List ℕ → Members → Conditions) → List ℕ → ℕ → Items → Conditions
elements_conditions conditions key i no_items = []
elements_conditions conditions key i (item d ds) =
    element_conditions conditions (element_path key i) d
    ++ elements_conditions conditions key (i + 1) ds

-- the values of elements of an array, each by its path and its table (`element_table`); the first has the index i
abbrev pub elements_of : {A : Type 0} → (List ℕ → Members → A) → List ℕ → ℕ → Items → List A
elements_of record_of key i no_items = []
elements_of record_of key i (item d ds) =
    record_of (element_path key i) (element_table (element_path key i) d)
    ∷ elements_of record_of key (i + 1) ds

-- The conditions on an array, given the result of reading its key: the result is no fault, and then those on each
-- element. Where the result is a fault, there are no elements.
unfoldable pub list_conditions : (List ℕ → Members → Conditions) → List ℕ → Result Items WorldFault → Conditions
list_conditions conditions key items = fault_of items ∷ elements_conditions conditions key 0 (value_or no_items items)

-- the list of the values of an array's elements (`elements_of`), empty if reading its key gave a fault
unfoldable pub list_of : {A : Type 0} → (List ℕ → Members → A) → List ℕ → Result Items WorldFault → List A
list_of record_of key items = elements_of record_of key 0 (value_or no_items items)
