-- The conditions on all elements of a list, in the order of the elements.
use Rattle.std.specs.Prelude.{ℕ, ◌+◌, List, [], ◌∷◌, ◌++◌}
use Rattle.atl_tables.specs.Faults.{Conditions}

-- the conditions that `conditions` gives for each element of a list and its index, in order; the first has the index i
abbrev pub conditions_on_each : {A : Type 0} → (ℕ → A → Conditions) → ℕ → List A → Conditions
conditions_on_each conditions i [] = []
conditions_on_each conditions i (x ∷ xs) = conditions i x ++ conditions_on_each conditions (i + 1) xs
