-- The condition that no two regions have the same number. `all` has the regions of the file as read, in order.
use Rattle.std.specs.Prelude.{ℕ, Bool, ◌==◌, List, [], ◌∷◌, take, codes, Some, None, if◌then◌else◌}
use Rattle.std.specs.List.{list_any}
use Rattle.atl_tables.specs.declared.fault.WorldFault.TheVariants.{TwoNames}
use Rattle.atl_tables.specs.declared.region_table.RegionDraft.{RegionDraft}
use Rattle.atl_tables.specs.Each.{conditions_on_each}
use Rattle.atl_tables.specs.Faults.{Conditions}
use Rattle.atl_tables.specs.Keys.{path, element_path}

-- whether some region of a list has the number n
abbrev pub some_region_has_number : ℕ → List RegionDraft → Bool
some_region_has_number n ds = list_any (λ d. n == d.basics.number) ds

-- the condition that no region before the i-th has the number of the i-th, d; else the fault TwoNames at its `number`
unfoldable pub duplicate_number_at : List RegionDraft → ℕ → RegionDraft → Conditions
duplicate_number_at all i d =
    (if some_region_has_number d.basics.number (take i all)
    then Some (TwoNames (path (element_path (codes "region") i) (codes "number")))
    else None)
    ∷ []

-- the conditions that no two regions of the file have the same number; else TwoNames
abbrev pub duplicate_numbers : List RegionDraft → Conditions
duplicate_numbers all = conditions_on_each (duplicate_number_at all) 0 all
