use Rattle.std.proofs.Common.{◌++◌, refl}
use Rattle.atl_tables.specs.Each.{conditions_on_each}
use Rattle.atl_tables.specs.Faults.{Conditions}
use Rattle.atl_tables.specs.ItemTable.{item_known}
use Rattle.atl_tables.specs.KindTable.{kind_known}
use Rattle.atl_tables.specs.RegionTable.{region_known}
use Rattle.atl_tables.specs.RulesTable.{rules_known}
use Rattle.atl_tables.specs.TerrainTable.{terrain_known}
use Rattle.atl_tables.specs.World.{names_are_known}
use Rattle.atl_tables.specs.declared.world_draft.WorldDraft.{WorldDraft}
use Rattle.atl_tables.proofs.FaultLaws.{gives_error, error_of_first_list_is_of_joined, error_of_second_list_is_of_joined, joined_list_has_no_fault}
use Rattle.atl_tables.proofs.reading.resolve.Goals as goal

-- The conditions are checked list by list: a fault of a list is that of all lists joined, since the lists before it
-- have none.

abbrev rules_lookup_conditions : WorldDraft → Conditions
rules_lookup_conditions all = rules_known all

abbrev terrain_lookup_conditions : WorldDraft → Conditions
terrain_lookup_conditions all = conditions_on_each (terrain_known all) 0 all.terrains

abbrev item_lookup_conditions : WorldDraft → Conditions
item_lookup_conditions all = conditions_on_each (item_known all) 0 all.items

abbrev kind_lookup_conditions : WorldDraft → Conditions
kind_lookup_conditions all = conditions_on_each (kind_known all) 0 all.kinds

abbrev region_lookup_conditions : WorldDraft → Conditions
region_lookup_conditions all = conditions_on_each (region_known all) 0 all.regions

pub returns-in_err-rules-clause-value : goal.returns-in_err-rules-clause-value
unfolding names_are_known
returns-in_err-rules-clause-value c =
    let t = c.args.all.now in
    let e = c.in_err-rules.field-0.0 in
    gives_error _ _ _ _ _ c.from_residual.ensures.1 (error_of_first_list_is_of_joined e (rules_lookup_conditions t) (terrain_lookup_conditions t ++ (item_lookup_conditions t ++ (kind_lookup_conditions t ++ region_lookup_conditions t))) c.in_err-rules.ensures.value)

pub returns-in_err-terrains-clause-value : goal.returns-in_err-terrains-clause-value
unfolding names_are_known
returns-in_err-terrains-clause-value c =
    let t = c.args.all.now in
    let e = c.in_err-terrains.field-0.0 in
    gives_error _ _ _ _ _ c.from_residual-in_err-terrains.ensures.1 (error_of_second_list_is_of_joined e (rules_lookup_conditions t) (terrain_lookup_conditions t ++ (item_lookup_conditions t ++ (kind_lookup_conditions t ++ region_lookup_conditions t))) c.in_ok-rules.ensures.value.0 (error_of_first_list_is_of_joined e (terrain_lookup_conditions t) (item_lookup_conditions t ++ (kind_lookup_conditions t ++ region_lookup_conditions t)) (rw c.as_slice.ensures at c.in_err-terrains.ensures.value)))

pub returns-in_err-items-clause-value : goal.returns-in_err-items-clause-value
unfolding names_are_known
returns-in_err-items-clause-value c =
    let t = c.args.all.now in
    let e = c.in_err-items.field-0.0 in
    gives_error _ _ _ _ _ c.from_residual-in_err-items.ensures.1 (error_of_second_list_is_of_joined e (rules_lookup_conditions t) (terrain_lookup_conditions t ++ (item_lookup_conditions t ++ (kind_lookup_conditions t ++ region_lookup_conditions t))) c.in_ok-rules.ensures.value.0 (error_of_second_list_is_of_joined e (terrain_lookup_conditions t) (item_lookup_conditions t ++ (kind_lookup_conditions t ++ region_lookup_conditions t)) (rw c.as_slice.ensures at c.in_ok-terrains.ensures.value.0) (error_of_first_list_is_of_joined e (item_lookup_conditions t) (kind_lookup_conditions t ++ region_lookup_conditions t) (rw c.as_slice-2.ensures at c.in_err-items.ensures.value))))

pub returns-in_err-kinds-clause-value : goal.returns-in_err-kinds-clause-value
unfolding names_are_known
returns-in_err-kinds-clause-value c =
    let t = c.args.all.now in
    let e = c.in_err-kinds.field-0.0 in
    gives_error _ _ _ _ _ c.from_residual-in_err-kinds.ensures.1 (error_of_second_list_is_of_joined e (rules_lookup_conditions t) (terrain_lookup_conditions t ++ (item_lookup_conditions t ++ (kind_lookup_conditions t ++ region_lookup_conditions t))) c.in_ok-rules.ensures.value.0 (error_of_second_list_is_of_joined e (terrain_lookup_conditions t) (item_lookup_conditions t ++ (kind_lookup_conditions t ++ region_lookup_conditions t)) (rw c.as_slice.ensures at c.in_ok-terrains.ensures.value.0) (error_of_second_list_is_of_joined e (item_lookup_conditions t) (kind_lookup_conditions t ++ region_lookup_conditions t) (rw c.as_slice-2.ensures at c.in_ok-items.ensures.value.0) (error_of_first_list_is_of_joined e (kind_lookup_conditions t) (region_lookup_conditions t) (rw c.as_slice-3.ensures at c.in_err-kinds.ensures.value)))))

pub returns-in_err-regions-clause-value : goal.returns-in_err-regions-clause-value
unfolding names_are_known
returns-in_err-regions-clause-value c =
    let t = c.args.all.now in
    let e = c.in_err-regions.field-0.0 in
    gives_error _ _ _ _ _ c.from_residual-in_err-regions.ensures.1 (error_of_second_list_is_of_joined e (rules_lookup_conditions t) (terrain_lookup_conditions t ++ (item_lookup_conditions t ++ (kind_lookup_conditions t ++ region_lookup_conditions t))) c.in_ok-rules.ensures.value.0 (error_of_second_list_is_of_joined e (terrain_lookup_conditions t) (item_lookup_conditions t ++ (kind_lookup_conditions t ++ region_lookup_conditions t)) (rw c.as_slice.ensures at c.in_ok-terrains.ensures.value.0) (error_of_second_list_is_of_joined e (item_lookup_conditions t) (kind_lookup_conditions t ++ region_lookup_conditions t) (rw c.as_slice-2.ensures at c.in_ok-items.ensures.value.0) (error_of_second_list_is_of_joined e (kind_lookup_conditions t) (region_lookup_conditions t) (rw c.as_slice-3.ensures at c.in_ok-kinds.ensures.value.0) (rw c.as_slice-4.ensures at c.in_err-regions.ensures.value)))))

pub returns-clause-value : goal.returns-clause-value
unfolding names_are_known
returns-clause-value c =
    let t = c.args.all.now in
    let none = (joined_list_has_no_fault (rules_lookup_conditions t) (terrain_lookup_conditions t ++ (item_lookup_conditions t ++ (kind_lookup_conditions t ++ region_lookup_conditions t))) c.in_ok-rules.ensures.value.0 (joined_list_has_no_fault (terrain_lookup_conditions t) (item_lookup_conditions t ++ (kind_lookup_conditions t ++ region_lookup_conditions t)) (rw c.as_slice.ensures at c.in_ok-terrains.ensures.value.0) (joined_list_has_no_fault (item_lookup_conditions t) (kind_lookup_conditions t ++ region_lookup_conditions t) (rw c.as_slice-2.ensures at c.in_ok-items.ensures.value.0) (joined_list_has_no_fault (kind_lookup_conditions t) (region_lookup_conditions t) (rw c.as_slice-3.ensures at c.in_ok-kinds.ensures.value.0) (rw c.as_slice-4.ensures at c.in_ok-regions.ensures.value.0))))) in
    rw (c.in_ok-rules.ensures.value.1, (rw c.as_slice.ensures at c.in_ok-terrains.ensures.value.1), (rw c.as_slice-2.ensures at c.in_ok-items.ensures.value.1), (rw c.as_slice-3.ensures at c.in_ok-kinds.ensures.value.1), (rw c.as_slice-4.ensures at c.in_ok-regions.ensures.value.1)) (none, refl)
