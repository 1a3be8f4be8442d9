use Rattle.std.proofs.Common.{◌++◌}
use Rattle.atl_tables.specs.Each.{conditions_on_each}
use Rattle.atl_tables.specs.Faults.{Conditions}
use Rattle.atl_tables.specs.RegionTable.{duplicate_market_items}
use Rattle.atl_tables.specs.Regions.{duplicate_numbers}
use Rattle.atl_tables.specs.TerrainTable.{duplicate_output_keys}
use Rattle.atl_tables.specs.World.{titles_differ, names_differ}
use Rattle.atl_tables.specs.declared.world_draft.WorldDraft.{WorldDraft}
use Rattle.atl_tables.proofs.FaultLaws.{gives_error, error_of_first_list_is_of_joined, error_of_second_list_is_of_joined, result_by_second_list_is_by_joined}
use Rattle.atl_tables.proofs.reading.names_differ.Goals as goal

abbrev region_number_conditions : WorldDraft → Conditions
region_number_conditions all = duplicate_numbers all.regions

abbrev output_key_conditions : WorldDraft → Conditions
output_key_conditions all = conditions_on_each duplicate_output_keys 0 all.terrains

abbrev market_item_conditions : WorldDraft → Conditions
market_item_conditions all = conditions_on_each duplicate_market_items 0 all.regions

pub returns-in_err-titles_differ : goal.returns-in_err-titles_differ
unfolding names_differ
returns-in_err-titles_differ c =
    let t = c.args.all.now in
    let e = c.in_err-titles_differ.field-0.0 in
    gives_error _ _ _ _ _ c.from_residual.ensures.1 (error_of_first_list_is_of_joined e (titles_differ t) (region_number_conditions t ++ (output_key_conditions t ++ market_item_conditions t)) c.in_err-titles_differ.ensures)

pub returns-in_err-no_duplicate_numbers : goal.returns-in_err-no_duplicate_numbers
unfolding names_differ
returns-in_err-no_duplicate_numbers c =
    let t = c.args.all.now in
    let e = c.in_err-no_duplicate_numbers.field-0.0 in
    gives_error _ _ _ _ _ c.from_residual-in_err-no_duplicate_numbers.ensures.1 (error_of_second_list_is_of_joined e (titles_differ t) (region_number_conditions t ++ (output_key_conditions t ++ market_item_conditions t)) c.in_ok-titles_differ.ensures.0 (error_of_first_list_is_of_joined e (region_number_conditions t) (output_key_conditions t ++ market_item_conditions t) (rw c.as_slice.ensures at c.in_err-no_duplicate_numbers.ensures)))

pub returns-in_err-no_duplicates_inside : goal.returns-in_err-no_duplicates_inside
unfolding names_differ
returns-in_err-no_duplicates_inside c =
    let t = c.args.all.now in
    let e = c.in_err-no_duplicates_inside.field-0.0 in
    gives_error _ _ _ _ _ c.from_residual-in_err-no_duplicates_inside.ensures.1 (error_of_second_list_is_of_joined e (titles_differ t) (region_number_conditions t ++ (output_key_conditions t ++ market_item_conditions t)) c.in_ok-titles_differ.ensures.0 (error_of_second_list_is_of_joined e (region_number_conditions t) (output_key_conditions t ++ market_item_conditions t) (rw c.as_slice.ensures at c.in_ok-no_duplicate_numbers.ensures.0) (error_of_first_list_is_of_joined e (output_key_conditions t) (market_item_conditions t) (rw c.as_slice-2.ensures at c.in_err-no_duplicates_inside.ensures))))

pub returns : goal.returns
unfolding names_differ
returns c =
    let t = c.args.all.now in
    result_by_second_list_is_by_joined (λ u. u) c.no_duplicates_inside-2.result (titles_differ t) (region_number_conditions t ++ (output_key_conditions t ++ market_item_conditions t)) (tt {0}) c.in_ok-titles_differ.ensures.0
    (result_by_second_list_is_by_joined (λ u. u) c.no_duplicates_inside-2.result (region_number_conditions t) (output_key_conditions t ++ market_item_conditions t) (tt {0}) (rw c.as_slice.ensures at c.in_ok-no_duplicate_numbers.ensures.0)
    (result_by_second_list_is_by_joined (λ u. u) c.no_duplicates_inside-2.result (output_key_conditions t) (market_item_conditions t) (tt {0}) (rw c.as_slice-2.ensures at c.in_ok-no_duplicates_inside.ensures.0) (rw c.as_slice-3.ensures at c.no_duplicates_inside-2.ensures)))
