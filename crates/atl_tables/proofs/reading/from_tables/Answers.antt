use Rattle.std.proofs.Common.{◌++◌}
use Rattle.atl_tables.specs.Faults.{Conditions}
use Rattle.atl_world.specs.Worlds.{land_of}
use Rattle.atl_tables.specs.World.{names_differ, names_are_known, neighbours_are_mutual, is_some_land, world_of_tables}
use Rattle.atl_tables.specs.declared.world_draft.WorldDraft.{WorldDraft}
use Rattle.atl_tables.proofs.FaultLaws.{gives_error, error_of_first_list_is_of_joined, error_of_second_list_is_of_joined, result_by_second_list_is_by_joined}
use Rattle.atl_tables.proofs.DuplicateLaws.{thing_names_differ}
use Rattle.atl_tables.proofs.reading.from_tables.Goals as goal

-- the conditions that count after those on names: mutual neighbours, and some land
abbrev later_conditions : WorldDraft → Conditions
later_conditions all = neighbours_are_mutual all ++ is_some_land (land_of (world_of_tables all))

pub returns-in_err-names_differ : goal.returns-in_err-names_differ
returns-in_err-names_differ c =
    let all = c.args.all in
    gives_error _ _ _ _ _ c.from_residual.ensures.1 (error_of_first_list_is_of_joined c.in_err-names_differ.field-0.0 (names_differ all) (names_are_known all ++ later_conditions all) c.in_err-names_differ.ensures)

pub returns-in_err-parts : goal.returns-in_err-parts
returns-in_err-parts c =
    let all = c.args.all in
    let e = c.in_err-parts.field-0.0 in
    gives_error _ _ _ _ _ c.from_residual-in_err-parts.ensures.1 (error_of_second_list_is_of_joined e (names_differ all) (names_are_known all ++ later_conditions all) c.in_ok-names_differ.ensures.0 (error_of_first_list_is_of_joined e (names_are_known all) (later_conditions all) c.in_err-parts.ensures.value))

pub returns : goal.returns
returns c =
    let all = c.args.all in
    result_by_second_list_is_by_joined (λ w. w) c.make_world.result (names_differ all) (names_are_known all ++ later_conditions all) (world_of_tables all) c.in_ok-names_differ.ensures.0
    (result_by_second_list_is_by_joined (λ w. w) c.make_world.result (names_are_known all) (later_conditions all) (world_of_tables all) c.in_ok-parts.ensures.value.0 c.make_world.ensures)

pub make_world-requires-clause-names : goal.make_world-requires-clause-names
make_world-requires-clause-names c = thing_names_differ c.args.all c.in_ok-names_differ.ensures.0
