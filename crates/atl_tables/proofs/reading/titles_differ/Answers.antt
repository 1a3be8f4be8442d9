use Rattle.std.proofs.Common.{◌++◌, codes}
use Rattle.atl_tables.specs.Faults.{Conditions}
use Rattle.atl_tables.specs.Titles.{no_duplicates}
use Rattle.atl_tables.specs.World.{titles_differ}
use Rattle.atl_tables.specs.declared.world_draft.WorldDraft.{WorldDraft}
use Rattle.atl_tables.proofs.FaultLaws.{gives_error, error_of_first_list_is_of_joined, error_of_second_list_is_of_joined, result_by_second_list_is_by_joined}
use Rattle.atl_tables.proofs.reading.titles_differ.Goals as goal

abbrev terrain_title_conditions : WorldDraft → Conditions
terrain_title_conditions all = no_duplicates (λ d. d.name) (codes "terrain") (codes "name") all.terrains

abbrev item_title_conditions : WorldDraft → Conditions
item_title_conditions all = no_duplicates (λ d. d.name) (codes "item") (codes "name") all.items

abbrev skill_title_conditions : WorldDraft → Conditions
skill_title_conditions all = no_duplicates (λ s. s.name) (codes "skill") (codes "name") all.skills

abbrev kind_title_conditions : WorldDraft → Conditions
kind_title_conditions all = no_duplicates (λ d. d.name) (codes "kind") (codes "name") all.kinds

pub returns-in_err-no_duplicate_names : goal.returns-in_err-no_duplicate_names
unfolding titles_differ
returns-in_err-no_duplicate_names c =
    let t = c.args.all.now in
    let e = c.in_err-no_duplicate_names.field-0.0 in
    gives_error _ _ _ _ _ c.from_residual.ensures.1 (error_of_first_list_is_of_joined e (terrain_title_conditions t) (item_title_conditions t ++ (skill_title_conditions t ++ kind_title_conditions t)) (rw c.as_slice.ensures at c.in_err-no_duplicate_names.ensures))

pub returns-in_err-no_duplicate_names-2 : goal.returns-in_err-no_duplicate_names-2
unfolding titles_differ
returns-in_err-no_duplicate_names-2 c =
    let t = c.args.all.now in
    let e = c.in_err-no_duplicate_names-2.field-0.0 in
    gives_error _ _ _ _ _ c.from_residual-in_err-no_duplicate_names-2.ensures.1 (error_of_second_list_is_of_joined e (terrain_title_conditions t) (item_title_conditions t ++ (skill_title_conditions t ++ kind_title_conditions t)) (rw c.as_slice.ensures at c.in_ok-no_duplicate_names.ensures.0) (error_of_first_list_is_of_joined e (item_title_conditions t) (skill_title_conditions t ++ kind_title_conditions t) (rw c.as_slice-2.ensures at c.in_err-no_duplicate_names-2.ensures)))

pub returns-in_err-no_duplicate_names-3 : goal.returns-in_err-no_duplicate_names-3
unfolding titles_differ
returns-in_err-no_duplicate_names-3 c =
    let t = c.args.all.now in
    let e = c.in_err-no_duplicate_names-3.field-0.0 in
    gives_error _ _ _ _ _ c.from_residual-in_err-no_duplicate_names-3.ensures.1 (error_of_second_list_is_of_joined e (terrain_title_conditions t) (item_title_conditions t ++ (skill_title_conditions t ++ kind_title_conditions t)) (rw c.as_slice.ensures at c.in_ok-no_duplicate_names.ensures.0) (error_of_second_list_is_of_joined e (item_title_conditions t) (skill_title_conditions t ++ kind_title_conditions t) (rw c.as_slice-2.ensures at c.in_ok-no_duplicate_names-2.ensures.0) (error_of_first_list_is_of_joined e (skill_title_conditions t) (kind_title_conditions t) (rw c.as_slice-3.ensures at c.in_err-no_duplicate_names-3.ensures))))

pub returns : goal.returns
unfolding titles_differ
returns c =
    let t = c.args.all.now in
    result_by_second_list_is_by_joined (λ u. u) c.no_duplicate_names-4.result (terrain_title_conditions t) (item_title_conditions t ++ (skill_title_conditions t ++ kind_title_conditions t)) (tt {0}) (rw c.as_slice.ensures at c.in_ok-no_duplicate_names.ensures.0)
    (result_by_second_list_is_by_joined (λ u. u) c.no_duplicate_names-4.result (item_title_conditions t) (skill_title_conditions t ++ kind_title_conditions t) (tt {0}) (rw c.as_slice-2.ensures at c.in_ok-no_duplicate_names-2.ensures.0)
    (result_by_second_list_is_by_joined (λ u. u) c.no_duplicate_names-4.result (skill_title_conditions t) (kind_title_conditions t) (tt {0}) (rw c.as_slice-3.ensures at c.in_ok-no_duplicate_names-3.ensures.0) (rw c.as_slice-4.ensures at c.no_duplicate_names-4.ensures)))
