use Rattle.std.proofs.Common.{◌++◌, codes, refl}
use Rattle.toml.specs.Data.{Members}
use Rattle.toml.specs.View.{table_view}
use Rattle.atl_tables.specs.Arrays.{list_conditions}
use Rattle.atl_tables.specs.Faults.{Conditions}
use Rattle.atl_tables.specs.ItemTable.{item_keys}
use Rattle.atl_tables.specs.Keys.{optional_array_at}
use Rattle.atl_tables.specs.KindTable.{kind_keys}
use Rattle.atl_world.specs.Limits.{most_items, most_skills, most_kinds}
use Rattle.atl_tables.specs.SkillTable.{skill_keys}
use Rattle.atl_tables.specs.World.{optional_conditions, optional_tables_of}
use Rattle.atl_tables.proofs.FaultLaws.{gives_error, error_of_first_list_is_of_joined, error_of_second_list_is_of_joined, joined_list_has_no_fault}
use Rattle.atl_tables.proofs.reading.read_optional_tables.Goals as goal

abbrev item_key_conditions : Members → Conditions
item_key_conditions doc =
    list_conditions item_keys (codes "item") (optional_array_at most_items (codes "item") (codes "item") doc)

abbrev skill_key_conditions : Members → Conditions
skill_key_conditions doc =
    list_conditions skill_keys (codes "skill") (optional_array_at most_skills (codes "skill") (codes "skill") doc)

abbrev kind_key_conditions : Members → Conditions
kind_key_conditions doc =
    list_conditions kind_keys (codes "kind") (optional_array_at most_kinds (codes "kind") (codes "kind") doc)

pub returns-in_err-items-clause-value : goal.returns-in_err-items-clause-value
unfolding optional_conditions
returns-in_err-items-clause-value c =
    let t = table_view c.args.document.now in
    let e = c.in_err-items.field-0.0 in
    gives_error _ _ _ _ _ c.from_residual.ensures.1 (error_of_first_list_is_of_joined e (item_key_conditions t) (skill_key_conditions t ++ kind_key_conditions t) c.in_err-items.ensures.value)

pub returns-in_err-skills-clause-value : goal.returns-in_err-skills-clause-value
unfolding optional_conditions
returns-in_err-skills-clause-value c =
    let t = table_view c.args.document.now in
    let e = c.in_err-skills.field-0.0 in
    gives_error _ _ _ _ _ c.from_residual-in_err-skills.ensures.1 (error_of_second_list_is_of_joined e (item_key_conditions t) (skill_key_conditions t ++ kind_key_conditions t) c.in_ok-items.ensures.value.0 (error_of_first_list_is_of_joined e (skill_key_conditions t) (kind_key_conditions t) c.in_err-skills.ensures.value))

pub returns-in_err-kinds-clause-value : goal.returns-in_err-kinds-clause-value
unfolding optional_conditions
returns-in_err-kinds-clause-value c =
    let t = table_view c.args.document.now in
    let e = c.in_err-kinds.field-0.0 in
    gives_error _ _ _ _ _ c.from_residual-in_err-kinds.ensures.1 (error_of_second_list_is_of_joined e (item_key_conditions t) (skill_key_conditions t ++ kind_key_conditions t) c.in_ok-items.ensures.value.0 (error_of_second_list_is_of_joined e (skill_key_conditions t) (kind_key_conditions t) c.in_ok-skills.ensures.value.0 c.in_err-kinds.ensures.value))

pub returns-clause-value : goal.returns-clause-value
unfolding optional_conditions optional_tables_of
returns-clause-value c =
    let t = table_view c.args.document.now in
    rw (c.in_ok-items.ensures.value.1, c.in_ok-skills.ensures.value.1, c.in_ok-kinds.ensures.value.1) (joined_list_has_no_fault (item_key_conditions t) (skill_key_conditions t ++ kind_key_conditions t) c.in_ok-items.ensures.value.0 (joined_list_has_no_fault (skill_key_conditions t) (kind_key_conditions t) c.in_ok-skills.ensures.value.0 c.in_ok-kinds.ensures.value.0), refl)
