use Rattle.std.proofs.Common.{◌++◌, codes, refl}
use Rattle.toml.specs.Data.{Members}
use Rattle.toml.specs.View.{table_view}
use Rattle.atl_tables.specs.Arrays.{list_conditions}
use Rattle.atl_tables.specs.Faults.{Conditions}
use Rattle.atl_tables.specs.Keys.{array_at}
use Rattle.atl_world.specs.Limits.{most_terrains}
use Rattle.atl_tables.specs.RulesTable.{rules_conditions}
use Rattle.atl_tables.specs.TerrainTable.{terrain_keys}
use Rattle.atl_tables.specs.World.{optional_conditions, regions_conditions, keys_conditions, tables_of}
use Rattle.atl_world.specs.declared.format.Format.{Format}
use Rattle.atl_tables.proofs.FaultLaws.{gives_error, error_of_first_list_is_of_joined, error_of_second_list_is_of_joined, joined_list_has_no_fault}
use Rattle.atl_tables.proofs.reading.tables.Goals as goal

-- The conditions are checked list by list: a fault of a list is that of all lists joined, since the lists before it
-- have none.

abbrev rules_table_conditions : Members → Conditions
rules_table_conditions doc = rules_conditions doc

abbrev terrain_table_conditions : Members → Conditions
terrain_table_conditions doc =
    list_conditions terrain_keys (codes "terrain") (array_at most_terrains (codes "terrain") doc)

abbrev optional_table_conditions : Members → Conditions
optional_table_conditions doc = optional_conditions doc

abbrev region_table_conditions : Format → Members → Conditions
region_table_conditions format doc = regions_conditions format doc

pub returns-in_err-rules-clause-value : goal.returns-in_err-rules-clause-value
unfolding keys_conditions
returns-in_err-rules-clause-value c =
    let t = table_view c.args.document.now in
    let e = c.in_err-rules.field-0.0 in
    gives_error _ _ _ _ _ c.from_residual.ensures.1 (error_of_first_list_is_of_joined e (rules_table_conditions t) (terrain_table_conditions t ++ (optional_table_conditions t ++ region_table_conditions c.args.format t)) c.in_err-rules.ensures.value)

pub returns-in_err-terrains-clause-value : goal.returns-in_err-terrains-clause-value
unfolding keys_conditions
returns-in_err-terrains-clause-value c =
    let t = table_view c.args.document.now in
    let e = c.in_err-terrains.field-0.0 in
    gives_error _ _ _ _ _ c.from_residual-in_err-terrains.ensures.1 (error_of_second_list_is_of_joined e (rules_table_conditions t) (terrain_table_conditions t ++ (optional_table_conditions t ++ region_table_conditions c.args.format t)) c.in_ok-rules.ensures.value.0 (error_of_first_list_is_of_joined e (terrain_table_conditions t) (optional_table_conditions t ++ region_table_conditions c.args.format t) c.in_err-terrains.ensures.value))

pub returns-in_err-optional_tables-clause-value : goal.returns-in_err-optional_tables-clause-value
unfolding keys_conditions
returns-in_err-optional_tables-clause-value c =
    let t = table_view c.args.document.now in
    let e = c.in_err-optional_tables.field-0.0 in
    gives_error _ _ _ _ _ c.from_residual-in_err-optional_tables.ensures.1 (error_of_second_list_is_of_joined e (rules_table_conditions t) (terrain_table_conditions t ++ (optional_table_conditions t ++ region_table_conditions c.args.format t)) c.in_ok-rules.ensures.value.0 (error_of_second_list_is_of_joined e (terrain_table_conditions t) (optional_table_conditions t ++ region_table_conditions c.args.format t) c.in_ok-terrains.ensures.value.0 (error_of_first_list_is_of_joined e (optional_table_conditions t) (region_table_conditions c.args.format t) c.in_err-optional_tables.ensures.value)))

pub returns-in_err-regions-clause-value : goal.returns-in_err-regions-clause-value
unfolding keys_conditions
returns-in_err-regions-clause-value c =
    let t = table_view c.args.document.now in
    let e = c.in_err-regions.field-0.0 in
    gives_error _ _ _ _ _ c.from_residual-in_err-regions.ensures.1 (error_of_second_list_is_of_joined e (rules_table_conditions t) (terrain_table_conditions t ++ (optional_table_conditions t ++ region_table_conditions c.args.format t)) c.in_ok-rules.ensures.value.0 (error_of_second_list_is_of_joined e (terrain_table_conditions t) (optional_table_conditions t ++ region_table_conditions c.args.format t) c.in_ok-terrains.ensures.value.0 (error_of_second_list_is_of_joined e (optional_table_conditions t) (region_table_conditions c.args.format t) c.in_ok-optional_tables.ensures.value.0 c.in_err-regions.ensures.value)))

pub returns-clause-value : goal.returns-clause-value
unfolding keys_conditions tables_of
returns-clause-value c =
    let t = table_view c.args.document.now in
    rw (c.in_ok-rules.ensures.value.1, c.in_ok-terrains.ensures.value.1, c.in_ok-optional_tables.ensures.value.1, c.in_ok-regions.ensures.value.1) (joined_list_has_no_fault (rules_table_conditions t) (terrain_table_conditions t ++ (optional_table_conditions t ++ region_table_conditions c.args.format t)) c.in_ok-rules.ensures.value.0 (joined_list_has_no_fault (terrain_table_conditions t) (optional_table_conditions t ++ region_table_conditions c.args.format t) c.in_ok-terrains.ensures.value.0 (joined_list_has_no_fault (optional_table_conditions t) (region_table_conditions c.args.format t) c.in_ok-optional_tables.ensures.value.0 c.in_ok-regions.ensures.value.0)), refl)

pub returns-clause-sound : goal.returns-clause-sound
returns-clause-sound c = record {
  rules = c.in_ok-rules.ensures.sound;
  terrains = c.in_ok-terrains.ensures.sound;
  items = c.in_ok-optional_tables.ensures.sound.items;
  skills = c.in_ok-optional_tables.ensures.sound.skills;
  kinds = c.in_ok-optional_tables.ensures.sound.kinds;
  regions = c.in_ok-regions.ensures.sound;
  few_terrains = c.in_ok-terrains.ensures.most;
  few_items = c.in_ok-optional_tables.ensures.sound.few_items;
  few_skills = c.in_ok-optional_tables.ensures.sound.few_skills;
  few_kinds = c.in_ok-optional_tables.ensures.sound.few_kinds;
  few_regions = c.in_ok-regions.ensures.most;
}
