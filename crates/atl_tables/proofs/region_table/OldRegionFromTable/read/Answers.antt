use Rattle.std.proofs.Common.{refl}
use Rattle.atl_tables.specs.RegionTable.{old_region_keys, old_region_from}
use Rattle.atl_tables.proofs.FaultLaws.{gives_error, error_of_condition_is_of_list}
use Rattle.atl_tables.proofs.region_table.OldRegionFromTable.read.Goals as goal

pub returns-in_err-basics-clause-value : goal.returns-in_err-basics-clause-value
unfolding old_region_keys old_region_from
returns-in_err-basics-clause-value c =
    gives_error _ _ _ _ _ c.from_residual.ensures.1
    (error_of_condition_is_of_list c.in_err-basics.field-0.0 _ _ c.in_err-basics.ensures.value)

pub returns-in_err-sides-clause-value : goal.returns-in_err-sides-clause-value
unfolding old_region_keys old_region_from
returns-in_err-sides-clause-value c =
    rw c.in_ok-basics.ensures.value.0
    (gives_error _ _ _ _ _ c.from_residual-in_err-sides.ensures.1 c.in_err-sides.ensures)

pub returns-clause-value : goal.returns-clause-value
unfolding old_region_keys old_region_from
returns-clause-value c =
    rw
    (c.in_ok-basics.ensures.value.0, c.in_ok-basics.ensures.value.1, c.in_ok-sides.ensures.0, c.in_ok-sides.ensures.1)
    (refl, refl)
