use Rattle.std.proofs.Common.{refl, ap}
use Rattle.atl_tables.specs.RegionTable.{old_region_from, region_keys, region_from}
use Rattle.atl_tables.specs.declared.region_table.OldRegion.{OldRegion}
use Rattle.atl_tables.proofs.FaultLaws.{gives_error, error_of_condition_is_of_list}
use Rattle.atl_tables.proofs.region_table.RegionDraftFromTable.read.Goals as goal

pub returns-in_err-basics-clause-value : goal.returns-in_err-basics-clause-value
unfolding region_keys region_from
returns-in_err-basics-clause-value c =
    gives_error _ _ _ _ _ c.from_residual.ensures.1
    (error_of_condition_is_of_list c.in_err-basics.field-0.0 _ _ c.in_err-basics.ensures.value)

pub returns-in_err-markets-clause-value : goal.returns-in_err-markets-clause-value
unfolding region_keys region_from
returns-in_err-markets-clause-value c =
    rw c.in_ok-basics.ensures.value.0
    (gives_error _ _ _ _ _ c.from_residual-in_err-markets.ensures.1 c.in_err-markets.ensures.value)

pub returns-clause-value : goal.returns-clause-value
unfolding region_keys region_from old_region_from
returns-clause-value c =
    let basics = ap (λ (r : OldRegion). r.basics) c.in_ok-basics.ensures.value.1 in
    let sides = ap (λ (r : OldRegion). r.sides) c.in_ok-basics.ensures.value.1 in
    rw (c.in_ok-basics.ensures.value.0, basics, sides, c.in_ok-markets.ensures.value.0, c.in_ok-markets.ensures.value.1) (refl, refl)
