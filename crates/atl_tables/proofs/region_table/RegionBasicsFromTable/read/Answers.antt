use Rattle.std.proofs.Common.{refl}
use Rattle.atl_tables.specs.RegionTable.{basics_keys, basics_from}
use Rattle.atl_tables.proofs.FaultLaws.{gives_error, stops_first}
use Rattle.atl_tables.proofs.region_table.RegionBasicsFromTable.read.Goals as goal

pub returns-in_err-number-clause-value : goal.returns-in_err-number-clause-value
unfolding basics_keys basics_from
returns-in_err-number-clause-value c =
    gives_error _ _ _ _ _ c.from_residual.ensures.1
    (stops_first (λ x. x) c.in_err-number.field-0.0 _ _ c.in_err-number.ensures.value)

pub returns-in_err-name-clause-value : goal.returns-in_err-name-clause-value
unfolding basics_keys basics_from
returns-in_err-name-clause-value c =
    rw c.in_ok-number.ensures.value (gives_error _ _ _ _ _ c.from_residual-in_err-name.ensures.1 (stops_first (λ x. x) c.in_err-name.field-0.0 _ _ c.in_err-name.ensures.value))

pub returns-in_err-terrain-clause-value : goal.returns-in_err-terrain-clause-value
unfolding basics_keys basics_from
returns-in_err-terrain-clause-value c =
    rw (c.in_ok-number.ensures.value, c.in_ok-name.ensures.value) (gives_error _ _ _ _ _ c.from_residual-in_err-terrain.ensures.1 (stops_first (λ x. x) c.in_err-terrain.field-0.0 _ _ c.in_err-terrain.ensures))

pub returns-in_err-peasants-clause-value : goal.returns-in_err-peasants-clause-value
unfolding basics_keys basics_from
returns-in_err-peasants-clause-value c =
    rw (c.in_ok-number.ensures.value, c.in_ok-name.ensures.value, c.in_ok-terrain.ensures) (gives_error _ _ _ _ _ c.from_residual-in_err-peasants.ensures.1 (stops_first (λ x. x) c.in_err-peasants.field-0.0 _ _ c.in_err-peasants.ensures.value))

pub returns-in_err-money-clause-value : goal.returns-in_err-money-clause-value
unfolding basics_keys basics_from
returns-in_err-money-clause-value c =
    rw (c.in_ok-number.ensures.value, c.in_ok-name.ensures.value, c.in_ok-terrain.ensures, c.in_ok-peasants.ensures.value) (gives_error _ _ _ _ _ c.from_residual-in_err-money.ensures.1 (stops_first (λ x. x) c.in_err-money.field-0.0 _ _ c.in_err-money.ensures.value))

pub returns-clause-value : goal.returns-clause-value
unfolding basics_keys basics_from
returns-clause-value c =
    rw
    (c.in_ok-number.ensures.value, c.in_ok-name.ensures.value, c.in_ok-terrain.ensures, c.in_ok-peasants.ensures.value, c.in_ok-money.ensures.value)
    (refl, refl)
