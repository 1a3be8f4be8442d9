use Rattle.std.proofs.Common.{refl}
use Rattle.atl_tables.specs.RegionTable.{side_keys, sides_from}
use Rattle.atl_tables.proofs.FaultLaws.{gives_error, stops_first}
use Rattle.atl_tables.proofs.region_table.read_sides.Goals as goal

pub returns-in_err-north : goal.returns-in_err-north
unfolding side_keys sides_from
returns-in_err-north c =
    gives_error _ _ _ _ _ c.from_residual.ensures.1
    (stops_first (λ x. x) c.in_err-north.field-0.0 _ _ c.in_err-north.ensures)

pub returns-in_err-south : goal.returns-in_err-south
unfolding side_keys sides_from
returns-in_err-south c =
    rw c.in_ok-north.ensures (gives_error _ _ _ _ _ c.from_residual-in_err-south.ensures.1 (stops_first (λ x. x) c.in_err-south.field-0.0 _ _ c.in_err-south.ensures))

pub returns-in_err-east : goal.returns-in_err-east
unfolding side_keys sides_from
returns-in_err-east c =
    rw (c.in_ok-north.ensures, c.in_ok-south.ensures) (gives_error _ _ _ _ _ c.from_residual-in_err-east.ensures.1 (stops_first (λ x. x) c.in_err-east.field-0.0 _ _ c.in_err-east.ensures))

pub returns-in_err-west : goal.returns-in_err-west
unfolding side_keys sides_from
returns-in_err-west c =
    rw (c.in_ok-north.ensures, c.in_ok-south.ensures, c.in_ok-east.ensures) (gives_error _ _ _ _ _ c.from_residual-in_err-west.ensures.1 (stops_first (λ x. x) c.in_err-west.field-0.0 _ _ c.in_err-west.ensures))

pub returns : goal.returns
unfolding side_keys sides_from
returns c = rw (c.in_ok-north.ensures, c.in_ok-south.ensures, c.in_ok-east.ensures, c.in_ok-west.ensures) (refl, refl)
