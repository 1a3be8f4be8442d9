use Rattle.atl_tables.specs.Neighbours.{neighbours_at}
use Rattle.atl_tables.proofs.FaultLaws.{gives_error, error_of_condition_is_of_list, result_by_condition_is_by_list}
use Rattle.atl_tables.proofs.neighbours.neighbours_of.Goals as goal

pub returns-in_err-check_neighbour-clause-value : goal.returns-in_err-check_neighbour-clause-value
unfolding neighbours_at
returns-in_err-check_neighbour-clause-value c =
    gives_error _ _ _ _ _ c.from_residual.ensures.1 (error_of_condition_is_of_list c.in_err-check_neighbour.field-0.0 _ _ c.in_err-check_neighbour.ensures.value)

pub returns-in_err-check_neighbour-2-clause-value : goal.returns-in_err-check_neighbour-2-clause-value
unfolding neighbours_at
returns-in_err-check_neighbour-2-clause-value c =
    let side1 = c.in_ok-check_neighbour.ensures.value.0 in
    rw side1 (gives_error _ _ _ _ _ c.from_residual-in_err-check_neighbour-2.ensures.1 (error_of_condition_is_of_list c.in_err-check_neighbour-2.field-0.0 _ _ c.in_err-check_neighbour-2.ensures.value))

pub returns-in_err-check_neighbour-3-clause-value : goal.returns-in_err-check_neighbour-3-clause-value
unfolding neighbours_at
returns-in_err-check_neighbour-3-clause-value c =
    let side1 = c.in_ok-check_neighbour.ensures.value.0 in
    let side2 = c.in_ok-check_neighbour-2.ensures.value.0 in
    rw (side1, side2) (gives_error _ _ _ _ _ c.from_residual-in_err-check_neighbour-3.ensures.1 (error_of_condition_is_of_list c.in_err-check_neighbour-3.field-0.0 _ _ c.in_err-check_neighbour-3.ensures.value))

pub returns-clause-value : goal.returns-clause-value
unfolding neighbours_at
returns-clause-value c =
    let side1 = c.in_ok-check_neighbour.ensures.value.0 in
    let side2 = c.in_ok-check_neighbour-2.ensures.value.0 in
    let side3 = c.in_ok-check_neighbour-3.ensures.value.0 in
    rw (side1, side2, side3) (result_by_condition_is_by_list (λ u. u) c.check_neighbour-4.result _ _ c.check_neighbour-4.ensures.value)
