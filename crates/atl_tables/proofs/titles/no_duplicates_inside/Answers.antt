use Rattle.atl_tables.proofs.FaultLaws.{gives_error}
use Rattle.atl_tables.proofs.EachLaws.{rest_has_same_fault_at_index, error_at_index_is_error_of_all}
use Rattle.atl_tables.proofs.titles.no_duplicates_inside.Goals as goal

pub returns-in_err-no_duplicates_inside : goal.returns-in_err-no_duplicates_inside
returns-in_err-no_duplicates_inside g c =
    gives_error _ _ _ _ _ c.from_residual.ensures.1 (error_at_index_is_error_of_all g.T.HasUniqueNames.no_duplicates c.args.holders.now c.loop-i.i c.index-holders-i.result _ c.loop-i-test.true c.index-holders-i.is c.loop-i.invariant c.in_err-no_duplicates_inside.field-0.0 c.in_err-no_duplicates_inside.ensures)

pub loop-i-preserved : goal.loop-i-preserved
loop-i-preserved g c =
    rest_has_same_fault_at_index g.T.HasUniqueNames.no_duplicates c.args.holders.now c.loop-i.i c.index-holders-i.result
    _ c.loop-i-test.true c.index-holders-i.is c.loop-i.invariant c.in_ok-no_duplicates_inside.ensures.0
