use Rattle.toml.specs.View.{table_view}
use Rattle.atl_tables.specs.World.{document_conditions, keys_conditions, table_conditions, tables_of, world_of_tables}
use Rattle.atl_tables.proofs.FaultLaws.{gives_error, error_of_first_list_is_of_joined, result_by_second_list_is_by_joined}
use Rattle.atl_tables.proofs.reading.from_document.Goals as goal

pub returns-in_err-all : goal.returns-in_err-all
unfolding document_conditions
returns-in_err-all c =
    let doc = table_view c.args.document.now in
    gives_error _ _ _ _ _ c.from_residual.ensures.1 (error_of_first_list_is_of_joined c.in_err-all.field-0.0 (keys_conditions c.args.format doc) (table_conditions (tables_of c.args.format doc)) c.in_err-all.ensures.value)

pub returns : goal.returns
unfolding document_conditions
returns c =
    let doc = table_view c.args.document.now in
    result_by_second_list_is_by_joined (λ w. w) c.from_tables.result (keys_conditions c.args.format doc) (table_conditions (tables_of c.args.format doc)) (world_of_tables (tables_of c.args.format doc)) c.in_ok-all.ensures.value.0 (rw c.in_ok-all.ensures.value.1 c.from_tables.ensures)
