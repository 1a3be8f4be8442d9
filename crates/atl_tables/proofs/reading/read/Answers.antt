use Rattle.toml.specs.View.{table_view}
use Rattle.atl_tables.specs.Faults.{first_fault}
use Rattle.atl_tables.specs.World.{world_of_text, document_conditions, tables_of, world_of_tables}
use Rattle.atl_tables.proofs.FaultLaws.{gives_implies_reads}
use Rattle.atl_tables.proofs.reading.read.Goals as goal

pub returns-in-Ok : goal.returns-in-Ok
unfolding world_of_text
returns-in-Ok c =
    let doc = table_view c.in-Ok.document in
    let format = c.args.format in
    rw c.in-Ok.ensures.ok (gives_implies_reads (λ w. w) c.from_document.result (first_fault (document_conditions format doc)) (world_of_tables (tables_of format doc)) c.from_document.ensures)
