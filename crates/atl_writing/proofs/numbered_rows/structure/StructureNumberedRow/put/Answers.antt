use Rattle.std.proofs.Common.{rules}
use Rattle.atl_descriptions.specs.Tables.{structure_table}
use Rattle.atl_sql.proofs.WrittenLaws.{written_as}
use Rattle.atl_writing.specs.Rows.{row_of_structure}
use Rattle.atl_writing.proofs.numbered_rows.structure.StructureNumberedRow.put.Goals as goal

pub returns : goal.returns
returns g c =
    let stored = record c.args.self.now { name = c.as_str.result.now } in
    let put = written_as g.S.Store structure_table 1 _ (row_of_structure c.args.number stored) (search rules) c.put.ensures in
    rw c.as_str.ensures at put
