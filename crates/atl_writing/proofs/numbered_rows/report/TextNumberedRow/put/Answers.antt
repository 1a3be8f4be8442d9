use Rattle.std.proofs.Common.{rules}
use Rattle.atl_descriptions.specs.Tables.{report_table}
use Rattle.atl_sql.specs.Shown.{report_row}
use Rattle.atl_sql.proofs.WrittenLaws.{written_as}
use Rattle.atl_writing.proofs.numbered_rows.report.TextNumberedRow.put.Goals as goal

pub returns : goal.returns
returns g c =
    let put = written_as g.S.Store report_table 1 _ (report_row c.args.number c.as_str.result.now) (search rules) c.put.ensures in
    rw c.as_str.ensures at put
