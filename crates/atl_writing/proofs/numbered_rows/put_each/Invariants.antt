use Rattle.atl_descriptions.specs.Tables.{table_of}
use Rattle.atl_writing.specs.Rows.{rows_in_order}
use Rattle.atl_sql.proofs.PuttingLaws.{HasPutSome}
use Rattle.atl_writing.proofs.numbered_rows.put_each.Given as goal

-- the rows of the values before the current one are put, and those from it on are still to put (`HasPutSome`)
abbrev pub invariant-loop-number : goal.invariant-loop-number
invariant-loop-number g l =
    HasPutSome g.S.Store (table_of g.V.NumberedRow.part) 1 (rows_in_order g.V.NumberedRow.line l.number-iterator)
    (rows_in_order g.V.NumberedRow.line l.fn.values) l.fn.tx.conn l.tx.conn
