use Rattle.atl_descriptions.specs.Tables.{unit_table}
use Rattle.atl_writing.specs.Rows.{rows_in_order, row_of_unit}
use Rattle.atl_sql.proofs.PuttingLaws.{HasPutSome}
use Rattle.atl_writing.proofs.numbered_rows.put_units.Given as goal

-- the rows of the units before the current one are put, and those from it on are still to put (`HasPutSome`)
abbrev pub invariant-loop-number : goal.invariant-loop-number
invariant-loop-number g l =
    HasPutSome g.S.Store unit_table 1 (rows_in_order row_of_unit l.number-iterator)
    (rows_in_order row_of_unit l.fn.units) l.fn.tx.conn l.tx.conn
