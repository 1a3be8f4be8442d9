use Rattle.atl_descriptions.specs.Tables.{table_of}
use Rattle.atl_writing.specs.Rows.{RowsOf}
use Rattle.atl_writing.specs.OwnStatements.{OfChange}
use Rattle.atl_sql.specs.Inside.{DoesInside, HasTables}
use Rattle.atl_writing.proofs.RewriteLaws.{RemainingNumbers}
use Rattle.atl_sql.proofs.WriteLaws.{HasDone}
use Rattle.atl_writing.proofs.rewriting.rewrite_marked.Given as goal

-- at each turn the rows of all marked numbers are rewritten but those of the numbers that are left
abbrev pub invariant-loop-number : goal.invariant-loop-number
invariant-loop-number g l =
    HasDone g.S.Store (OfChange l.fn.campaign.value)
    (DoesInside HasTables (RemainingNumbers (table_of g.V.NumberedRow.part) (RowsOf g.V.NumberedRow.line (g.V.NumberedRow.values l.fn.campaign.value)) l.number-iterator l.initial.number-iterator))
    l.fn.tx.conn l.tx.conn
