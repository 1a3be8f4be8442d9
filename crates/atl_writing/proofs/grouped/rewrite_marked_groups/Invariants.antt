use Rattle.atl_descriptions.specs.Tables.{table_of}
use Rattle.atl_writing.specs.OwnStatements.{OfChange}
use Rattle.atl_sql.specs.Inside.{DoesInside, HasTables}
use Rattle.atl_writing.proofs.RewriteLaws.{RemainingNumbers}
use Rattle.atl_sql.proofs.WriteLaws.{HasDone}
use Rattle.atl_writing.proofs.grouped.rewrite_marked_groups.Given as goal

-- at each turn the rows of all marked units, or regions, are rewritten but those whose numbers are left
abbrev pub invariant-loop-number : goal.invariant-loop-number
invariant-loop-number g l =
    HasDone g.S.Store (OfChange l.fn.campaign.value)
    (DoesInside HasTables (RemainingNumbers (table_of g.V.Grouped.part) (g.V.Grouped.wanted l.fn.campaign.value) l.number-iterator l.initial.number-iterator))
    l.fn.tx.conn l.tx.conn
