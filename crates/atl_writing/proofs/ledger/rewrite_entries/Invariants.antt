use Rattle.std.proofs.Common.{drop}
use Rattle.atl_records.specs.Books.{thing_index}
use Rattle.atl_writing.specs.OwnStatements.{OfChange}
use Rattle.atl_sql.specs.Inside.{DoesInside, HasTables}
use Rattle.atl_writing.specs.Rewriting.{equals_number}
use Rattle.atl_writing.proofs.BooksRewriteLaws.{RemainingEntries}
use Rattle.atl_sql.proofs.WriteLaws.{HasDone}
use Rattle.atl_writing.proofs.ledger.rewrite_entries.Given as goal

-- at each turn the thing's marked amounts are rewritten, but those under the entries that are left
abbrev pub invariant-loop-entry : goal.invariant-loop-entry
invariant-loop-entry g l =
    HasDone g.S.Store (OfChange l.fn.campaign.value)
    (DoesInside HasTables (RemainingEntries l.fn.campaign (equals_number (thing_index l.fn.thing)) (drop l.entry-index l.entries) l.entries))
    l.fn.tx.conn l.tx.conn
