use Rattle.std.proofs.Common.{◌-◌}
use Rattle.std.specs.List.{range_with_len}
use Rattle.atl_writing.specs.OwnStatements.{OfChange}
use Rattle.atl_sql.specs.Inside.{DoesInside, HasTables}
use Rattle.atl_writing.proofs.BooksRewriteLaws.{RemainingThings}
use Rattle.atl_sql.proofs.WriteLaws.{HasDone}
use Rattle.atl_writing.proofs.ledger.rewrite_books.Given as goal

-- at each turn all marked amounts of the books are rewritten but those of the things that are left
abbrev pub invariant-loop-number : goal.invariant-loop-number
invariant-loop-number g l =
    HasDone g.S.Store (OfChange l.fn.campaign.value) (DoesInside HasTables (RemainingThings l.fn.campaign (range_with_len l.number (l.fn.campaign.value.books.things - l.number)) (range_with_len 0 l.fn.campaign.value.books.things))) l.fn.tx.conn l.tx.conn
