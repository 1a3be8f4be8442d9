use Rattle.std.proofs.Common.{◌-◌}
use Rattle.std.specs.List.{range_with_len}
use Rattle.atl_descriptions.specs.Tables.{books_table}
use Rattle.atl_writing.specs.GroupedRows.{things_lines}
use Rattle.atl_sql.proofs.PuttingLaws.{HasPutSome}
use Rattle.atl_writing.proofs.ledger.put_all_books.Given as goal

-- at each turn all rows of the books are put but those of the things that are left (`HasPutSome`)
abbrev pub invariant-loop-number : goal.invariant-loop-number
invariant-loop-number g l =
    HasPutSome g.S.Store books_table 2
    (things_lines l.campaign.value (range_with_len l.number (l.campaign.value.books.things - l.number)))
    (things_lines l.campaign.value (range_with_len 0 l.campaign.value.books.things)) l.fn.tx.conn l.tx.conn
