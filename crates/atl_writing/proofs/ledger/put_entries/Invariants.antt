use Rattle.std.proofs.Common.{drop}
use Rattle.atl_descriptions.specs.Tables.{books_table}
use Rattle.atl_writing.specs.GroupedRows.{entries_lines}
use Rattle.atl_sql.proofs.PuttingLaws.{HasPutSome}
use Rattle.atl_writing.proofs.ledger.put_entries.Given as goal

-- at each turn the thing's rows under all listed entries are put, but those of the entries that are left (`HasPutSome`)
abbrev pub invariant-loop-entry : goal.invariant-loop-entry
invariant-loop-entry g l =
    HasPutSome g.S.Store books_table 2 (entries_lines l.campaign.value l.thing (drop l.entry-index l.entries))
    (entries_lines l.campaign.value l.thing l.entries) l.fn.tx.conn l.tx.conn
