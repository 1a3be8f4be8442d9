use Rattle.atl_writing.specs.GroupedRows.{amount_rows}
use Rattle.atl_sql.proofs.PuttingLaws.{HasPutSome}
use Rattle.atl_writing.proofs.amounts.put_amounts.Given as goal

-- at each turn all rows of the owner are put but those of the amounts that are left (`HasPutSome`)
abbrev pub invariant-loop-thing : goal.invariant-loop-thing
invariant-loop-thing g l =
    let rows = amount_rows (g.O.AmountWriter.line l.owner) in
    HasPutSome g.S.Store g.O.AmountWriter.table g.O.AmountWriter.key (rows l.thing-iterator) (rows l.fn.amounts) l.fn.tx.conn l.tx.conn
