use Rattle.atl_descriptions.specs.Tables.{has_table}
use Rattle.atl_writing.specs.GroupedRows.{all_goods_lines}
use Rattle.atl_sql.proofs.PuttingLaws.{HasPutSome}
use Rattle.atl_writing.proofs.goods.put_all_goods.Given as goal

-- at each turn the rows of all units' items and skills are put, but those of the units that are left (`HasPutSome`)
abbrev pub invariant-loop-number : goal.invariant-loop-number
invariant-loop-number g l =
    HasPutSome g.S.Store has_table 3 (all_goods_lines l.number-iterator) (all_goods_lines l.fn.units) l.fn.tx.conn
    l.tx.conn
