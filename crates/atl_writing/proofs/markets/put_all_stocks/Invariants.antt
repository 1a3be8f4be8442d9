use Rattle.atl_descriptions.specs.Tables.{market_table}
use Rattle.atl_writing.specs.GroupedRows.{all_stocks_lines}
use Rattle.atl_sql.proofs.PuttingLaws.{HasPutSome}
use Rattle.atl_writing.proofs.markets.put_all_stocks.Given as goal

-- at each turn the rows of all regions' stocks are put, but those of the regions that are left (`HasPutSome`)
abbrev pub invariant-loop-number : goal.invariant-loop-number
invariant-loop-number g l =
    HasPutSome g.S.Store market_table 2 (all_stocks_lines l.number-iterator) (all_stocks_lines l.fn.regions)
    l.fn.tx.conn l.tx.conn
