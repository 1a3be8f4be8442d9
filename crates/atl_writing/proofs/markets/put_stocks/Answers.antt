use Rattle.std.proofs.Common.{ap}
use Rattle.atl_descriptions.specs.Tables.{market_table}
use Rattle.atl_sql.specs.Shown.{market_row}
use Rattle.atl_writing.specs.GroupedRows.{amount_rows}
use Rattle.atl_sql.proofs.PuttingLaws.{same_written}
use Rattle.atl_writing.proofs.markets.put_stocks.Goals as goal

pub returns : goal.returns
returns g c =
    same_written g.S.Store market_table 2 _ _ (ap (amount_rows (market_row c.args.number)) c.iter.ensures)
    c.put_amounts.ensures
