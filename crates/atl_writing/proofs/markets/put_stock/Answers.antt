use Rattle.std.proofs.Common.{rules}
use Rattle.atl_descriptions.specs.Tables.{market_table}
use Rattle.atl_sql.specs.Shown.{market_row}
use Rattle.atl_sql.proofs.WrittenLaws.{written_as}
use Rattle.atl_writing.proofs.markets.put_stock.Goals as goal

pub returns : goal.returns
returns g c =
    written_as g.S.Store market_table 2 _ (market_row c.args.region c.args.item c.args.stock) (search rules) c.put.ensures
