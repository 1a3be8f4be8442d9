use Rattle.std.proofs.Common.{rules}
use Rattle.atl_descriptions.specs.Tables.{books_table}
use Rattle.atl_sql.specs.Shown.{books_row}
use Rattle.atl_sql.proofs.WrittenLaws.{written_as}
use Rattle.atl_writing.proofs.ledger.put_booked.Goals as goal

pub returns : goal.returns
returns g c =
    written_as g.S.Store books_table 2 _ (books_row c.args.entry c.args.thing c.args.amount) (search rules) c.put.ensures
