use Rattle.std.proofs.Common.{rules}
use Rattle.atl_descriptions.specs.Tables.{has_table}
use Rattle.atl_sql.specs.Shown.{has_row}
use Rattle.atl_sql.specs.Written.{sort_number}
use Rattle.atl_sql.proofs.WrittenLaws.{written_as}
use Rattle.atl_writing.proofs.goods.put_thing.Goals as goal

pub returns : goal.returns
returns g c =
    written_as g.S.Store has_table 3 _ (has_row c.args.unit (sort_number c.args.sort) c.args.thing c.args.amount) (search rules)
    c.put.ensures
