use Rattle.std.proofs.Common.{rules}
use Rattle.atl_sql.proofs.KeyedTableLaws.{drops_goods}
use Rattle.atl_sql.proofs.StatementLaws.{runs_with}
use Rattle.atl_sql.proofs.rows.has.drop_goods.Goals as goal

pub returns : goal.returns
returns g c = runs_with g.S.Store _ _ _ _ (drops_goods c.args.unit) (search rules) c.run.ensures
