use Rattle.std.proofs.Common.{rules}
use Rattle.atl_sql.proofs.UpgradeRowLaws.{puts_upgraded}
use Rattle.atl_sql.specs.Written.{head_shown}
use Rattle.atl_sql.proofs.StatementLaws.{runs_with}
use Rattle.atl_sql.proofs.rows.campaign.put_upgraded.Goals as goal

pub returns : goal.returns
returns g c =
    runs_with g.S.Store _ _ _ _ (puts_upgraded (head_shown c.args.row.now) c.args.world.now) (search rules)
    c.run.ensures
