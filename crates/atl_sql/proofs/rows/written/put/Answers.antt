use Rattle.std.proofs.Common.{refl}
use Rattle.atl_sql.proofs.StatementLaws.{runs_with}
use Rattle.atl_sql.proofs.WrittenLaws.{puts_any}
use Rattle.atl_sql.proofs.rows.written.put.Goals as goal

pub returns : goal.returns
returns g c =
    runs_with g.S.Store _ _ _ _ (puts_any g.T.Record.part g.met.T.Written.is_written _ c.requires) refl
    (rw c.statements.ensures.upsert at c.run.ensures)
