use Rattle.atl_sql.proofs.WriteLaws.{runs, fails}
use Rattle.atl_sql.proofs.statement.run.Goals as goal

pub returns : goal.returns
returns g c =
    let ran = c.in_ok-execute.ensures in
    runs g.S.Store _ _ _ _ ran.same_reference ran.survives _ tt ran.ended ran.runs

pub returns-in_err-execute : goal.returns-in_err-execute
returns-in_err-execute g c =
    let ran = c.in_err-execute.ensures in
    fails g.S.Store _ _ _ _ ran.same_reference ran.survives _ _ _ ran.ended ran.runs c.from_residual.ensures
