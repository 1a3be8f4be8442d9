use Rattle.std.proofs.Common.{subst, sym}
use Rattle.atl_store.specs.Gathering.{JudgesFormat}
use Rattle.atl_store.specs.Loading.{RefusesToLoadIn}
use Rattle.atl_store.proofs.OwnLaws.{own_is, refuses_own, unasked_own}
use Rattle.atl_store.proofs.loading.own.read_own.Goals as goal

pub returns-in-Ok-clause-ok : goal.returns-in-Ok-clause-ok
returns-in-Ok-clause-ok g c clean =
    own_is c.args.format g.S.Store c.args.conn.now c.in-Ok.rows.items c.judge_format.result
    (subst (λ rows. JudgesFormat c.args.format rows c.judge_format.result) c.as_slice.ensures.value c.judge_format.ensures)
    (c.in-Ok.ensures.rows clean)

pub returns-in-Ok-clause-err : goal.returns-in-Ok-clause-err
returns-in-Ok-clause-err g c clean =
    refuses_own c.args.format g.S.Store c.args.conn.now c.requires.idle c.in-Ok.rows.items c.judge_format.result
    (subst (λ rows. JudgesFormat c.args.format rows c.judge_format.result) c.as_slice.ensures.value c.judge_format.ensures)
    (c.in-Ok.ensures.rows clean)

pub returns-in-Err-clause-err : goal.returns-in-Err-clause-err
returns-in-Err-clause-err g c clean =
    subst (RefusesToLoadIn c.args.format g.S.Store c.args.conn.now) (sym c.campaign_row_fault.ensures)
    (unasked_own c.args.format g.S.Store c.args.conn.now c.requires.idle c.in-Err.fault (c.in-Err.ensures.refused clean))
