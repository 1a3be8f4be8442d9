use Rattle.std.proofs.Common.{Err, subst, sym}
use Rattle.atl_store.specs.Gathering.{JudgesRows}
use Rattle.atl_store.proofs.OwnLaws.{judged_rows, unread_rows}
use Rattle.atl_store.proofs.loading.own.judge_rows.Goals as goal

pub returns-in-Ok : goal.returns-in-Ok
returns-in-Ok c = judged_rows c.args.format c.in-Ok.rows.items c.args.rows.now c.check_own_rows.result c.in-Ok.ensures.ok c.in-Ok.ensures.typed c.check_own_rows.ensures

pub returns-in-Err : goal.returns-in-Err
returns-in-Err c = subst (λ fault. JudgesRows c.args.format c.args.rows.now (Err fault)) (sym c.campaign_row_fault.ensures) (unread_rows c.args.format c.args.rows.now c.in-Err.fault c.in-Err.ensures.other c.in-Err.ensures.which)
