use Rattle.std.proofs.Common.{Ok, subst, rules}
use Rattle.atl_sql.specs.Reading.{Asks}
use Rattle.sqlite_trees.specs.View.{doubt}
use Rattle.sqlite.specs.State.{Shown}
use Rattle.atl_sql.proofs.SelectingLaws.{showed, says}
use Rattle.atl_sql.proofs.rows.stored.select.Goals as goal

pub returns : goal.returns
unfolding doubt Shown
returns g c =
    let whole = showed g.S.Store c.args.sql.now c.args.conn.now c.transaction-tx.result.conn.now c.query_all.new.self.conn.now c.rollback.new.self.0 c.transaction-tx.ensures.begun c.rollback.ensures.ended
    c.query_all.ensures.survives c.rollback.ensures.undone c.rollback.ensures.survives c.in_ok-rows.rows c.in_ok-rows.ensures.ok in
    subst (Asks g.S.Store c.args.sql.now c.args.conn.now (Ok c.in_ok-rows.rows)) (search rules) whole

pub returns-in_err-rows : goal.returns-in_err-rows
returns-in_err-rows g c =
    let whole = says g.S.Store c.args.sql.now c.args.conn.now c.transaction-tx.result.conn.now c.query_all.new.self.conn.now c.drop-tx.new.self.0 c.transaction-tx.ensures.begun c.drop-tx.ensures.ended
    c.query_all.ensures.survives c.drop-tx.ensures.undone c.drop-tx.ensures.survives c.in_err-rows.field-0.0 c.from_residual.result c.from_residual.ensures.1 c.in_err-rows.ensures.err in
    search (rules, whole)
