use Rattle.atl_sql.proofs.KeepLaws.{if_ok}
use Rattle.atl_store.proofs.LoadedLaws.{is_idle, leaves_alone, loads_in}
use Rattle.atl_store.proofs.loading.load_as.Goals as goal

pub returns-clause-ok : goal.returns-clause-ok
returns-clause-ok g c =
    let old = c.args.conn.now in
    let new = c.load_idle.new.conn in
    if_ok c.load_idle.result (λ both loaded. loads_in c.args.format g.S.Store old new both.0 both.1 loaded c.load_idle.ensures.leaves (λ clean up. c.is_autocommit.ensures.settled c.if-not-is_autocommit.false up)) c.load_idle.ensures.ok

pub returns-clause-alone : goal.returns-clause-alone
returns-clause-alone g c =
    leaves_alone g.S.Store c.args.conn.now c.load_idle.new.conn
    (is_idle g.S.Store c.is_autocommit.result c.args.conn.now.in_transaction c.is_autocommit.ensures.value c.if-not-is_autocommit.false)
    c.load_idle.ensures.leaves
