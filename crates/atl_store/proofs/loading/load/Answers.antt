use Rattle.atl_store.proofs.LoadedLaws.{loads}
use Rattle.atl_store.proofs.loading.load.Goals as goal

pub returns-clause-ok : goal.returns-clause-ok
returns-clause-ok g c =
    loads g.S.Store c.args.conn.now c.load_as.new.conn
    (λ db up may. g.met.S.Store.settled c.load_as.new.conn.store db up may) c.in_ok-both.both.0 c.in_ok-both.both.1
    c.in_ok-both.ensures.ok
