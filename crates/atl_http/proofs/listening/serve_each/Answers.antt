use Rattle.atl_http.proofs.ListeningLaws as laws
use Rattle.atl_http.proofs.listening.serve_each.Goals as goal

pub returns-in-Err : goal.returns-in-Err
returns-in-Err g c =
    laws.fault_ends_serving g.S.Store c.args.dice c.loop.counter c.args.count c.args.service.now c.loop.service
    c.serve_stream.new.service c.in-Err.fault c.loop-test.true c.loop.invariant c.in-Err.ensures

pub loop-preserved : goal.loop-preserved
loop-preserved g c =
    laws.one_more_is_served g.S.Store c.args.dice c.loop.counter c.args.service.now c.loop.service
    c.serve_stream.new.service c.loop.invariant c.in-Ok.ensures
