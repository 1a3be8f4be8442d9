use Rattle.atl_http.specs.Listening.{ServesInTurn}
use Rattle.atl_http.proofs.listening.serve_each.Given as goal

-- as many requests were served, one after another, as connections were accepted (`ServesInTurn`)
abbrev pub invariant-loop : goal.invariant-loop
invariant-loop g l = ServesInTurn g.S.Store l.dice l.counter l.fn.service l.service
