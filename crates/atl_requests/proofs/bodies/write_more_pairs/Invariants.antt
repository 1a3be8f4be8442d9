use Rattle.std.proofs.Common.{◌≡◌, ◌++◌, drop, string_bytes}
use Rattle.atl_requests.specs.Bodies.{more_pairs}
use Rattle.atl_requests.proofs.bodies.write_more_pairs.Given as goal

-- what is written, followed by the pairs of the faulty lines that are left, is the whole text that is to be written
abbrev pub invariant-loop-faulty : goal.invariant-loop-faulty
invariant-loop-faulty l =
    string_bytes l.out ++ more_pairs (drop l.faulty-index l.faults) ≡ string_bytes l.fn.out ++ more_pairs l.faults
