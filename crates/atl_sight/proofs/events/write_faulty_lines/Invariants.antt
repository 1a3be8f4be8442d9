use Rattle.std.proofs.Common.{◌≡◌, ◌++◌, drop, string_bytes}
use Rattle.atl_sight.specs.Events.{faulty_lines}
use Rattle.atl_sight.proofs.events.write_faulty_lines.Given as goal

abbrev pub invariant-loop-faulty : goal.invariant-loop-faulty
invariant-loop-faulty l =
    string_bytes l.out ++ faulty_lines (drop l.faulty-index l.faults) ≡ string_bytes l.fn.out ++ faulty_lines l.faults
