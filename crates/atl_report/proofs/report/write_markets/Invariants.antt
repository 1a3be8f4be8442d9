use Rattle.std.proofs.Common.{◌≡◌, ◌++◌, drop, string_bytes}
use Rattle.atl_report.specs.Report.{market_lines}
use Rattle.atl_report.proofs.report.write_markets.Given as goal

abbrev pub invariant-loop-seen : goal.invariant-loop-seen
invariant-loop-seen l =
    string_bytes l.out ++ market_lines l.world l.region (drop l.seen-index l.markets) ≡ string_bytes l.fn.out ++
    market_lines l.world l.region l.markets
