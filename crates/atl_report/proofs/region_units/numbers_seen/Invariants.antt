use Rattle.std.proofs.Common.{◌≡◌}
use Rattle.atl_report.specs.Gathering.{with_levels, numbers_seen}
use Rattle.atl_report.proofs.region_units.numbers_seen.Given as goal

-- adding the lists still to come to the numbers so far, each by its level, gives all numbers seen
abbrev pub invariant-loop-level : goal.invariant-loop-level
invariant-loop-level l = with_levels l.observation l.seen l.level-iterator ≡ numbers_seen l.own l.levels l.observation
