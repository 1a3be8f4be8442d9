use Rattle.std.proofs.Common.{◌≡◌, ◌≤◌, nat_le}
use Rattle.atl_world.specs.Limits.{last_level}
use Rattle.atl_records.specs.Levels.{greatest, days_for}
use Rattle.atl_records.proofs.levels.level.Given as goal

-- the greatest level that the days reach is the greatest up to `level`, which is at most the last level
abbrev pub invariant-loop-level : goal.invariant-loop-level
invariant-loop-level l = record {
  rest : greatest (λ n. nat_le (days_for n l.men) l.days) l.level
      ≡ greatest (λ n. nat_le (days_for n l.men) l.days) last_level;
  small : l.level ≤ last_level;
}

abbrev pub decreases-loop-level : goal.decreases-loop-level
decreases-loop-level l = l.level
