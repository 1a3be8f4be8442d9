use Rattle.std.proofs.Common.{◌≡◌, ◌+◌, ◌*◌, ◌≤◌, length, sum_by}
use Rattle.std.specs.FinMap.{entries}
use Rattle.atl_world.specs.Sums.{sum_over}
use Rattle.atl_records.specs.Limits.{most_u32}
use Rattle.atl_records.specs.Amounts.{unit_amount}
use Rattle.atl_campaign.proofs.totals.units_total.Given as goal

-- the sum so far and what the units left hold of the thing is what all units hold of it
abbrev pub invariant-loop-unit : goal.invariant-loop-unit
invariant-loop-unit l = record {
  so_far : l.sum + sum_by (λ e. unit_amount l.thing e.1.holding) l.unit-iterator
      ≡ sum_over (λ u. unit_amount l.thing u.holding) l.units.values;
  -- the sum so far is at most most_u32 times the number of units counted, so it fits 64 bits
  fits : l.sum + length l.unit-iterator * most_u32 ≤ length (entries l.units.values) * most_u32;
}
