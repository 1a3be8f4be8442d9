use Rattle.std.proofs.Common.{◌≡◌, ◌+◌, ◌*◌, ◌≤◌, length, sum_by}
use Rattle.std.specs.FinMap.{entries}
use Rattle.atl_world.specs.Sums.{sum_over}
use Rattle.atl_records.specs.Limits.{most_u32}
use Rattle.atl_records.specs.Amounts.{region_amount}
use Rattle.atl_campaign.proofs.totals.regions_total.Given as goal

-- the sum so far and what the regions left hold of the thing is what all regions hold of it
abbrev pub invariant-loop-region : goal.invariant-loop-region
invariant-loop-region l = record {
  so_far : l.sum + sum_by (λ e. region_amount l.thing e.1) l.region-iterator
      ≡ sum_over (λ r. region_amount l.thing r) l.regions.values;
  -- the sum so far is at most most_u32 times the number of regions counted, so it fits 64 bits
  fits : l.sum + length l.region-iterator * most_u32 ≤ length (entries l.regions.values) * most_u32;
}
