use Rattle.std.proofs.Common.{◌≡◌}
use Rattle.atl_world.specs.Worlds.{without_market}
use Rattle.atl_world.specs.Sums.{map_values}
use Rattle.atl_tables.proofs.SameLaws.{entries_without_markets}
use Rattle.atl_tables.proofs.same_worlds.are_same_regions.Given as goal

-- the regions still to come of both maps are equal but for markets exactly if the whole maps are
abbrev pub invariant-loop-number : goal.invariant-loop-number
invariant-loop-number l = record {
  whole : entries_without_markets l.number-iterator ≡ entries_without_markets l.rest
      → map_values without_market l.plans ≡ map_values without_market l.others;
  part : map_values without_market l.plans ≡ map_values without_market l.others
      → entries_without_markets l.number-iterator ≡ entries_without_markets l.rest;
}
