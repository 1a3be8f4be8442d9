use Rattle.std.proofs.Common.{◌≡◌, ◌≤◌, ◌+◌, ◌*◌, drop, sum_by}
use Rattle.std.specs.Option.{option_map_or}
use Rattle.std.specs.FinMap.{get}
use Rattle.atl_records.specs.Levels.{load_of}
use Rattle.atl_campaign.specs.Campaign.{numbers_inside}
use Rattle.atl_action.specs.Sail.{crew_of, sum_inside}
use Rattle.atl_action.proofs.sail.crew_and_load.Given as goal

-- The crew so far and that of the units still to come make the crew of all units inside, and so do the loads. Each sum
-- so far is at most 2^64 - 1 for each unit that the loop has passed.
abbrev pub invariant-loop-number : goal.invariant-loop-number
invariant-loop-number l = record {
  crew : l.crew + sum_by (λ n. option_map_or (λ u. crew_of l.world u.holding) (get l.campaign.value.units n) 0) (drop l.number-index (numbers_inside l.structure l.campaign.value.units))
      ≡ sum_inside (crew_of l.world) l.campaign.value l.structure;
  load : l.weight + sum_by (λ n. option_map_or (λ u. load_of l.world u.holding) (get l.campaign.value.units n) 0) (drop l.number-index (numbers_inside l.structure l.campaign.value.units))
      ≡ sum_inside (load_of l.world) l.campaign.value l.structure;
  few : l.crew ≤ 18446744073709551615 * l.number-index;
  light : l.weight ≤ 18446744073709551615 * l.number-index;
}
