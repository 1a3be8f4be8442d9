use Rattle.std.proofs.Common.{◌≡◌, ◌++◌, map}
use Rattle.std.specs.FinMap.{entries}
use Rattle.atl_world.specs.Sums.{map_values}
use Rattle.atl_campaign.specs.Founding.{founded_region}
use Rattle.atl_campaign.proofs.campaign.founding.make_regions.Given as goal

-- the regions so far, and then those of the plans left, are the regions of all plans
abbrev pub invariant-loop-number : goal.invariant-loop-number
invariant-loop-number l =
    entries l.regions ++ map (λ e. (e.0, founded_region e.1)) l.number-iterator ≡ entries
    (map_values founded_region l.plans)
