use Rattle.std.proofs.Common.{◌≡◌, ◌==◌, ◌++◌}
use Rattle.atl_world.specs.Sums.{numbers_among}
use Rattle.atl_report.specs.Sight.{structures_in}
use Rattle.atl_report.proofs.sites.sites_in.Given as goal

-- the numbers so far, followed by those of the region's structures still to come, are those of all its structures
abbrev pub invariant-loop-number : goal.invariant-loop-number
invariant-loop-number l =
    l.listed ++ numbers_among (λ s. s.region == l.region) l.number-iterator ≡ structures_in l.region
    l.campaign.value.structures
