use Rattle.std.proofs.Common.{◌≡◌, ◌==◌, ◌++◌, ℕ}
use Rattle.atl_world.specs.Sums.{numbers_among}
use Rattle.atl_lists.specs.Lists.{list_of}
use Rattle.atl_report.specs.Sight.{structures_in}
use Rattle.atl_report.proofs.sites.sites_of.Given as goal

-- each region's list so far, followed by its structures still to come, has all structures of the region
abbrev pub invariant-loop-number : goal.invariant-loop-number
invariant-loop-number l =
    (goal.iterator-loop-number).can_next l.number-iterator ×
    (goal.iterator-loop-number).is_finite l.number-iterator ×
    ((region : ℕ) → list_of l.sites region ++ numbers_among (λ s. s.region == region) l.number-iterator ≡ structures_in region l.campaign.value.structures)
