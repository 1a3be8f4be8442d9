use Rattle.std.proofs.Common.{◌≡◌, drop}
use Rattle.std.specs.FinMap.{empty}
use Rattle.atl_campaign.specs.Campaign.{numbers_of_faction}
use Rattle.atl_report.specs.Gathering.{with_all_keyed}
use Rattle.atl_report.proofs.region_units.own_by_region.Given as goal

-- adding the units still to come to the lists so far, each by its region, gives the lists of all of the faction's units
abbrev pub invariant-loop-number : goal.invariant-loop-number
invariant-loop-number l =
    with_all_keyed l.campaign.value.units (λ u. u.region) l.own (drop l.number-index l.number-items) ≡ with_all_keyed
    l.campaign.value.units (λ u. u.region) empty (numbers_of_faction l.faction l.campaign.value.units)
