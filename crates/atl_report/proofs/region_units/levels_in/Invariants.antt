use Rattle.std.proofs.Common.{◌≡◌, drop}
use Rattle.std.specs.FinMap.{empty}
use Rattle.atl_campaign.specs.Campaign.{numbers_in_region}
use Rattle.atl_report.specs.Gathering.{with_all_keyed}
use Rattle.atl_sight.specs.Watching.{hiding_level}
use Rattle.atl_report.proofs.region_units.levels_in.Given as goal

-- adding the units still to come to the lists so far, each by its hiding level, gives the lists of all of the region's
-- units
abbrev pub invariant-loop-number : goal.invariant-loop-number
invariant-loop-number l =
    with_all_keyed l.campaign.value.units (hiding_level l.world) l.levels (drop l.number-index l.number-items) ≡
    with_all_keyed l.campaign.value.units (hiding_level l.world) empty
    (numbers_in_region l.region l.campaign.value.units)
