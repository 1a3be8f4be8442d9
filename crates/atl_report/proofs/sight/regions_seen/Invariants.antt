use Rattle.std.proofs.Common.{◌≡◌, drop}
use Rattle.std.specs.FinMap.{empty}
use Rattle.atl_campaign.specs.Campaign.{numbers_of_faction}
use Rattle.atl_report.specs.Gathering.{with_all_watched}
use Rattle.atl_report.proofs.sight.regions_seen.Given as goal

-- adding the regions of the units still to come to those seen so far gives the regions gathered from all of the
-- faction's units
abbrev pub invariant-loop-number : goal.invariant-loop-number
invariant-loop-number l =
    with_all_watched l.campaign.value l.faction (drop l.number-index l.number-items) l.seen ≡ with_all_watched
    l.campaign.value l.faction (numbers_of_faction l.faction l.campaign.value.units) empty
