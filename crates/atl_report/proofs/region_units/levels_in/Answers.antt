use Rattle.std.proofs.Common.{◌≡◌, [], drop, ap, sym, ◌∙◌}
use Rattle.std.proofs.lemmas.List.{drop_all}
use Rattle.atl_campaign.specs.Campaign.{numbers_in_region}
use Rattle.atl_lists.specs.Lists.{list_of}
use Rattle.atl_report.specs.Gathering.{with_all_keyed}
use Rattle.atl_sight.specs.Watching.{hiding_level}
use Rattle.atl_report.proofs.SiteLaws.{listed_by_key}
use Rattle.atl_report.proofs.region_units.levels_in.Goals as goal

-- the lists of all of the region's units have under each level those that hide at it
pub returns : goal.returns
returns c =
    let units = c.args.campaign.now.value.units in
    let hides = hiding_level c.args.world.now in
    let none : drop c.loop-number.number-index c.in_region-number-items.result.now ≡ [] = drop_all c.loop-number.number-index c.in_region-number-items.result.now c.loop-number-test.false in
    λ level. ap (λ lists. list_of lists level) (ap (with_all_keyed units hides c.loop-number.levels) (sym none) ∙ c.loop-number.invariant) ∙ listed_by_key units hides level (numbers_in_region c.args.region units)
