use Rattle.std.proofs.Common.{◌≡◌, ℕ, [], drop, ap, sym, ◌∙◌}
use Rattle.std.proofs.lemmas.List.{drop_all}
use Rattle.atl_records.specs.declared.records.Unit.{Unit}
use Rattle.atl_campaign.specs.Campaign.{numbers_of_faction}
use Rattle.atl_lists.specs.Lists.{list_of}
use Rattle.atl_report.specs.Gathering.{with_all_keyed}
use Rattle.atl_report.proofs.SiteLaws.{listed_by_key}
use Rattle.atl_report.proofs.region_units.own_by_region.Goals as goal

-- the lists of all of the faction's units have under each region those that are in it
pub returns : goal.returns
returns c =
    let units = c.args.campaign.now.value.units in
    let place : Unit → ℕ = λ u. u.region in
    let none : drop c.loop-number.number-index c.of_faction-number-items.result.now ≡ [] = drop_all c.loop-number.number-index c.of_faction-number-items.result.now c.loop-number-test.false in
    λ region. ap (λ lists. list_of lists region) (ap (with_all_keyed units place c.loop-number.own) (sym none) ∙ c.loop-number.invariant) ∙ listed_by_key units place region (numbers_of_faction c.args.faction units)
