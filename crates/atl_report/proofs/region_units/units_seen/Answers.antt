use Rattle.std.proofs.Common.{rules, ◌≡◌, Some, ap, ◌∙◌, sym}
use Rattle.std.specs.Option.{option_copied}
use Rattle.std.specs.FinMap.{get}
use Rattle.atl_report.specs.Sites.{AreLevels}
use Rattle.atl_report.proofs.HidingLaws.{gathered_are_seen}
use Rattle.atl_report.proofs.region_units.units_seen.Goals as goal

-- the numbers gathered from the region's lists are those of the units that the faction sees there
pub returns-in-Some : goal.returns-in-Some
returns-in-Some c =
    let w = c.args.world.now in
    let campaign = c.args.campaign.now.value in
    let watch = c.args.watch in
    let listed : get c.args.levels.now watch.region ≡ Some c.in-Some.levels.now = sym c.get.ensures ∙ ap option_copied c.in-Some.is in
    gathered_are_seen c.numbers_seen.result w campaign watch c.args.own.now c.in-Some.levels.now (c.requires.levels watch.region c.in-Some.levels.now listed) c.requires.own c.numbers_seen.ensures

-- the numbers gathered from the lists made here are those of the units that the faction sees there
pub returns-in_ok-levels-in-None : goal.returns-in_ok-levels-in-None
returns-in_ok-levels-in-None c =
    let w = c.args.world.now in
    let campaign = c.args.campaign.now.value in
    let watch = c.args.watch in
    let made : AreLevels w campaign watch.region c.in_ok-levels-in-None.levels = search (rules, c.in_ok-levels-in-None.ensures) in
    gathered_are_seen c.numbers_seen-in-None.result w campaign watch c.args.own.now c.in_ok-levels-in-None.levels made c.requires.own c.numbers_seen-in-None.ensures
