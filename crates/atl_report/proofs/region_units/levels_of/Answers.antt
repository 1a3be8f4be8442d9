use Rattle.std.proofs.Common.{rules, ◌≡◌, subst, sym}
use Rattle.std.specs.FinMap.{empty, insert}
use Rattle.atl_world.specs.Every.{Every}
use Rattle.atl_world.proofs.EveryLaws.{every-empty, every-insert}
use Rattle.atl_report.specs.Sites.{AreLevels}
use Rattle.atl_report.proofs.region_units.levels_of.Goals as goal

-- before the first region none has lists
pub loop-region-init : goal.loop-region-init
loop-region-init c =
    let right = AreLevels c.args.world.now c.args.campaign.now.value in
    let none : c.new-levels.result ≡ empty = search rules in
    (tt, tt, subst (Every right) (sym none) (every-empty right))

-- after one more region has its lists, each region that has lists has its units by hiding level
pub loop-region-preserved : goal.loop-region-preserved
loop-region-preserved c =
    let right = AreLevels c.args.world.now c.args.campaign.now.value in
    let (_, _, before) = c.loop-region.invariant in
    let is : c.insert.new.self ≡ insert c.loop-region.levels c.in-Some.region c.in_ok-levels_in.field-0 = search rules in
    let here : right c.in-Some.region c.in_ok-levels_in.field-0 = search (rules, c.in_ok-levels_in.ensures) in
    (tt, tt, subst (Every right) (sym is) (every-insert right c.loop-region.levels c.in-Some.region c.in_ok-levels_in.field-0 here before))
