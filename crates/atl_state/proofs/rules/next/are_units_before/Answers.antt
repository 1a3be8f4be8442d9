use Rattle.std.proofs.Common.{◌<◌, rules}
use Rattle.std.specs.Bool.{Decides}
use borrow.Author.Tests.{tests}
use Rattle.atl_world.specs.Every.{Every}
use Rattle.atl_campaign.proofs.RuleLaws.{every_by_all, free_from_next, every_before}
use Rattle.atl_state.proofs.rules.next.are_units_before.Goals as goal

pub returns : goal.returns
returns c =
    let what = c.args.campaign.now.value in
    let low : Decides c.all.result (Every (λ n v. n < what.next_unit) what.units) =
    every_by_all (λ n v. n < what.next_unit) _ _ _ c.all.ensures.ran what.units (search rules) (λ x q k. search (rules, tests)) (λ x q k. search (rules, tests)) in
    (λ r. free_from_next what.units what.next_unit (low.0 r), λ free. low.1 (every_before what.units what.next_unit free))
