use Rattle.std.proofs.Common.{ap, rules}
use borrow.Author.Tests.{tests}
use Rattle.atl_world.specs.Every.{HasValue}
use Rattle.atl_campaign.proofs.RuleLaws.{every_by_all}
use Rattle.atl_state.proofs.rules.known.are_all_there.Goals as goal

pub returns : goal.returns
returns c =
    every_by_all (λ n p. HasValue c.args.campaign.now.value.regions n) _ _ _ c.all.ensures.ran c.args.world.now.regions
    (search rules)
    (λ x q k. (ap (λ w. record { 0 = w }) k.met.1, k.met.0.said-raw.1.1.0.ensures.0 (search (rules, tests))))
    (λ x q k. search (rules, tests))
