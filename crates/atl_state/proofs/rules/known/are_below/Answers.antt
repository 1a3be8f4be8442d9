use Rattle.std.proofs.Common.{◌<◌, rules}
use borrow.Author.Tests.{tests}
use Rattle.atl_campaign.proofs.RuleLaws.{each_by_all}
use Rattle.atl_state.proofs.rules.known.are_below.Goals as goal

pub returns : goal.returns
returns c =
    each_by_all (λ n amount. n < c.args.count) _ _ _ c.all.ensures.ran c.args.entries (search rules)
    (λ x q k. search (rules, tests)) (λ x q k. search (rules, tests))
