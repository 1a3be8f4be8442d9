use Rattle.std.proofs.Common.{rules}
use borrow.Author.Tests.{tests}
use Rattle.atl_world.specs.Every.{HasValue}
use Rattle.atl_campaign.proofs.RuleLaws.{every_by_all}
use Rattle.atl_state.proofs.rules.known.are_reports_known.Goals as goal

pub returns : goal.returns
returns c =
    every_by_all (λ n text. HasValue c.args.campaign.now.value.factions n) _ _ _ c.all.ensures.ran
    c.args.campaign.now.value.reports (search rules) (λ x q k. search (rules, tests)) (λ x q k. search (rules, tests))
