use Rattle.std.proofs.Common.{rules}
use borrow.Author.Tests.{tests}
use Rattle.atl_campaign.specs.Good.{IsPlaced}
use Rattle.atl_campaign.proofs.RuleLaws.{every_by_all}
use Rattle.atl_state.proofs.rules.known.are_placed.Goals as goal

pub returns : goal.returns
returns c =
    every_by_all (λ n u. IsPlaced c.args.world.now c.args.campaign.now.value u) _ _ _ c.all.ensures.ran
    c.args.campaign.now.value.units (search rules) (λ x q k. search (rules, tests)) (λ x q k. search (rules, tests))
