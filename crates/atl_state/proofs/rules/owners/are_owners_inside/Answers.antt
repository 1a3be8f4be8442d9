use Rattle.std.proofs.Common.{rules}
use borrow.Author.Tests.{tests}
use Rattle.atl_state.specs.Deciding.{HasOwnerInside}
use Rattle.atl_campaign.proofs.RuleLaws.{every_by_all}
use Rattle.atl_state.proofs.rules.owners.are_owners_inside.Goals as goal

pub returns : goal.returns
returns c =
    every_by_all (HasOwnerInside c.args.campaign.now.value) _ _ _ c.all.ensures.ran c.args.campaign.now.value.structures
    (search rules) (λ x q k. search (rules, tests)) (λ x q k. search (rules, tests))
