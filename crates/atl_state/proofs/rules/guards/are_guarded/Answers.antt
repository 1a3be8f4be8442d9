use Rattle.std.proofs.Common.{rules}
use borrow.Author.Tests.{tests}
use Rattle.std.proofs.lemmas.Bool.Decides.{Decides-like}
use Rattle.atl_state.proofs.GuardLaws.{IsHeldByOne, guards_are_of_one_faction, lists_are_held_by_one}
use Rattle.atl_campaign.proofs.RuleLaws.{every_by_all}
use Rattle.atl_state.proofs.rules.guards.are_guarded.Goals as goal

pub returns : goal.returns
returns c =
    let what = c.args.campaign.now.value in
    Decides-like c.all.result (guards_are_of_one_faction what c.requires) (lists_are_held_by_one what) (every_by_all (λ r _. IsHeldByOne what r) _ _ _ c.all.ensures.ran what.regions (search rules) (λ x q k. search (rules, tests)) (λ x q k. search (rules, tests)))
