use Rattle.std.proofs.Common.{rules}
use borrow.Author.Tests.{tests}
use Rattle.atl_words.specs.Header.{IsMailingOf}
use Rattle.atl_campaign.specs.Good.{IsActive}
use Rattle.atl_campaign.proofs.RuleLaws.{every_by_all}
use Rattle.atl_state.proofs.rules.mail.are_mailings.Goals as goal

pub returns : goal.returns
returns c =
    every_by_all (λ n text. IsMailingOf n text × IsActive c.args.campaign.now.value n) _ _ _ c.all.ensures.ran
    c.args.campaign.now.value.mail (search rules) (λ x q k. search (rules, tests)) (λ x q k. search (rules, tests))
