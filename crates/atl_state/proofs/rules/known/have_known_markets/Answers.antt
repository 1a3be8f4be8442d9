use Rattle.std.proofs.Common.{◌≡◌, false, ap, ◌∙◌, rules}
use Rattle.std.proofs.lemmas.Bool.{false≢true}
use borrow.Author.Tests.{tests}
use Rattle.atl_campaign.specs.Good.{AreOfMarkets}
use Rattle.atl_campaign.proofs.RuleLaws.{every_by_all}
use Rattle.atl_state.proofs.rules.known.have_known_markets.Goals as goal

pub returns : goal.returns
returns c =
    every_by_all (λ n r. AreOfMarkets c.args.world.now n r.stocks) _ _ _ c.all.ensures.ran
    c.args.campaign.now.value.regions (search rules)
    (λ x q k. (ap (λ w. record { 0 = w }) k.met.1, k.met.0.said-raw.1.1.0.ensures.0 (search (rules, tests))))
    (λ x q k every. let other : false ≡ k.met.0.said-raw.1.1.0.result = search (rules, tests) in false≢true (other ∙ k.met.0.said-raw.1.1.0.ensures.1 every))
