use Rattle.std.proofs.Common.{IsSome, rules}
use borrow.Author.Tests.{tests}
use Rattle.atl_world.specs.ByNumber.{market_of}
use Rattle.atl_campaign.proofs.RuleLaws.{every_by_all}
use Rattle.atl_state.proofs.rules.known.has_known_markets.Goals as goal

pub returns : goal.returns
returns c =
    every_by_all (λ i amount. IsSome (market_of c.args.world.now c.args.number i)) _ _ _ c.all.ensures.ran
    c.args.region.now.stocks (search rules) (λ x q k. search (rules, tests)) (λ x q k. search (rules, tests))
