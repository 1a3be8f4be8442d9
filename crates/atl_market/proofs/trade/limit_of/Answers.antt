use Rattle.std.proofs.Common.{◌≡◌, Some, rules}
use Rattle.std.specs.FinMap.{get}
use Rattle.atl_market.proofs.trade.limit_of.Goals as goal

pub returns-in-Some-get-clause-bound : goal.returns-in-Some-get-clause-bound
returns-in-Some-get-clause-bound c =
    let plan : get c.args.world.now.regions c.args.region ≡ Some c.in-Some.plan.now = search rules in
    let market : get c.in-Some.plan.now.markets c.args.item ≡ Some c.in-Some-get.market.now = search rules in
    ((c.region.ensures.world.regions c.args.region c.in-Some.plan.now plan).markets c.args.item c.in-Some-get.market.now market).limit
