use Rattle.std.proofs.Common.{sym}
use Rattle.atl_parsing.proofs.RouteLaws as laws
use Rattle.atl_parsing.proofs.route.route_of.Goals as goal

pub returns-in_default : goal.returns-in_default
returns-in_default c = sym (laws.no_route_without_utf8 c.args.path.now c.in_default.ensures.cases.0)
