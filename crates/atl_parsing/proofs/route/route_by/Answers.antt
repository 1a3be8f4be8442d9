use Rattle.std.proofs.Common.{◌≡◌, Some, None, sym, subst}
use Rattle.matchit.specs.Seek.{first}
use Rattle.matchit.specs.Router.{RouteOf}
use Rattle.atl_parsing.specs.declared.route.RouteKey.{RouteKey}
use Rattle.atl_parsing.proofs.RouteLaws as laws
use Rattle.atl_parsing.proofs.route.route_by.Goals as goal

pub returns-in-Ok : goal.returns-in-Ok
returns-in-Ok c =
    let params = c.in-Ok.found.params in
    let route : RouteOf RouteKey = record { pattern = params.pattern.now; text = params.text.now; names = params.names.now; value = c.in-Ok.found.value.now } in
    laws.found_route_is (λ text. text.now) c.get.result c.args.path.now params.path.now route c.route_in.result c.in-Ok.ensures.path c.utf8.path (subst (λ r. first r c.args.path.now ≡ Some route) c.requires c.in-Ok.ensures.found) c.get.ensures c.route_in.ensures

pub returns-in-Err : goal.returns-in-Err
returns-in-Err c =
    sym
    (laws.no_route_if_none_found c.args.path.now (subst (λ r. first r c.args.path.now ≡ None) c.requires c.in-Err.ensures.missing))
