use Rattle.std.proofs.Common.{◌≡◌, ◌++◌, map}
use Rattle.atl_report.specs.Sight.{market_view, market_views}
use Rattle.atl_report.proofs.sight.market_views.Given as goal

abbrev pub invariant-loop-number : goal.invariant-loop-number
invariant-loop-number l = l.markets ++ map (market_view l.region) l.number-iterator ≡ market_views l.region l.plan
