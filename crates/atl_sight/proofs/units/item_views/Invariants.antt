use Rattle.std.proofs.Common.{◌≡◌, ◌++◌, map}
use Rattle.atl_sight.specs.Units.{item_view, item_views}
use Rattle.atl_sight.proofs.units.item_views.Given as goal

abbrev pub invariant-loop-item : goal.invariant-loop-item
invariant-loop-item l = l.items ++ map item_view l.item-iterator ≡ item_views l.holding
