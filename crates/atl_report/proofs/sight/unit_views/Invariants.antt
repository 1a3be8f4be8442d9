use Rattle.std.proofs.Common.{◌≡◌, ◌++◌}
use Rattle.std.specs.Prelude.{option_map}
use Rattle.std.specs.FinMap.{get}
use Rattle.std.specs.List.{filter_map}
use Rattle.atl_sight.specs.Units.{unit_view}
use Rattle.atl_report.specs.Sight.{unit_views}
use Rattle.atl_report.proofs.sight.unit_views.Given as goal

-- the views made so far, followed by those of the units still to come, are the views of all units seen in the region
abbrev pub invariant-loop-number : goal.invariant-loop-number
invariant-loop-number l =
    l.units ++ filter_map
    (λ e. option_map (unit_view l.campaign.value l.watch.faction e.0) (get l.campaign.value.units e.0))
    l.number-iterator ≡ unit_views l.world l.campaign.value l.watch
