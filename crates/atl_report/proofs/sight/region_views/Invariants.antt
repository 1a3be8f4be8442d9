use Rattle.std.proofs.Common.{◌≡◌, ◌++◌}
use Rattle.std.specs.Prelude.{option_map}
use Rattle.std.specs.FinMap.{get}
use Rattle.std.specs.List.{filter_map}
use Rattle.atl_sight.specs.Watching.{watch_over}
use Rattle.atl_report.specs.Sight.{region_view, region_views}
use Rattle.atl_report.proofs.sight.region_views.Given as goal

-- the views made so far, followed by those of the regions still to come, are the views of all regions seen
abbrev pub invariant-loop-number : goal.invariant-loop-number
invariant-loop-number l =
    l.regions ++ filter_map
    (λ e. option_map (region_view l.world l.campaign.value (watch_over l.world l.campaign.value l.faction e.0)) (get l.campaign.value.regions e.0))
    l.number-iterator ≡ region_views l.world l.campaign.value l.faction
