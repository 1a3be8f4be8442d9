use Rattle.std.proofs.Common.{◌≡◌, ◌++◌, drop}
use Rattle.std.specs.Prelude.{option_map}
use Rattle.std.specs.FinMap.{get}
use Rattle.std.specs.List.{filter_map}
use Rattle.atl_report.specs.Sight.{structure_view, structure_views}
use Rattle.atl_report.proofs.sight.structure_views_of.Given as goal

abbrev pub invariant-loop-number : goal.invariant-loop-number
invariant-loop-number l =
    l.structures ++ filter_map
    (λ n. option_map (structure_view l.world l.campaign.value l.watch n) (get l.campaign.value.structures n))
    (drop l.number-index l.numbers) ≡ structure_views l.world l.campaign.value l.watch
