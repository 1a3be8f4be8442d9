use Rattle.std.proofs.Common.{◌≡◌, drop, map}
use Rattle.std.specs.Prelude.{max}
use Rattle.std.specs.FinMap.{get}
use Rattle.atl_sight.specs.Watching.{greatest, observation_of, best_observation}
use Rattle.atl_sight.proofs.watch.best_observation.Given as goal

-- the greater of the observation level so far and the best of the units still to come is the best of all units
abbrev pub invariant-loop-number : goal.invariant-loop-number
invariant-loop-number l =
    max l.best
    (greatest (map (λ n. observation_of l.world (get l.campaign.value.units n)) (drop l.number-index l.numbers))) ≡
    best_observation l.world l.campaign.value l.numbers
