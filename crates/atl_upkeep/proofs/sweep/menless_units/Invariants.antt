use Rattle.std.proofs.Common.{◌≡◌, ◌==◌, ◌++◌, map, filter}
use Rattle.atl_upkeep.specs.Sweep.{menless_units}
use Rattle.atl_upkeep.proofs.sweep.menless_units.Given as goal

-- before each unit: the list, and the units without men that are still to come, are all units without men
abbrev pub invariant-loop-number : goal.invariant-loop-number
invariant-loop-number l =
    (goal.iterator-loop-number).can_next l.number-iterator ×
    (goal.iterator-loop-number).is_finite l.number-iterator ×
    (l.list.items ++ map (λ e. e.0) (filter (λ e. e.1.holding.men == 0) l.number-iterator) ≡ menless_units l.campaign.value)
