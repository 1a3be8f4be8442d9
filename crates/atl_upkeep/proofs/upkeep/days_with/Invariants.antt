use Rattle.std.proofs.Common.{◌≡◌, ◌*◌, ◌/◌, ◌++◌, map}
use Rattle.atl_upkeep.specs.UpkeepTaken.{staying_list}
use Rattle.atl_upkeep.proofs.upkeep.days_with.Given as goal

-- before each skill: the list, and the days that stay of the skills still to come, are the days that stay of all
abbrev pub invariant-loop-skill : goal.invariant-loop-skill
invariant-loop-skill l =
    (goal.iterator-loop-skill).can_next l.skill-iterator ×
    (goal.iterator-loop-skill).is_finite l.skill-iterator ×
    (l.list.items ++ map (λ e. (e.0, e.1 * l.left / l.men)) l.skill-iterator ≡ staying_list l.left l.men l.holding.days)
