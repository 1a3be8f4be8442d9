use Rattle.std.proofs.Common.{◌≡◌, ◌≤◌, ◌-◌, ◌*◌, ◌++◌, map}
use Rattle.atl_world.specs.Every.{EachEntry}
use Rattle.atl_records.specs.Limits.{most_days}
use Rattle.atl_instant.specs.SkillDays.{left_list}
use Rattle.atl_instant.specs.Transfer.{days_going}
use Rattle.atl_instant.proofs.transfer.days_left.Given as goal

-- The skills listed so far, followed by those still to come with the days that stay, are the whole list. Each skill to
-- come has 1 day or more, and at most 450 for each man.
abbrev pub invariant-loop-skill : goal.invariant-loop-skill
invariant-loop-skill l =
    (goal.iterator-loop-skill).can_next l.skill-iterator ×
    (goal.iterator-loop-skill).is_finite l.skill-iterator ×
    EachEntry (λ s days. (1 ≤ days) × (days ≤ most_days * l.holding.men)) l.skill-iterator ×
    (l.list.items ++ map (λ e. (e.0, e.1 - days_going l.going l.men e.1)) l.skill-iterator ≡ left_list l.going l.holding.men l.holding.days)
