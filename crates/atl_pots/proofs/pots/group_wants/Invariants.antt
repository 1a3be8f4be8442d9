use Rattle.std.proofs.Common.{◌≡◌}
use Rattle.std.specs.List.{fold}
use Rattle.atl_pots.specs.WantGroups.{grouped, with_want}
use Rattle.atl_pots.proofs.pots.group_wants.Given as goal

-- putting the wants still to come into the groups so far gives the groups of all wants
abbrev pub invariant-loop-unit : goal.invariant-loop-unit
invariant-loop-unit g l =
    fold (with_want (g.A.AskedPots.asked_by l.asked)) l.groups l.unit-iterator
    ≡ grouped (g.A.AskedPots.asked_by l.asked) l.wants
