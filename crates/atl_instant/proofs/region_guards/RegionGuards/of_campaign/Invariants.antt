use Rattle.std.proofs.Common.{◌≡◌}
use Rattle.atl_instant.specs.RegionGuards.{guard_map_of, with_guards_of}
use Rattle.atl_instant.proofs.region_guards.RegionGuards.of_campaign.Given as goal

-- noting the units still to come in the map so far gives the map of all guards of the campaign
abbrev pub invariant-loop-unit : goal.invariant-loop-unit
invariant-loop-unit l =
    (goal.iterator-loop-unit).can_next l.unit-iterator ×
    (goal.iterator-loop-unit).is_finite l.unit-iterator ×
    (with_guards_of l.holders l.unit-iterator ≡ guard_map_of l.campaign.value)
