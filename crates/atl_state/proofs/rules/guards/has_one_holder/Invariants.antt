use Rattle.std.proofs.Common.{◌≡◌, drop, None}
use Rattle.atl_state.specs.Deciding.{guard_of, one_holder}
use Rattle.atl_campaign.specs.Campaign.{numbers_in_region}
use Rattle.atl_state.proofs.rules.guards.has_one_holder.Given as goal

-- testing the units still to come against the holder found before gives the result for all units of the region
abbrev pub invariant-loop-number : goal.invariant-loop-number
invariant-loop-number l =
    one_holder (guard_of l.campaign.value) l.holder
    (drop l.number-index (numbers_in_region l.region l.campaign.value.units)) ≡ one_holder (guard_of l.campaign.value)
    None (numbers_in_region l.region l.campaign.value.units)
