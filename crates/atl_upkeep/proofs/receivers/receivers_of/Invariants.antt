use Rattle.std.proofs.Common.{◌≡◌, ◌≤◌, ℕ}
use Rattle.atl_world.specs.Sums.{numbers_among}
use Rattle.atl_world.specs.Every.{EachEntry}
use Rattle.atl_campaign.specs.Owners.{first_or_zero}
use Rattle.atl_upkeep.specs.Receivers.{or_if_zero, receiver_in}
use Rattle.atl_upkeep.specs.Sweep.{receiver, receives}
use Rattle.atl_upkeep.proofs.receivers.receivers_of.Given as goal

-- before each unit, for each region and faction: the receiver in the map, else the first among the units still to come,
-- is that of the campaign
abbrev pub invariant-loop-number : goal.invariant-loop-number
invariant-loop-number l =
    (goal.iterator-loop-number).can_next l.number-iterator ×
    (goal.iterator-loop-number).is_finite l.number-iterator ×
    ((region faction : ℕ) → or_if_zero (receiver_in l.receivers region faction) (first_or_zero (numbers_among (receives region faction) l.number-iterator)) ≡ receiver l.campaign.value region faction) ×
    EachEntry (λ n u. 1 ≤ n) l.number-iterator
