-- What SELL, BUY, RECRUIT and PRODUCE leave alone: units for which their own faction wrote no order of the phase that
-- counts. A unit is no worse off (`IsNoWorse`) with the same faction, region, structure, name and guard flag, and no
-- less men, money, items or days.
use Rattle.std.specs.Prelude.{◌≡◌, ◌==◌, ◌&&◌, ℕ, Bool, false, List, Some}
use Rattle.std.specs.List.{list_any}
use Rattle.std.specs.FinMap.{get}
use Rattle.atl_records.specs.declared.records.Unit.{Unit}
use Rattle.atl_world.specs.Every.{Every}
use Rattle.atl_campaign.specs.Campaign.{CampaignValue}
use Rattle.atl_world.specs.declared.verb.Verb.{Verb}
use Rattle.atl_phase.specs.Meaning.{Frame}
use Rattle.atl_phase.specs.PhaseOrders.{Task, orders_by_unit}
use Rattle.atl_phase.specs.NoWorse.{IsNoWorse}

-- whether one of the orders `os` is for a unit, by its number, and from the unit's own faction
abbrev pub has_own_order : List Task → ℕ → Unit → Bool
has_own_order os n u = list_any (λ o. o.unit == n && o.faction == u.faction) os

-- each unit of `before` for which its own faction wrote none of the orders `os` is there in `after`, and no worse off
abbrev pub OthersAreNoWorse : List Task → CampaignValue → CampaignValue → Type 0
OthersAreNoWorse os before after =
    Every (λ n u. has_own_order os n u ≡ false → (v : Unit) × (get after.units n ≡ Some v) × IsNoWorse u v) before.units

-- What a phase with the verbs `is_of` leaves alone: units for which their own faction wrote no order of the phase that
-- counts are there and no worse off.
abbrev pub no_worse_without_order : (Verb → Bool) → Frame
no_worse_without_order is_of w m before after = OthersAreNoWorse (orders_by_unit is_of m) before after
