-- A phase that carries its orders out one by one: each on the campaign that the order before left. `step` says what the
-- phase does for an order, and `is_of` which verbs are the phase's. See docs/RULES.md, "Orders of a month".
use Rattle.std.specs.Prelude.{ℕ, ◌≡◌, ◌==◌, ◌++◌, Bool, false, List, [], ◌∷◌, Option, Some, None, fold, if◌then◌else◌}
use Rattle.std.specs.List.{All}
use Rattle.std.specs.FinMap.{get}
use Rattle.atl_world.specs.Worlds.{WorldValue}
use Rattle.atl_world.specs.declared.verb.Verb.{Verb}
use Rattle.atl_records.specs.declared.event.Event.{Event}
use Rattle.atl_records.specs.declared.event.EventFault.TheVariants.{NotYours}
use Rattle.atl_records.specs.declared.event.EventVerb.TheVariants.{Order}
use Rattle.atl_records.specs.declared.event.Outcome.{Outcome}
use Rattle.atl_records.specs.declared.event.Outcome.TheVariants.{Fault}
use Rattle.atl_records.specs.declared.records.Unit.{Unit}
use Rattle.atl_records.specs.Events.{event_fault_number}
use Rattle.atl_campaign.specs.Campaign.{CampaignValue}
use Rattle.atl_phase.specs.Month.{Aliases, MonthValue}
use Rattle.atl_phase.specs.Meaning.{Frame, Meaning}
use Rattle.atl_phase.specs.PhaseOrders.{Task, orders_by_unit}

-- ---- the orders in turn

-- the effect of an order: from a campaign and a unit that is there to the new campaign and the outcome
abbrev pub OrderEffect : Type 0
OrderEffect = CampaignValue → Unit → CampaignValue × Outcome

-- what a phase does for an order: its effect on a unit of the faction that wrote it; None where the phase passes the
-- order over
abbrev pub OrderMeaning : Type 0
OrderMeaning = WorldValue → Aliases → Task → Option OrderEffect

-- whether a unit is there, and of a given faction
abbrev pub is_of_faction : ℕ → Option Unit → Bool
is_of_faction faction None = false
is_of_faction faction (Some u) = u.faction == faction

-- whether the unit of an order is there, and is of the faction that wrote the order
abbrev pub is_own : CampaignValue → Task → Bool
is_own c t = is_of_faction t.faction (get c.units t.unit)

-- the given unit, if there is one and it is of a given faction; None otherwise
abbrev pub of_faction : ℕ → Option Unit → Option Unit
of_faction faction None = None
of_faction faction (Some u) = if u.faction == faction then Some u else None

-- the effect of an order on a unit, if it is there; otherwise nothing changes, and the outcome is NotYours
abbrev pub effect_on : OrderEffect → CampaignValue → Option Unit → CampaignValue × Outcome
effect_on effect c None = (c, Fault (event_fault_number NotYours))
effect_on effect c (Some u) = effect c u

-- the effect of a faction's order for unit n.
-- Where the unit isn't there or isn't the faction's own, nothing changes, and the outcome is NotYours.
abbrev pub faction_effect : OrderEffect → CampaignValue → (faction n : ℕ) → CampaignValue × Outcome
faction_effect effect c faction n = effect_on effect c (of_faction faction (get c.units n))

-- the campaign after a faction's order for unit n, and its outcome (`faction_effect`); an order that is passed over
-- (None) changes nothing and has no outcome
abbrev pub order_result : Option OrderEffect → CampaignValue → (faction n : ℕ) → CampaignValue × Option Outcome
order_result None c faction n = (c, None)
order_result (Some effect) c faction n = let after = faction_effect effect c faction n in (after.0, Some after.1)

-- the event that reports an order with a given outcome
abbrev pub event_for : Task → Outcome → Event
event_for t outcome =
    record { faction = t.faction; unit = t.unit; line = t.line; verb = Order t.order_value.verb; outcome = outcome }

-- the month with the event of an order as its last; as it was, where the phase passes the order over (None)
abbrev pub with_event_of : MonthValue → Task → Option Outcome → MonthValue
with_event_of m t None = m
with_event_of m t (Some outcome) = record m { events = m.events ++ event_for t outcome ∷ [] }

-- the campaign after one order of a phase, and the month with the order's event; both stay as they are where `step`
-- passes the order over (None)
abbrev pub one_order : OrderMeaning → WorldValue → CampaignValue × MonthValue → Task → CampaignValue × MonthValue
one_order step w (c, m) t =
    let after = order_result (step w m.aliases t) c t.faction t.unit in
    (after.0, with_event_of m t after.1)

-- The effect of a phase that carries out one by one the orders that count and have a verb that passes `is_of`, by unit,
-- line and faction. For each it does what `step` says.
unfoldable pub meaning_by_orders : OrderMeaning → (Verb → Bool) → Meaning
meaning_by_orders step is_of w c m = fold (one_order step w) (c, m) (orders_by_unit is_of m)

-- ---- what stays

-- whether an order affects a unit, as a statement about the order, the unit's number and the unit's faction
abbrev pub Affects : Type 1
Affects = Task → ℕ → ℕ → Type 0

-- order t is for unit n, and faction f wrote it; f is meant as the faction of unit n
pub record IsOwnOrder (t : Task) (n f : ℕ) : Type 0 where
  pub unit : t.unit ≡ n
  pub faction : t.faction ≡ f

-- how a unit that no order affects may change all the same: a relation of the unit before to the unit after
abbrev pub Unaffected : Type 1
Unaffected = Unit → Unit → Type 0

-- the unit of this number, which was u before a change of the campaign, is still there after it, and has changed at
-- most as the relation `unaffected` allows
pub record IsStillThere (unaffected : Unaffected) (after : CampaignValue) (number : ℕ) (u : Unit) : Type 0 where
  -- the unit of this number as it is in the campaign after
  pub unit : Unit
  pub there : get after.units number ≡ Some unit
  -- `unaffected` relates u, which the unit was before, to the unit as it is after
  pub is_unaffected : unaffected u unit

-- each unit that none of the listed orders affects (`affects`) is still there after them, and has changed at most as
-- `unaffected` allows
abbrev pub AreUnaffected : Affects → Unaffected → List Task → CampaignValue → CampaignValue → Type 0
AreUnaffected affects unaffected ts before after =
    (n : ℕ) (u : Unit) → get before.units n ≡ Some u → All (λ t. affects t n u.faction → ⊥) ts → IsStillThere unaffected after n u

-- what a phase keeps: each unit that none of its orders affects (`affects`) is still there after the phase, and has
-- changed at most as `unaffected` allows
abbrev pub others_unaffected : Affects → Unaffected → (Verb → Bool) → Frame
others_unaffected affects unaffected is_of w m before after = AreUnaffected affects unaffected (orders_by_unit is_of m) before after
