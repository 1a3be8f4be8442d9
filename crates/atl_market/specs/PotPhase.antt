-- A phase in which the units of each region share a pot: who takes part, what each gets, and what is reported. All of
-- it is read from the campaign as the phase began. What PRODUCE makes out of raw items counts as a share too, though
-- it comes out of no pot. See docs/RULES.md, "Pots".
use Rattle.std.specs.Prelude.{ℕ, Bool, true, false, List, map, reverse, Option, Some, None, option_map, unwrap_or, Result, Ok, Err, if◌then◌else◌}
use Rattle.std.specs.List.{filter_map, fold}
use Rattle.std.specs.Result.{is_ok, result_ok}
use Rattle.std.specs.Ordering.{nat_cmp}
use Rattle.std.specs.FinMap.{FinMap, entries, from_entries, get}
use Rattle.atl_world.specs.Worlds.{WorldValue}
use Rattle.atl_lines.specs.declared.order.Operands.TheVariants as operands
use Rattle.atl_world.specs.declared.verb.Verb.{Verb}
use Rattle.atl_lines.specs.Orders.{OperandsValue}
use Rattle.atl_records.specs.declared.event.Event.{Event}
use Rattle.atl_records.specs.declared.event.EventFault.{EventFault}
use Rattle.atl_records.specs.declared.event.EventFault.TheVariants.{NotYours}
use Rattle.atl_records.specs.declared.event.Outcome.{Outcome}
use Rattle.atl_records.specs.declared.event.Outcome.TheVariants.{Done, Fault}
use Rattle.atl_records.specs.declared.records.Unit.{Unit}
use Rattle.atl_records.specs.Events.{event_fault_number}
use Rattle.atl_campaign.specs.Campaign.{CampaignValue}
use Rattle.atl_phase.specs.Month.{MonthValue, with_events}
use Rattle.atl_phase.specs.PhaseOrders.{Task, orders_by_unit}
use Rattle.atl_phase.specs.OrderEffects.{event_for, of_faction}
use Rattle.atl_phase.specs.Meaning.{Meaning}

-- ---- what an order names

-- the item that the operands of PRODUCE, SELL or BUY name; None for operands of any other form
abbrev pub item_in : OperandsValue → Option ℕ
item_in (operands.Item i) = Some i
item_in (operands.Goods n i) = Some i
item_in other = None

-- whether operands ask for a count, as those of RECRUIT, SELL and BUY do
abbrev pub asks_count : OperandsValue → Bool
asks_count (operands.Number n) = true
asks_count (operands.Goods n i) = true
asks_count other = false

-- how many the operands of RECRUIT, SELL or BUY ask for; 0 for operands of any other form
abbrev pub count_in : OperandsValue → ℕ
count_in (operands.Number n) = n
count_in (operands.Goods n i) = n
count_in other = 0

-- ---- the meaning of a phase with pots

-- what is particular to one phase with pots: its faults, wants and shares, and what a share changes
pub record PotMeaning : Type 0 where
  -- the fault that the phase finds in an order that the unit's own faction wrote for it, if there is one
  pub fault : WorldValue → Unit → Task → Option EventFault
  -- how much a unit wants by an order: of the pot of its region, or of its item's pot there
  pub want : WorldValue → Unit → Task → ℕ
  -- how much each unit gets, by unit: from the item that its order names and its want, both also by unit
  pub grants : (items : FinMap nat_cmp ℕ) → WorldValue → CampaignValue → (wants : FinMap nat_cmp ℕ) → FinMap nat_cmp ℕ
  -- the number in the event of a unit's order, by the unit's share of the pot
  pub event_number : WorldValue → Unit → ℕ → ℕ
  -- The campaign after the unit of a pair (unit, share) got its share of the pot of its region, or of that of its item
  -- there. `items` has the item that each unit's order names, by unit.
  pub paid : (items : FinMap nat_cmp ℕ) → WorldValue → CampaignValue → ℕ × ℕ → CampaignValue

-- A map by unit, such as of wants, from a list of pairs (unit, number); of several pairs for one unit the last counts.
-- In a phase no unit has two pairs: of the phase's orders for it that its own faction wrote, only one counts.
abbrev pub by_unit : List (ℕ × ℕ) → FinMap nat_cmp ℕ
by_unit es = from_entries (reverse es)

-- the unit where there is no fault, else the fault
abbrev pub unless_fault : Option EventFault → Unit → Result Unit EventFault
unless_fault None u = Ok u
unless_fault (Some fault) u = Err fault

-- `p` is the phase, and `c` the campaign as it begins
module _ (p : PotMeaning) (w : WorldValue) (c : CampaignValue) where
  -- ---- who takes part

  -- the given unit of the order's faction, which carries the order out, or the fault that the phase finds; NotYours
  -- without a unit
  abbrev pub carrier_of : Task → Option Unit → Result Unit EventFault
  carrier_of t None = Err NotYours
  carrier_of t (Some u) = unless_fault (p.fault w u t) u

  -- the unit that carries an order out, or the order's fault: NotYours where it isn't there or isn't its faction's
  unfoldable pub unit_for : Task → Result Unit EventFault
  unit_for t = carrier_of t (of_faction t.faction (get c.units t.unit))

  -- the number of the unit that carries an order out, with what it wants; none where the order has a fault
  abbrev pub want_by : Task → Option (ℕ × ℕ)
  want_by t = option_map (λ u. (t.unit, p.want w u t)) (result_ok (unit_for t))

  -- The number of the unit that carries an order out, with the item that the order names; none with a fault or without
  -- an item.
  abbrev pub item_by : Task → Option (ℕ × ℕ)
  item_by t = if is_ok (unit_for t) then option_map (λ item. (t.unit, item)) (item_in t.order_value.operands) else None

  -- how much each unit that carries out an order wants, by unit
  abbrev pub wants_by : List Task → FinMap nat_cmp ℕ
  wants_by ts = by_unit (filter_map want_by ts)

  -- the item that is named in the order of each unit that carries out an order, by unit
  abbrev pub items_by : List Task → FinMap nat_cmp ℕ
  items_by ts = by_unit (filter_map item_by ts)

  -- ---- what they get

  -- how much each unit gets of the pot of its region, or of its item there, by unit
  abbrev pub given_by : List Task → FinMap nat_cmp ℕ
  given_by ts = p.grants (items_by ts) w c (wants_by ts)

  -- the campaign after each unit got its share, one unit after the other by their numbers
  unfoldable pub after_sharing : List Task → CampaignValue
  after_sharing ts = fold (p.paid (items_by ts) w) c (entries (given_by ts))

  -- ---- what is reported

  -- The outcome of an order: its fault, or Done with the number that the phase reports for the unit's share. `given`
  -- has the shares by unit; a unit without one has the share 0.
  abbrev pub outcome_of : FinMap nat_cmp ℕ → Task → Result Unit EventFault → Outcome
  outcome_of given t (Err fault) = Fault (event_fault_number fault)
  outcome_of given t (Ok u) = Done (p.event_number w u (unwrap_or (get given t.unit) 0))

  -- the event of an order, where `given` has how much each unit gets
  abbrev pub event_of : FinMap nat_cmp ℕ → Task → Event
  event_of given t = event_for t (outcome_of given t (unit_for t))

  -- an event for each order, in the order of the orders
  unfoldable pub events_by : List Task → List Event
  events_by ts = map (event_of (given_by ts)) ts

-- The meaning of a phase with pots: the campaign after sharing, and the month with the events; `orders` finds the
-- phase's orders.
abbrev pub pots_meaning : PotMeaning → (CampaignValue → MonthValue → List Task) → Meaning
pots_meaning p orders w c m = (after_sharing p w c (orders c m), with_events m (events_by p w c (orders c m)))

-- the meaning of a phase with pots whose orders are those of the month that count and have its verbs (`is_of`)
abbrev pub pots_by_orders : PotMeaning → (Verb → Bool) → Meaning
pots_by_orders p is_of = pots_meaning p (λ c m. orders_by_unit is_of m)
