-- The orders that a phase carries out, and their order. `is_of` says which verbs a phase has. An arrangement says what
-- orders are sorted by first: unit or faction. `readings` has what was read of each faction's mailing. An entry of a
-- mailing is one of its orders, with its line and its unit. See docs/RULES.md, "Orders of a month".
use Rattle.std.specs.Prelude.{◌≡◌, ℕ, ◌+◌, max, Bool, true, false, ◌&&◌, ◌==◌, if◌then◌else◌, List, [], ◌∷◌, map, filter, Option, Some, None, unwrap_or}
use Rattle.std.specs.List.{All, flat_map, slice_get}
use Rattle.std.specs.Ordering.{nat_cmp}
use Rattle.std.specs.Cmp.Lexicographic.{slice_cmp}
use Rattle.std.specs.FinMap.{FinMap, entries, from_entries, get, values}
use Rattle.atl_lines.specs.declared.order.UnitRef.{UnitRef}
use Rattle.atl_lines.specs.declared.order.UnitRef.TheVariants.{Number, Alias}
use Rattle.atl_world.specs.declared.verb.Slot.{Slot}
use Rattle.atl_world.specs.declared.verb.Slot.TheVariants.{MonthLong, Selling, Buying, Taxing, Recruiting}
use Rattle.atl_world.specs.declared.verb.Verb.{Verb}
use Rattle.atl_world.specs.Verbs.{row_of}
use Rattle.atl_orders.specs.Mailing.{EntryValue, Reading}
use Rattle.atl_lines.specs.Orders.{OrderValue, order_value}
use Rattle.atl_phase.specs.Month.{Aliases, MonthValue, alias_unit}
use Rattle.atl_phase.specs.declared.phase_order.PhaseOrder.{PhaseOrder}
use Rattle.atl_phase.specs.declared.phase_order.Arrangement.{Arrangement}
use Rattle.atl_phase.specs.declared.phase_order.Arrangement.TheVariants.{ByUnit, ByFaction}

-- An order of a mailing.
pub record Task : Type 0 where
  -- the number of the faction that wrote the order
  pub faction : ℕ
  -- the number of the unit that the order is for; 0 for an alias under which no unit was made
  pub unit : ℕ
  -- the line of the order in its mailing
  pub line : ℕ
  -- the index of the order among those of its mailing, from 0 on
  pub index : ℕ
  -- what the order says
  pub order_value : OrderValue

-- the order that a `PhaseOrder` of the code is, with the names from the text of its mailing
abbrev pub task_of : PhaseOrder → Task
task_of o = record {
  faction = o.faction;
  unit = o.unit;
  line = o.line;
  index = o.index;
  order_value = order_value o.mailing.now.text o.order.now;
}

-- ---- the orders of a mailing

-- the number of the unit that a faction's order names; 0 for an alias under which no unit was made
abbrev pub unit_of : Aliases → ℕ → UnitRef → ℕ
unit_of aliases faction (Number n) = n
unit_of aliases faction (Alias alias) = unwrap_or (alias_unit aliases faction alias) 0

-- the orders in some entries (`EntryValue`) of a mailing; the numbers are the faction, and the index of the first of
-- these entries in the mailing
abbrev pub tasks_from : Aliases → ℕ → ℕ → List EntryValue → List Task
tasks_from aliases faction index [] = []
tasks_from aliases faction index (e ∷ es) =
    record {
      faction = faction;
      unit = unit_of aliases faction e.target;
      line = e.line;
      index = index;
      order_value = e.order_value;
    }
    ∷ tasks_from aliases faction (index + 1) es

-- all orders of a faction's mailing
abbrev pub tasks_of : Aliases → ℕ → Reading → List Task
tasks_of aliases faction r = tasks_from aliases faction 0 r.entries

-- ---- the orders that count

-- the number of a slot, a group of verbs of which one order for a unit counts in a mailing; no two slots have one
-- number
abbrev pub slot_number : Slot → ℕ
slot_number MonthLong = 0
slot_number Selling = 1
slot_number Buying = 2
slot_number Taxing = 3
slot_number Recruiting = 4

-- whether the second slot is there (`Some`), and is the same as the first
abbrev pub is_same_slot : Slot → Option Slot → Bool
is_same_slot slot None = false
is_same_slot slot (Some other) = slot_number slot == slot_number other

-- whether a verb takes the whole month
abbrev pub is_month_long : Verb → Bool
is_month_long verb = is_same_slot MonthLong (row_of verb).slot

-- the greatest line among those orders of a list that are in a slot and for a unit; 0 where there is no such order
abbrev pub last_line : Slot → ℕ → List Task → ℕ
last_line slot unit [] = 0
last_line slot unit (t ∷ ts) =
    max (if t.unit == unit && is_same_slot slot (row_of t.order_value.verb).slot then t.line else 0) (last_line slot unit ts)

-- whether an order in a slot counts among the orders of a list: its line is the greatest in the slot for its unit; an
-- order without a slot always counts
abbrev pub counts_in_slot : List Task → Task → Option Slot → Bool
counts_in_slot ts t None = true
counts_in_slot ts t (Some slot) = t.line == last_line slot t.unit ts

-- whether an order counts, given the list of all orders of its mailing
abbrev pub order_counts : List Task → Task → Bool
order_counts ts t = counts_in_slot ts t (row_of t.order_value.verb).slot

-- ---- the orders of a phase

-- those orders that count and have a verb of the phase, given all orders of a mailing
abbrev pub tasks_for : (Verb → Bool) → List Task → List Task
tasks_for is_of ts = filter (λ t. is_of t.order_value.verb && order_counts ts t) ts

-- the orders of the factions' mailings that count and have the verbs of a phase, mailing by mailing
abbrev pub tasks_of_phase : (Verb → Bool) → Aliases → List (ℕ × Reading) → List Task
tasks_of_phase is_of aliases mailings = flat_map (λ e. tasks_for is_of (tasks_of aliases e.0 e.1)) mailings

-- The numbers that an order is sorted by: unit, line and faction, or faction, line and unit.
-- The last number is its index, which no mailing has twice.
abbrev pub key_of : Arrangement → Task → List ℕ
key_of ByUnit t = t.unit ∷ t.line ∷ t.faction ∷ t.index ∷ []
key_of ByFaction t = t.faction ∷ t.line ∷ t.unit ∷ t.index ∷ []

-- a map of some orders, each under its key; of two with one key it has the first
abbrev pub under_keys : (key : Task → List ℕ) → List Task → FinMap (slice_cmp nat_cmp) Task
under_keys key ts = from_entries (map (λ t. (key t, t)) ts)

-- some orders sorted by key, since a map lists its values by rising key; of two with one key it has the first alone
abbrev pub sorted_by : (key : Task → List ℕ) → List Task → List Task
sorted_by key ts = values (under_keys key ts)

-- the orders that count and have a verb of the phase, of all mailings, sorted as the arrangement says
abbrev pub orders_of : (Verb → Bool) → Arrangement → Aliases → FinMap nat_cmp Reading → List Task
orders_of is_of arrangement aliases readings = sorted_by (key_of arrangement) (tasks_of_phase is_of aliases (entries readings))

-- the orders of a month that count and have the verbs of a phase, by unit, line and faction
abbrev pub orders_by_unit : (Verb → Bool) → MonthValue → List Task
orders_by_unit is_of m = orders_of is_of ByUnit m.aliases m.readings

-- ---- a law

-- order t is in its faction's mailing, at its index, with its unit, its line and what it says
pub record IsInMailing (aliases : Aliases) (readings : FinMap nat_cmp Reading) (t : Task) : Type 0 where
  pub reading : Reading
  pub entry : EntryValue
  pub of_faction : get readings t.faction ≡ Some reading
  pub at_index : slice_get reading.entries t.index ≡ Some entry
  pub for_unit : unit_of aliases t.faction entry.target ≡ t.unit
  pub on_line : entry.line ≡ t.line
  pub says : entry.order_value ≡ t.order_value

-- A law: each order of a phase is in the mailing of its faction (`IsInMailing`), in either arrangement.
abbrev pub OrdersAreInMailings : Type 0
OrdersAreInMailings =
    (is_of : Verb → Bool) (arrangement : Arrangement) (aliases : Aliases) (readings : FinMap nat_cmp Reading) →
    All (IsInMailing aliases readings) (orders_of is_of arrangement aliases readings)
