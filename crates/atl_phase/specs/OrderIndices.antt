-- For proofs alone: where the orders that count are found in the mailings, and which of them a phase takes. An index
-- (`OrderIndex`) says in which mailing of a list an order is, and where there. `places` are indices, `ts` are orders,
-- and `is_of` says which verbs a phase has.
use Rattle.std.specs.Prelude.{◌≡◌, ◌++◌, ℕ, ◌<◌, max, Bool, true, ◌==◌, List, [], ◌∷◌, filter, map, length, slice_index_or, Option, Some, None, IfSome, unwrap_or}
use Rattle.std.specs.declared.vec.Vec.{Vec}
use Rattle.std.specs.List.{All, flat_map}
use Rattle.std.specs.Ordering.{nat_cmp}
use Rattle.std.specs.List.Sorted.{IsStrictlySortedBy}
use Rattle.std.specs.FinMap.{FinMap, get, insert}
use Rattle.atl_world.specs.Groups.{group_of}
use Rattle.atl_orders.specs.declared.mailing.Entry.{Entry}
use Rattle.atl_orders.specs.declared.mailing.Mailing.{Mailing}
use Rattle.atl_lines.specs.declared.order.Operands.TheVariants.{Nothing}
use Rattle.atl_lines.specs.declared.order.UnitRef.TheVariants.{Number}
use Rattle.atl_world.specs.declared.verb.Slot.{Slot}
use Rattle.atl_world.specs.declared.verb.Verb.{Verb}
use Rattle.atl_world.specs.declared.verb.Verb.TheVariants.{Work}
use Rattle.atl_orders.specs.Mailing.{reading_of}
use Rattle.atl_lines.specs.Orders.{order_value}
use Rattle.atl_phase.specs.declared.order_indices.OrderIndex.{OrderIndex}
use Rattle.atl_phase.specs.declared.phase_order.Arrangement.{Arrangement}
use Rattle.atl_phase.specs.declared.phase_order.Arrangement.TheVariants.{ByUnit, ByFaction}
use Rattle.atl_phase.specs.Month.{Aliases, by_faction}
use Rattle.atl_phase.specs.PhaseOrders.{Task, orders_of, tasks_of, tasks_for, last_line, slot_number}

-- the mailings are sorted by faction, and no two are of one faction
abbrev pub AreByFaction : List Mailing → Type 0
AreByFaction mailings = IsStrictlySortedBy (λ m n. nat_cmp m.faction n.faction) mailings

-- the greatest line of a mailing's orders in each slot for each unit, by the number of the slot and then by unit
abbrev pub LastLineMap : Type 0
LastLineMap = FinMap nat_cmp (FinMap nat_cmp ℕ)

-- the greatest line noted for a unit in a slot, both given by number; 0 where none is noted
abbrev pub line_in : LastLineMap → (slot unit : ℕ) → ℕ
line_in lines slot unit = unwrap_or (get (group_of lines slot) unit) 0

-- the noted lines with a line noted for a slot and a unit: the greater of it and the one that was noted for them before
abbrev pub with_line : LastLineMap → (slot unit line : ℕ) → LastLineMap
with_line lines slot unit line = insert lines slot (insert (group_of lines slot) unit (max (line_in lines slot unit) line))

-- the noted lines are the greatest lines of the orders of a list, in each slot and for each unit (`last_line`)
abbrev pub AreLastLines : List Task → LastLineMap → Type 0
AreLastLines ts lines = (slot : Slot) (unit : ℕ) → line_in lines (slot_number slot) unit ≡ last_line slot unit ts

-- whether an order, given by unit, line and slot, counts by the noted lines: its verb has no slot (None), or its line
-- is the one noted for slot and unit
abbrev pub counts_by_lines : LastLineMap → (unit line : ℕ) → Option Slot → Bool
counts_by_lines lines unit line None = true
counts_by_lines lines unit line (Some slot) = line == line_in lines (slot_number slot) unit

-- ---- all verbs, and those of a phase

-- a test that every verb passes, by which the orders of all phases are gathered at once
abbrev pub every_verb : Verb → Bool
every_verb verb = true

-- the orders of all mailings that count and have one of a phase's verbs, mailing by mailing
abbrev pub all_tasks : (Verb → Bool) → Aliases → List Mailing → List Task
all_tasks is_of aliases mailings = flat_map (λ m. tasks_for is_of (tasks_of aliases m.faction (reading_of m))) mailings

-- whether an order has one of a phase's verbs, those that pass `is_of`
abbrev pub has_verb : (Verb → Bool) → Task → Bool
has_verb is_of t = is_of t.order_value.verb

-- ---- the indices of orders

-- the numbers that the index of an order is sorted by: unit, line and faction, or faction, line and unit; and last the
-- index of the order in its mailing. They are those of `key_of` for the order.
abbrev pub key_by : Arrangement → OrderIndex → List ℕ
key_by ByUnit p = p.unit ∷ p.line ∷ p.faction ∷ p.index ∷ []
key_by ByFaction p = p.faction ∷ p.line ∷ p.unit ∷ p.index ∷ []

-- an empty mailing, for an index past the last mailing
abbrev pub no_mailing : Mailing
no_mailing = record { faction = 0; text = []; entries = []; faults = [] }

-- an order WORK for unit 0 on line 0, for an index past the last order of a mailing
abbrev pub no_entry : Entry
no_entry = record { line = 0; target = Number 0; order = record { verb = Work; operands = Nothing } }

-- the mailing at an index of a list, from 0 on; an empty one past the last
abbrev pub mailing_at : List Mailing → ℕ → Mailing
mailing_at mailings index = slice_index_or mailings index no_mailing

-- all orders of the mailing at an index of a list; none past the last mailing
abbrev pub tasks_at : Aliases → List Mailing → ℕ → List Task
tasks_at aliases mailings index = tasks_of aliases (mailing_at mailings index).faction (reading_of (mailing_at mailings index))

-- the order that an index names. Faction, unit, line and place in the mailing are those of the index; what the order
-- says is in the mailing that it names, or WORK where no order is there (`no_entry`).
abbrev pub task_at : List Mailing → OrderIndex → Task
task_at mailings p = record {
  faction = p.faction;
  unit = p.unit;
  line = p.line;
  index = p.index;
  order_value =
      order_value (mailing_at mailings p.mailing).text
      (slice_index_or (mailing_at mailings p.mailing).entries p.index no_entry).order;
}

-- the mailing that the index p names is there, and so is the order that it names in this mailing
pub record IsThere (mailings : List Mailing) (p : OrderIndex) : Type 0 where
  pub mailing : p.mailing < length mailings
  pub entry : p.index < length (mailing_at mailings p.mailing).entries

-- each index names an order that is there, and the orders that they name are ts, in this order
pub record AreIndicesOf (mailings : List Mailing) (ts : List Task) (places : List OrderIndex) : Type 0 where
  pub there : All (IsThere mailings) places
  pub tasks : map (task_at mailings) places ≡ ts

-- the new indices name the orders that the old ones name, and after them the orders ts; all of these are there, if
-- those that the old ones name are
pub record AddsIndicesOf (mailings : List Mailing) (ts : List Task) (old new : List OrderIndex) : Type 0 where
  pub there : All (IsThere mailings) old → All (IsThere mailings) new
  pub tasks : map (task_at mailings) new ≡ map (task_at mailings) old ++ ts

-- The new indices name the orders of the old ones, and after them those of the mailing at an index of the list that
-- count and have one of a phase's verbs. All are there, if the old ones are (`AddsIndicesOf`).
abbrev pub AddsMailing : (Verb → Bool) → Aliases → List Mailing → ℕ → List OrderIndex → List OrderIndex → Type 0
AddsMailing is_of aliases mailings index = AddsIndicesOf mailings (tasks_for is_of (tasks_at aliases mailings index))

-- the indices name orders that are there: all that count and have one of a phase's verbs, mailing by mailing
abbrev pub AreIndicesByMailing : (Verb → Bool) → Aliases → List Mailing → List OrderIndex → Type 0
AreIndicesByMailing is_of aliases mailings = AreIndicesOf mailings (all_tasks is_of aliases mailings)

-- the indices name orders that are there: all that count and have one of a phase's verbs, sorted by unit or by faction
-- first, as the arrangement says
abbrev pub AreOrderIndices : (Verb → Bool) → Arrangement → Aliases → List Mailing → List OrderIndex → Type 0
AreOrderIndices is_of arrangement aliases mailings =
    AreIndicesOf mailings (orders_of is_of arrangement aliases (by_faction (map reading_of mailings)))

-- the orders that some indices name and that have a verb of the phase, in the order of the indices
abbrev pub tasks_picked : (Verb → Bool) → List Mailing → List OrderIndex → List Task
tasks_picked is_of mailings places = filter (has_verb is_of) (map (task_at mailings) places)

-- The invariant of a month: its mailings, no two of one faction, are sorted by faction. The indices that were gathered,
-- if any were, name all orders that count, sorted by unit, line and faction; Z is the type of their allocator.
pub record IsSortedMonth {Z : Type 0} (aliases : Aliases) (mailings : List Mailing)
    (gathered_indices : Option (Vec OrderIndex Z)) : Type 0 where
  pub sorted : AreByFaction mailings
  pub gathered : IfSome gathered_indices (λ places. AreOrderIndices every_verb ByUnit aliases mailings places.items)
