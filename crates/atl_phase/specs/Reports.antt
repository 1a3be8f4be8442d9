-- The events of orders: what an event says of its order, which orders count, and that each of these has one event. See
-- docs/RULES.md, "Orders of a month".
use Rattle.std.specs.Prelude.{◌≡◌, ℕ, ◌==◌, ◌&&◌, Bool, true, List, [], ◌∷◌, map, filter}
use Rattle.std.specs.Ordering.{nat_cmp}
use Rattle.std.specs.FinMap.{FinMap}
use Rattle.atl_orders.specs.Mailing.{Reading}
use Rattle.atl_records.specs.declared.event.Event.{Event}
use Rattle.atl_records.specs.declared.event.EventVerb.{EventVerb}
use Rattle.atl_records.specs.declared.event.EventVerb.TheVariants.{Order}
use Rattle.atl_phase.specs.Month.{Aliases}
use Rattle.atl_phase.specs.PhaseOrders.{IsInMailing, Task, order_counts, tasks_of}

-- what an event says of its order, or of work without an order or upkeep, beside what came of it
pub record Report : Type 0 where
  -- the number of the faction that wrote the order, or whose unit it is
  pub faction : ℕ
  -- the number of the unit that the order is for, or that the event is of
  pub unit : ℕ
  -- the line of the order in its mailing, from 1 on; 0 if the event is of no order
  pub line : ℕ
  -- the verb of the order, WORK for work without an order, or upkeep
  pub verb : EventVerb

-- what an event says beside its outcome
abbrev pub report_of : Event → Report
report_of e = record { faction = e.faction; unit = e.unit; line = e.line; verb = e.verb }

-- what an event of this order has to say of it
abbrev pub report_for : Task → Report
report_for t = record { faction = t.faction; unit = t.unit; line = t.line; verb = Order t.order_value.verb }

-- whether an event says that its order is of this faction and on this line
abbrev pub is_from : (faction line : ℕ) → Report → Bool
is_from faction line r = r.faction == faction && r.line == line

-- an order has exactly one of some events: just one is of its faction and on its line, and says its unit and its verb
abbrev pub HasOneEvent : List Event → Task → Type 0
HasOneEvent events t = filter (is_from t.faction t.line) (map report_of events) ≡ report_for t ∷ []

-- An order counts: it is in its faction's mailing, and if its verb has a slot, no order there for its unit in this slot
-- is on a later line. `readings` has what was read of the mailings.
pub record Counts (aliases : Aliases) (readings : FinMap nat_cmp Reading) (t : Task) : Type 0 where
  pub there : IsInMailing aliases readings t
  pub counts : order_counts (tasks_of aliases t.faction there.reading) t ≡ true
