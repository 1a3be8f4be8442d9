-- The value of a month in contracts: mailings, aliases, dice words and events.
use Rattle.std.specs.Prelude.{◌≡◌, ◌++◌, ℕ, List, map, refl, Option}
use Rattle.std.specs.Borrow.{u8}
use Rattle.std.specs.Ordering.{nat_cmp, eq_by_cmp}
use Rattle.std.specs.List.{IsDistinct}
use Rattle.std.specs.List.Sorted.{IsPermutation}
use Rattle.std.specs.Coded.{Coded, code_by, coded×, coded_ℕ, coded_list}
use Rattle.std.specs.FinMap.{FinMap, code, from_entries, get, insert}
use Rattle.atl_world.specs.contracts.sequence.Sequence as sequence
use Rattle.atl_world.specs.Groups.{group_of}
use Rattle.atl_orders.specs.declared.mailing.Mailing.{Mailing}
use Rattle.atl_lines.specs.declared.fault.FaultyLine.{FaultyLine}
use Rattle.atl_lines.specs.declared.order.UnitRef.{UnitRef}
use Rattle.atl_lines.specs.contracts.fault.FaultyLine as faulty
use Rattle.atl_lines.specs.contracts.order.Order as order
use Rattle.atl_lines.specs.contracts.order.UnitRef as target
use Rattle.atl_orders.specs.Mailing.{EntryValue, Reading, reading_of}
use Rattle.atl_lines.specs.Orders.{OrderValue}
use Rattle.atl_records.specs.declared.event.Event.{Event}
use Rattle.atl_records.specs.contracts.event.Event as event

-- the numbers of the units that FORM made, by faction and then by alias
abbrev pub Aliases : Type 0
Aliases = FinMap nat_cmp (FinMap nat_cmp ℕ)

-- What the phases of a month hand on, as contracts see it.
pub record MonthValue : Type 0 where
  -- what was read of each faction's mailing, by faction
  pub readings : FinMap nat_cmp Reading
  -- the units that FORM made, by faction and alias
  pub aliases : Aliases
  -- the words of the dice (random numbers) that the month was given
  pub words : List ℕ
  -- the events so far, in the order in which they came
  pub events : List Event

-- ---- the encoding of a month for the logic

-- for `month_code`: the encoding of what an order says, with its names as texts
abbrev pub order_value_code : Coded OrderValue
order_value_code = (order.the_row (sequence.the_row u8)).coded

-- for `month_code`: the encoding of an order in a mailing by its line, the unit that it names, and what it says
abbrev pub entry_code : Coded EntryValue
entry_code =
    code_by (ℕ × (UnitRef × OrderValue)) (coded× coded_ℕ (coded× target.the_row.coded order_value_code))
    (λ e. (e.line, (e.target, e.order_value)))
    (λ p. record { line = p.0; target = p.1.0; order_value = p.1.1 })
    (λ _. refl)

-- for `month_code`: the encoding of what was read of a mailing by its faction, its orders and its faulty lines
abbrev pub reading_code : Coded Reading
reading_code =
    code_by (ℕ × (List EntryValue × List FaultyLine))
    (coded× coded_ℕ (coded× (coded_list entry_code) (coded_list faulty.the_row.coded)))
    (λ r. (r.faction, (r.entries, r.faults)))
    (λ p. record { faction = p.0; entries = p.1.0; faults = p.1.1 })
    (λ _. refl)

-- the encoding of a month's value by its readings, aliases, words and events; `Model` requires one of each type that
-- contracts see (`coded` in src/month.rt)
abbrev pub month_code : Coded MonthValue
month_code =
    code_by (FinMap nat_cmp Reading × (Aliases × (List ℕ × List Event)))
    (coded× (code coded_ℕ reading_code)
    (coded× (code coded_ℕ (code coded_ℕ coded_ℕ)) (coded× (coded_list coded_ℕ) (coded_list event.the_row.coded))))
    (λ c. (c.readings, (c.aliases, (c.words, c.events))))
    (λ p. record { readings = p.0; aliases = p.1.0; words = p.1.1.0; events = p.1.1.1 })
    (λ _. refl)

-- ---- aliases

-- the number of the unit that FORM made for a faction (the first number) under an alias; None where there is none
abbrev pub alias_unit : Aliases → ℕ → ℕ → Option ℕ
alias_unit aliases faction alias = get (group_of aliases faction) alias

-- The aliases with one more, or with another unit for an alias that is there. The numbers are the faction's, the alias,
-- and that of the unit that FORM made under it.
abbrev pub with_alias : Aliases → ℕ → ℕ → ℕ → Aliases
with_alias aliases faction alias unit = insert aliases faction (insert (group_of aliases faction) alias unit)

-- ---- events

-- the month with more events, which come after those that it has
abbrev pub with_events : MonthValue → List Event → MonthValue
with_events m events = record m { events = m.events ++ events }

-- ---- mailings

-- no two mailings of a list are of one faction
abbrev pub HaveOwnFactions : List Mailing → Type 0
HaveOwnFactions mailings = IsDistinct (eq_by_cmp nat_cmp) (map (λ m. m.faction) mailings)

-- the map of the readings of a list, each under its faction; of two of one faction it has the first
abbrev pub by_faction : List Reading → FinMap nat_cmp Reading
by_faction readings = from_entries (map (λ r. (r.faction, r)) readings)

-- A law: mailings of different factions, listed in another order, give the same map of readings.
abbrev pub HaveNoOrder : Type 0
HaveNoOrder =
    (mailings others : List Mailing) → HaveOwnFactions mailings → IsPermutation mailings others →
    by_faction (map reading_of mailings) ≡ by_faction (map reading_of others)
