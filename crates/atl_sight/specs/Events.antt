-- The lines of a report for faulty lines and events. See docs/FORMATS.md, "Reports".
use Rattle.std.specs.Prelude.{◌==◌, ℕ, List, [], codes, find, filter}
use Rattle.std.specs.Fmt.{decimal}
use Rattle.std.specs.Option.{option_map_or}
use Rattle.atl_world.specs.Texts.{◌▸◌}
use Rattle.atl_lines.specs.Faulting.{fault_number, fault_name}
use Rattle.atl_lines.specs.declared.fault.FaultyLine.{FaultyLine}
use Rattle.atl_records.specs.declared.event.Event.{Event}
use Rattle.atl_records.specs.declared.event.Outcome.{Outcome}
use Rattle.atl_records.specs.declared.event.Outcome.TheVariants.{Done, Fault, Starved}
use Rattle.atl_records.specs.Events.{event_keyword, event_fault_number, event_fault_name, event_faults}
use Rattle.atl_sight.specs.Each.{each_text}

-- ---- a line of the mailing that isn't read

-- the line for a faulty line of the mailing: its line number, and the fault's number and name
unfoldable pub faulty_line : FaultyLine → List ℕ
faulty_line f =
    codes "Line " ▸ decimal f.line
    ▸ codes ": " ▸ decimal (fault_number f.fault)
    ▸ codes " " ▸ fault_name f.fault ▸ codes ".\n"

-- the lines for all faulty lines of the mailing, in their order
abbrev pub faulty_lines : List FaultyLine → List ℕ
faulty_lines = each_text faulty_line

-- ---- an event

-- the name of the fault with this number; a number that is no fault's has an empty name
abbrev pub name_of_number : ℕ → List ℕ
name_of_number number = option_map_or event_fault_name (find (λ fault. event_fault_number fault == number) event_faults) []

-- the line of an event with this outcome, which is `e.outcome`: done with an amount `n`, the fault of number `k`, or
-- `n` men that starved, which names neither the line nor the verb
abbrev pub event_text : Event → Outcome → List ℕ
event_text e (Done n) =
    codes "Unit " ▸ decimal e.unit
    ▸ codes ", line " ▸ decimal e.line
    ▸ codes ", " ▸ event_keyword e.verb
    ▸ codes ": done " ▸ decimal n ▸ codes ".\n"
event_text e (Fault k) =
    codes "Unit " ▸ decimal e.unit
    ▸ codes ", line " ▸ decimal e.line
    ▸ codes ", " ▸ event_keyword e.verb
    ▸ codes ": fault " ▸ decimal k
    ▸ codes " " ▸ name_of_number k ▸ codes ".\n"
event_text e (Starved n) = codes "Unit " ▸ decimal e.unit ▸ codes ": " ▸ decimal n ▸ codes " starved.\n"

-- the line of an event in a report, with the outcome that the event has
unfoldable pub event_line : Event → List ℕ
event_line e = event_text e e.outcome

-- the lines of the events of a list, in its order
abbrev pub event_lines : List Event → List ℕ
event_lines = each_text event_line

-- ---- what a faction's report says of orders

-- those events of a list that are of the given faction
abbrev pub own_events : ℕ → List Event → List Event
own_events faction events = filter (λ e. e.faction == faction) events

-- the lines of faulty lines and then those of events, or `None.` where there is neither
abbrev pub results_text : List FaultyLine → List Event → List ℕ
results_text [] [] = codes "None.\n"
results_text faults events = faulty_lines faults ▸ event_lines events

-- the lines from `Orders:` on: of the mailing's faulty lines, then of the faction's own events, or `None.` for neither
unfoldable pub orders_part : ℕ → List FaultyLine → List Event → List ℕ
orders_part faction faults events = codes "Orders:\n" ▸ results_text faults (own_events faction events)
