use Rattle.std.proofs.Common.{◌≡◌, ℕ, map, max, drop}
use Rattle.atl_world.specs.declared.verb.Slot.{Slot}
use Rattle.atl_orders.specs.Mailing.{entry_value, reading_of}
use Rattle.atl_phase.specs.PhaseOrders.{last_line, slot_number, tasks_of, tasks_from}
use Rattle.atl_phase.specs.OrderIndices.{line_in}
use Rattle.atl_phase.proofs.last_lines.last_lines.Given as goal

-- before each order, for each slot and unit: the greater of the noted line and the greatest line still to come is the
-- greatest line of the mailing
abbrev pub invariant-loop-entry : goal.invariant-loop-entry
invariant-loop-entry l =
    (slot : Slot) (unit : ℕ) →
    max (line_in l.lines (slot_number slot) unit) (last_line slot unit (tasks_from l.aliases l.mailing.faction l.entry-index (map (entry_value l.mailing.text) (drop l.entry-index l.mailing.entries))))
    ≡ last_line slot unit (tasks_of l.aliases l.mailing.faction (reading_of l.mailing))
