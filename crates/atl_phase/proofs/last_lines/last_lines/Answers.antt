use Rattle.std.proofs.Common.{◌≡◌, ◌+◌, ◌<◌, max, sym, ap, ◌∙◌, rules, length, drop, map, get_or}
use Rattle.atl_orders.specs.Mailing.{entry_value}
use Rattle.atl_world.specs.Verbs.{Row}
use Rattle.atl_phase.specs.PhaseOrders.{slot_number, last_line, tasks_from}
use Rattle.atl_phase.specs.OrderIndices.{line_in, with_line}
use Rattle.atl_phase.proofs.LastLineLaws as laws
use Rattle.atl_phase.proofs.last_lines.last_lines.Goals as goal
use Rattle.atl_phase.proofs.last_lines.last_lines.Goals.{in-Some+in_ok-note, in_default}

pub loop-entry-init : goal.loop-entry-init
loop-entry-init c slot unit = laws.none_noted c.new-lines.result (slot_number slot) unit _ c.new-lines.ensures

pub loop-entry-preserved : goal.loop-entry-preserved
loop-entry-preserved c slot unit =
    let m = c.args.mailing.now in
    let i = c.loop-entry.entry-index in
    let e = c.entry-item.result in
    let lines = c.loop-entry.lines in
    let inside : i < length m.entries = search rules in
    let at : e ≡ get_or m.entries i e = c.entry-item.is ∙ ap (λ es. get_or es i e) c.as_slice-entry-items.ensures in
    let in_slot = sym (ap (λ (r : Row). r.slot) c.row.ensures) in
    let rest = last_line slot unit (tasks_from c.args.aliases.now m.faction (i + 1) (map (entry_value m.text) (drop (i + 1) m.entries))) in
    elim c.match-row.branch [
      | in-Some+in_ok-note w ↦
          ap (λ l. max (line_in l (slot_number slot) unit) rest) (w.lines-is ∙ w.in_ok-note.ensures ∙ ap (λ n. with_line lines (slot_number w.in-Some.slot) n e.line) w.unit_of-unit.ensures)
          ∙ laws.noted slot c.args.aliases.now m.faction m.text m.entries i e lines w.in-Some.slot unit inside at (in_slot ∙ w.in-Some.is)
          ∙ c.loop-entry.invariant slot unit
      | in_default w ↦
          ap (λ l. max (line_in l (slot_number slot) unit) rest) w.lines-is
          ∙ ap (max (line_in lines (slot_number slot) unit)) (laws.passed slot c.args.aliases.now m.faction m.text m.entries i e unit inside at (in_slot ∙ w.in_default.is))
          ∙ c.loop-entry.invariant slot unit
    ]
