use Rattle.std.proofs.Common.{◌≡◌, ◌++◌, drop, string_bytes}
use Rattle.atl_sight.specs.Events.{event_lines, own_events}
use Rattle.atl_sight.proofs.events.write_events.Given as goal

-- the text so far, with the lines of own events still to come, is the text before the loop with those of all own events
abbrev pub invariant-loop-event : goal.invariant-loop-event
invariant-loop-event l =
    string_bytes l.out ++ event_lines (own_events l.faction (drop l.event-index l.events)) ≡ string_bytes l.fn.out ++
    event_lines (own_events l.faction l.events)
