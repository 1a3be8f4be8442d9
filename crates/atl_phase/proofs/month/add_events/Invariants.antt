use Rattle.std.proofs.Common.{◌≡◌, drop}
use Rattle.atl_phase.specs.Month.{with_events}
use Rattle.atl_phase.proofs.month.add_events.Given as goal

-- before each event: adding the events still to come to the month so far makes what adding all events to the month at
-- first makes
abbrev pub invariant-loop-event : goal.invariant-loop-event
invariant-loop-event l = with_events l.month (drop l.event-index l.events) ≡ with_events l.fn.month l.events
