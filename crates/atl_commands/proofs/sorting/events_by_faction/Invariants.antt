use Rattle.std.proofs.Common.{◌≡◌, ◌++◌, ℕ, drop}
use Rattle.atl_sight.specs.Events.{own_events}
use Rattle.atl_commands.specs.Sorting.{events_of}
use Rattle.atl_commands.proofs.sorting.events_by_faction.Given as goal

-- a faction's list, followed by its own events among those that are left, has all of its own events in order
abbrev pub invariant-loop-event : goal.invariant-loop-event
invariant-loop-event l =
    (n : ℕ) → events_of l.sorted n ++ own_events n (drop l.event-index l.events) ≡ own_events n l.events
