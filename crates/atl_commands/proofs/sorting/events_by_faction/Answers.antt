use Rattle.std.proofs.Common.{ap, ◌++◌}
use Rattle.atl_sight.specs.Events.{own_events}
use Rattle.atl_commands.proofs.SortLaws.{none_sorted, sorted_on}
use Rattle.atl_commands.proofs.sorting.events_by_faction.Goals as goal

pub loop-event-init : goal.loop-event-init
loop-event-init c =
    λ n. ap (λ l. l ++ own_events n c.args.events.now) (none_sorted c.new-sorted.result c.new-sorted.ensures n)

pub loop-event-preserved : goal.loop-event-preserved
loop-event-preserved c =
    λ n. sorted_on c.loop-event.sorted c.add_event.new.sorted c.args.events.now c.loop-event.event-index _
    (own_events n c.args.events.now) n c.loop-event-test.true c.in_ok-add_event.ensures (c.loop-event.invariant n)
