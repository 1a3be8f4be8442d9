-- For proofs alone: the events of a month, sorted by faction.
use Rattle.std.specs.Prelude.{◌≡◌, ◌++◌, ℕ, List, [], ◌∷◌, unwrap_or}
use Rattle.std.specs.Ordering.{nat_cmp}
use Rattle.std.specs.FinMap.{FinMap, get, insert}
use Rattle.atl_records.specs.declared.event.Event.{Event}
use Rattle.atl_sight.specs.Events.{own_events}

-- the events listed under a faction's number; none if there is no list
abbrev pub events_of : FinMap nat_cmp (List Event) → ℕ → List Event
events_of sorted faction = unwrap_or (get sorted faction) []

-- the sorted lists with one event added at the end of its faction's list
abbrev pub with_event : FinMap nat_cmp (List Event) → Event → FinMap nat_cmp (List Event)
with_event sorted e = insert sorted e.faction (events_of sorted e.faction ++ (e ∷ []))

-- `sorted` lists under each faction's number its own events of `events`, in their order.
abbrev pub AreSorted : List Event → FinMap nat_cmp (List Event) → Type 0
AreSorted events sorted = (faction : ℕ) → events_of sorted faction ≡ own_events faction events
