use Rattle.std.proofs.Common.{◌≡◌, ◌<◌, ◌++◌, length}
use Rattle.std.specs.FinMap.{entries}
use Rattle.atl_world.specs.Every.{EachEntry}
use Rattle.atl_phase.proofs.items.items_of.Given as goal

-- before each item: the list and the items still to come are all items of the holding, and those to come are of the
-- world
abbrev pub invariant-loop-item : goal.invariant-loop-item
invariant-loop-item l =
    (goal.iterator-loop-item).can_next l.item-iterator ×
    (goal.iterator-loop-item).is_finite l.item-iterator ×
    (l.list.items ++ l.item-iterator ≡ entries l.holding.items) ×
    EachEntry (λ i amount. i < length l.world.items) l.item-iterator
