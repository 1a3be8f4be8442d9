use Rattle.std.proofs.Common.{◌≡◌, ◌+◌, ◌≤◌, ◌++◌, List, length}
use Rattle.std.specs.FinMap.{len}
use Rattle.atl_world.specs.Sums.{by_number}
use Rattle.atl_tables.proofs.has_number.by_number.Given as goal

-- the map is that of the values taken off the vector's end so far, each under its number, with no more entries than
-- these
abbrev pub invariant-loop-value : goal.invariant-loop-value
invariant-loop-value g l = record {
  whole : (rest : List _) × (l.values.items ++ rest ≡ l.fn.values.items)
      × (l.numbered ≡ by_number g.T.HasNumber.own_number_of rest);
  few : len l.numbered + length l.values.items ≤ length l.fn.values.items;
}

abbrev pub decreases-loop-value : goal.decreases-loop-value
decreases-loop-value g l = length l.values.items
