use Rattle.std.proofs.Common.{◌≡◌, ◌++◌, drop, length}
use Rattle.std.specs.List.{All}
use Rattle.toml.specs.View.{items_view}
use Rattle.atl_tables.specs.Faults.{first_fault}
use Rattle.atl_tables.specs.Arrays.{elements_conditions, elements_of}
use Rattle.atl_tables.proofs.elements.elements.Given as goal

-- The first fault of the elements not read yet is that of the array. The values read so far, followed by those of the
-- elements not read yet, are all values. There is one value, in its ranges, for each element read.
abbrev pub invariant-loop-i : goal.invariant-loop-i
invariant-loop-i g l = record {
  faults : first_fault (elements_conditions g.E.FromTable.conditions l.key l.i (items_view (drop l.i l.values.items)))
      ≡ first_fault (elements_conditions g.E.FromTable.conditions l.key 0 (items_view l.values.items));
  records : l.read.items ++ elements_of g.E.FromTable.record_of l.key l.i (items_view (drop l.i l.values.items)) ≡ elements_of g.E.FromTable.record_of l.key 0 (items_view l.values.items);
  sound : All g.E.FromTable.is_sound l.read.items;
  count : length l.read.items ≡ l.i;
}
