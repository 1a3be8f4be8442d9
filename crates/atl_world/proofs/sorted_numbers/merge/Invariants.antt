use Rattle.std.proofs.Common.{◌≡◌, ◌+◌, ◌≤◌, true, ◌++◌, length, take, drop}
use Rattle.std.specs.Ordering.{nat_cmp}
use Rattle.std.specs.Set.{sorted_merge}
use Rattle.atl_world.proofs.sorted_numbers.merge.Given as goal

-- what is left of both lists, merged, followed by the numbers that are in place already, is both whole lists merged;
-- what is left of the first list is where it was
abbrev pub invariant-loop-left : goal.invariant-loop-left
invariant-loop-left l = record {
  own : l.own ≤ l.fn.own;
  left : l.left ≤ length l.others;
  kept : take l.own l.numbers ≡ take l.own l.fn.numbers;
  merged : sorted_merge nat_cmp true (take l.own l.fn.numbers) (take l.left l.others) ++ drop (l.own + l.left) l.numbers
      ≡ sorted_merge nat_cmp true (take l.fn.own l.fn.numbers) l.others;
}

abbrev pub decreases-loop-left : goal.decreases-loop-left
decreases-loop-left l = l.own + l.left
