use Rattle.std.proofs.Common.{◌≡◌, ◌++◌, take, vec_capacity}
use Rattle.atl_world.proofs.sorted_numbers.append.Given as goal

-- the list is what it was before the loop, followed by the numbers appended so far, and its capacity is the same
abbrev pub invariant-loop-number : goal.invariant-loop-number
invariant-loop-number l = record {
  items : l.numbers.items ≡ l.fn.numbers.items ++ take l.number-index l.others;
  room : vec_capacity l.numbers ≡ vec_capacity l.fn.numbers;
}
