use Rattle.std.proofs.Common.{◌≡◌, take, length}
use Rattle.atl_tables.proofs.same_worlds.are_same.Given as goal

-- the two lists have the same length, and equal things at all indices below i
abbrev pub invariant-loop-i : goal.invariant-loop-i
invariant-loop-i g l = record {
  count : length l.things ≡ length l.others;
  same : take l.i l.things ≡ take l.i l.others;
}
