use Rattle.std.proofs.Common.{◌≡◌, ◌≤◌, ◌*◌, sum, take}
use Rattle.atl_shares.proofs.shares.sum_of.Given as goal

-- `total` is the sum of the wants so far, and at most 999,999,999 for each of them
abbrev pub invariant-loop-want : goal.invariant-loop-want
invariant-loop-want l = record {
  value : l.total ≡ sum (take l.want-index l.wants);
  bound : l.total ≤ 999999999 * l.want-index;
}
