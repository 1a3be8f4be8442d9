use Rattle.std.proofs.Common.{◌≡◌, take}
use Rattle.atl_state.proofs.row_rules.keys.sorted.Given as goal

-- the list has the values before the loop's current one
abbrev pub invariant-loop-key : goal.invariant-loop-key
invariant-loop-key g l = l.sorted.items ≡ take l.key-index l.keys
