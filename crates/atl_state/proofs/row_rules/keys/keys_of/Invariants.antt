use Rattle.std.proofs.Common.{◌≡◌, map, take}
use Rattle.atl_state.proofs.row_rules.keys.keys_of.Given as goal

-- the keys in the list are those of the rows before the loop's current row
abbrev pub invariant-loop-row : goal.invariant-loop-row
invariant-loop-row g l = l.keys.items ≡ map g.R.Keyed.key_of (take l.row-index l.rows)
