use Rattle.std.proofs.Common.{◌≡◌, map, take}
use Rattle.atl_state.proofs.row_rules.names.joined_names.Given as goal

-- the names in the list are the joined names of the rows before the loop's current row
abbrev pub invariant-loop-row : goal.invariant-loop-row
invariant-loop-row l = map (λ name. name.now) l.names.items ≡ map (λ r. r.joined_as) (take l.row-index l.rows)
