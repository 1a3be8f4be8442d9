use Rattle.atl_world.proofs.KeyLaws.{RisesTo}
use Rattle.atl_state.proofs.row_rules.keys.are_sorted.Given as goal

-- the values before index `i` rise
abbrev pub invariant-loop-i : goal.invariant-loop-i
invariant-loop-i g l = RisesTo g.met.K.Ord.total l.i l.keys
