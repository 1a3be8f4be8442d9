use Rattle.atl_pots.specs.Pots.{AreWants}
use Rattle.atl_game_tests.proofs.tests.pots.wants_of.Given as goal

-- before each taker: no want in the map is more than 999,999,999 (`AreWants`)
abbrev pub invariant-loop-want : goal.invariant-loop-want
invariant-loop-want l = AreWants l.wants
