use Rattle.std.proofs.Common.{◌≡◌, ◌++◌, map, drop}
use Rattle.atl_game_tests.proofs.tests.months.factions_of.Given as goal

-- before each mailing: the list of factions made so far, followed by the factions of the mailings still to come, is the
-- list of the factions of all mailings
abbrev pub invariant-loop-mailing : goal.invariant-loop-mailing
invariant-loop-mailing l = l.factions.items ++ map (λ m. m.faction) (drop l.mailing-index l.mailings) ≡ map (λ m. m.faction) l.mailings
