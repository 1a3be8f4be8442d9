use Rattle.std.proofs.Common.{All}
use Rattle.atl_orders.specs.Mailing.{IsReadWith}
use Rattle.atl_game_tests.proofs.tests.months.mailings_of.Given as goal

-- before each text is read: each mailing in the list so far was read with the world (`IsReadWith`)
abbrev pub invariant-loop-text : goal.invariant-loop-text
invariant-loop-text l = All (IsReadWith l.world) l.mailings.items
