use Rattle.std.specs.Prelude.{All, ◌≤◌}
use Rattle.atl_shares.specs.declared.upkeep_sharing.UpkeepInput.{UpkeepInput}
use Rattle.atl_shares.specs.UpkeepSharing.{AreInOrder, IsUpkeepInput}
use Rattle.atl_game_tests.proofs.tests.settling.upkeep_inputs_of.Given as goal

-- before each unit of a case: the inputs made of the units so far are each within their limits (`IsUpkeepInput`), and
-- are sorted by unit number, none of which is above `last`
abbrev pub invariant-loop-region : goal.invariant-loop-region
invariant-loop-region l = record {
  each : All IsUpkeepInput l.purses.items;
  order : AreInOrder l.purses.items;
  last : All (λ (p : UpkeepInput). p.unit ≤ l.last) l.purses.items;
}
