use Rattle.std.proofs.Common.{arith}
use Rattle.atl_campaign.proofs.GoodLaws.{IsEarly-good}
use Rattle.atl_game_tests.proofs.RoomLaws.{room_for_selling}
use Rattle.atl_game_tests.proofs.tests.agreeing.run_sell.Goals as goal

-- what `run` of SELL requires, as `run_sell` calls it: a bound on the size of `SellPhase`, a type without fields, and
-- then its clauses `needs`, `room` and `read`
pub run-requires : goal.run-requires
run-requires c = (
  omega arith,
  (
    IsEarly-good c.args.world.now c.args.campaign.value c.requires.good,
    (room_for_selling c.args.world.now c.args.campaign.value c.requires.good, c.requires.read),
  ),
)
