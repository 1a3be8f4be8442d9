use Rattle.std.proofs.Common.{arith}
use Rattle.atl_campaign.proofs.GoodLaws.{IsEarly-good}
use Rattle.atl_game_tests.proofs.RoomLaws.{room_for_buying}
use Rattle.atl_game_tests.proofs.tests.agreeing.run_buy.Goals as goal

-- what `run` of BUY requires, as `run_buy` calls it: a bound on the size of `BuyPhase`, a type without fields, and then
-- its clauses `needs`, `room` and `read`
pub run-requires : goal.run-requires
run-requires c = (
  omega arith,
  (
    IsEarly-good c.args.world.now c.args.campaign.value c.requires.good,
    (room_for_buying c.args.world.now c.args.campaign.value c.requires.good, c.requires.read),
  ),
)
