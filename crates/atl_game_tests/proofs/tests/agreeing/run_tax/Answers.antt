use Rattle.atl_campaign.proofs.GoodLaws.{IsEarly-good}
use Rattle.atl_game_tests.proofs.RoomLaws.{room_for_tax}
use Rattle.atl_game_tests.proofs.tests.agreeing.run_tax.Goals as goal

pub run-requires-clause-needs : goal.run-requires-clause-needs
run-requires-clause-needs c = IsEarly-good c.args.world.now c.args.campaign.value c.requires.good

pub run-requires-clause-room : goal.run-requires-clause-room
run-requires-clause-room c = room_for_tax c.args.world.now c.args.campaign.value c.requires.good
