use Rattle.atl_game_tests.proofs.RoomLaws.{room_for_producing}
use Rattle.atl_game_tests.proofs.tests.agreeing.run_produce.Goals as goal

pub run-requires-clause-needs : goal.run-requires-clause-needs
run-requires-clause-needs c = c.requires.good.sound.steady

pub run-requires-clause-room : goal.run-requires-clause-room
run-requires-clause-room c = room_for_producing c.args.world.now c.args.campaign.value c.requires.good
