use Rattle.atl_phase_tests.proofs.RunLaws.{room_for_orders}
use Rattle.atl_phase_tests.proofs.runs.carry_out.Goals as goal

pub run-requires-clause-needs : goal.run-requires-clause-needs
run-requires-clause-needs c = c.requires.early

pub run-requires-clause-room : goal.run-requires-clause-room
run-requires-clause-room c = room_for_orders c.args.campaign.value c.requires.room
