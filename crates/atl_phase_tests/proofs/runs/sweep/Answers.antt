use Rattle.atl_phase_tests.proofs.RunLaws.{room_for_sweep}
use Rattle.atl_phase_tests.proofs.runs.sweep.Goals as goal

pub run-requires-clause-needs : goal.run-requires-clause-needs
run-requires-clause-needs c = c.requires.early.steady

pub run-requires-clause-room : goal.run-requires-clause-room
run-requires-clause-room c = room_for_sweep c.args.campaign.value c.requires.room
