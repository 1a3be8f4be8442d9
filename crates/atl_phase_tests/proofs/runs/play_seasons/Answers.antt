use Rattle.atl_phase_tests.proofs.RunLaws.{room_for_seasons}
use Rattle.atl_phase_tests.proofs.runs.play_seasons.Goals as goal

-- an early campaign is steady, as the season needs, and the first season leaves it so for the second
pub run-requires-clause-needs : goal.run-requires-clause-needs
run-requires-clause-needs c = (c.requires.early.steady, λ w d steady. steady)

pub run-requires-clause-room : goal.run-requires-clause-room
run-requires-clause-room c = room_for_seasons c.args.campaign.value c.requires.room
