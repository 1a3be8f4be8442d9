use Rattle.atl_phase.proofs.RoomLaws.{one_phase_has_room}
use Rattle.atl_month.proofs.close.one_phase_has_room.Goals as goal

pub returns : goal.returns
returns c = one_phase_has_room
