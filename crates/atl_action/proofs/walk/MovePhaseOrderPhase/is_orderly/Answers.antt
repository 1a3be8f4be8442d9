use Rattle.atl_action.proofs.WalkLaws.{walk_orderly}
use Rattle.atl_action.proofs.walk.MovePhaseOrderPhase.is_orderly.Goals as goal

pub returns : goal.returns
returns c = walk_orderly
