use Rattle.atl_action.proofs.SailLaws.{sail_orderly}
use Rattle.atl_action.proofs.sail.SailPhaseOrderPhase.is_orderly.Goals as goal

pub returns : goal.returns
returns c = sail_orderly
