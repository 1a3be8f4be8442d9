use Rattle.atl_instant.proofs.GiveLaws.{give_orderly}
use Rattle.atl_instant.proofs.give.GivePhaseOrderPhase.is_orderly.Goals as goal

pub returns : goal.returns
returns c = give_orderly
