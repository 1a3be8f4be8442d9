use Rattle.atl_instant.proofs.TransferLaws.{transfer_orderly}
use Rattle.atl_instant.proofs.transfer.TransferPhaseOrderPhase.is_orderly.Goals as goal

pub returns : goal.returns
returns c = transfer_orderly
