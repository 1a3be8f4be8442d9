use Rattle.atl_instant.proofs.QuitLaws.{quit_orderly}
use Rattle.atl_instant.proofs.quit.QuitPhaseOrderPhase.is_orderly.Goals as goal

pub returns : goal.returns
returns c = quit_orderly
