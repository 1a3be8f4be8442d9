use Rattle.atl_instant.proofs.NameLaws as laws
use Rattle.atl_instant.proofs.name.NamePhaseOrderPhase.is_orderly.Goals as goal

pub returns : goal.returns
returns c = laws.name_orderly
