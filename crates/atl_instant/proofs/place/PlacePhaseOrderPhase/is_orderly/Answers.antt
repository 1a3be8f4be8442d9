use Rattle.atl_instant.proofs.PlaceLaws as laws
use Rattle.atl_instant.proofs.place.PlacePhaseOrderPhase.is_orderly.Goals as goal

pub returns : goal.returns
returns c = laws.place_orderly
