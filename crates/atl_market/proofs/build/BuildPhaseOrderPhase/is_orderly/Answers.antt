use Rattle.atl_market.proofs.BuildLaws.{build_orderly}
use Rattle.atl_market.proofs.build.BuildPhaseOrderPhase.is_orderly.Goals as goal

pub returns : goal.returns
returns c = build_orderly
