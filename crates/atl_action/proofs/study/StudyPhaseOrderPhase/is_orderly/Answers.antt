use Rattle.atl_records.specs.Holdings.{amount_of}
use Rattle.atl_action.proofs.StudyLaws.{study_orderly}
use Rattle.atl_action.proofs.study.StudyPhaseOrderPhase.is_orderly.Goals as goal

pub returns : goal.returns
returns c = study_orderly (amount_of c.args.self.now.taught)
