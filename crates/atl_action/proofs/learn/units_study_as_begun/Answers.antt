use Rattle.atl_action.proofs.StudyAloneLaws as laws
use Rattle.atl_action.proofs.learn.units_study_as_begun.Goals as goal

pub returns : goal.returns
returns c = laws.units_study_as_begun
