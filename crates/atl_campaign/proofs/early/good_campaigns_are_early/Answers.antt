use Rattle.atl_campaign.proofs.GoodLaws.{IsEarly-good, sound_early}
use Rattle.atl_campaign.proofs.early.good_campaigns_are_early.Goals as goal

pub returns-clause-good : goal.returns-clause-good
returns-clause-good c = IsEarly-good

pub returns-clause-sound : goal.returns-clause-sound
returns-clause-sound c = sound_early
