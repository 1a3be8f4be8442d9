use Rattle.atl_campaign.proofs.GoodLaws.{IsEarly-good}
use Rattle.atl_phase_tests.proofs.RunLaws.{roomy_when_good}
use Rattle.atl_phase_tests.proofs.settings.campaign_of.Goals as goal

pub empty_units-requires : goal.empty_units-requires
empty_units-requires c = record { early = IsEarly-good c.args.world.now c.in_ok-campaign.campaign.value c.in_ok-campaign.ensures }

-- the campaign's books are roomy (`IsRoomy`): those of a good campaign are, and losing men doesn't change them
pub returns-clause-room : goal.returns-clause-room
returns-clause-room c = roomy_when_good c.args.world.now c.in_ok-campaign.campaign.value c.empty_units.new.campaign.value c.in_ok-campaign.ensures c.empty_units.ensures.books
