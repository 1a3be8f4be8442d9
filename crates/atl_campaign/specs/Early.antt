-- The laws that sound and good campaigns are early: steady, and in each region all guard flags set are of one faction.
use Rattle.atl_world.specs.Worlds.{WorldValue}
use Rattle.atl_campaign.specs.Campaign.{CampaignValue}
use Rattle.atl_campaign.specs.Good.{IsEarly, IsGood, IsSound}

-- Each sound campaign is early: steady, and in each region all guard flags set are of one faction.
-- Its units have men, so each unit with a set flag guards, and at most one faction guards a region.
abbrev pub SoundAreEarly : Type 0
SoundAreEarly = (w : WorldValue) (c : CampaignValue) → IsSound w c → IsEarly w c

-- Each good campaign is early: steady, and in each region all guard flags set are of one faction.
abbrev pub GoodAreEarly : Type 0
GoodAreEarly = (w : WorldValue) (c : CampaignValue) → IsGood w c → IsEarly w c
