-- A law: a database holds the rows of at most one world text and, for one world, one good campaign.
use Rattle.std.specs.Prelude.{◌≡◌, ℕ, List}
use Rattle.sqlite_trees.specs.Tree.{Trees}
use Rattle.atl_world.specs.Worlds.{WorldValue}
use Rattle.atl_campaign.specs.Good.{IsGood}
use Rattle.atl_campaign.specs.Campaign.{CampaignValue}
use Rattle.atl_writing.specs.Rows.{Holds}

-- The law that a database holds one campaign: two world texts, and two good campaigns of one world, that its tables
-- hold are equal.
abbrev pub HoldsOneCampaign : Type 0
HoldsOneCampaign =
    (w : WorldValue) (db : Trees) (one other : List ℕ) (c d : CampaignValue)
    → IsGood w c
    → IsGood w d
    → Holds db one c
    → Holds db other d
    → (one ≡ other) × (c ≡ d)
