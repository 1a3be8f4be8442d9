-- A law: a database holds the text of at most one world.
use Rattle.std.specs.Prelude.{◌≡◌, ℕ, List, Ok}
use Rattle.sqlite_trees.specs.Tree.{Trees}
use Rattle.atl_world.specs.Worlds.{WorldValue}
use Rattle.atl_tables.specs.World.{world_of}
use Rattle.atl_campaign.specs.Campaign.{CampaignValue}
use Rattle.atl_writing.specs.Rows.{Holds}

-- The law that a database holds the text of one world: if its tables hold two texts with two campaigns, and each text
-- reads as a world, the worlds are equal.
abbrev pub HoldsOneWorld : Type 0
HoldsOneWorld =
    (v w : WorldValue) (db : Trees) (one other : List ℕ) (c d : CampaignValue)
    → world_of one ≡ Ok v
    → world_of other ≡ Ok w
    → Holds db one c
    → Holds db other d
    → v ≡ w
