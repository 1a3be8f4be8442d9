-- What writing a whole campaign into empty tables does; all but `WritesFounding` is for proofs and private functions.
-- `old` is the database before the write, and `new` after it.
use Rattle.std.specs.Prelude.{◌≡◌, [], ◌∷◌, List, ℕ}
use Rattle.sqlite.specs.Effect.{Database}
use Rattle.sqlite.specs.Order.{Row}
use Rattle.atl_campaign.specs.Campaign.{CampaignValue}
use Rattle.atl_descriptions.specs.Sets.{HasExactly, rows_in}
use Rattle.atl_descriptions.specs.Tables.{Part, campaign_table}
use Rattle.atl_sql.specs.Inside.{Changes}
use Rattle.atl_writing.specs.Rows.{row_of_campaign, rows_for, Holds}

-- one part is filled: if its table had no row (`before`), it has exactly the campaign's rows afterwards (`after`);
-- `own` is the campaign row
abbrev pub Fills : CampaignValue → Row → Part → List Row → List Row → Type 0
Fills c own part before after = before ≡ [] → HasExactly after (rows_for own c part)

-- The table of each listed part, if it was empty, gets exactly the campaign's rows; the tables of all other parts stay.
-- This is said of any campaign row, `own`, so it is meant for lists without the part of that row.
abbrev pub FillsParts : CampaignValue → List Part → Database → Database → Type 0
FillsParts c parts old new = (own : Row) → Changes (Fills c own) parts old new

-- The table of this part, if it was empty, gets exactly the campaign's rows; the tables of all other parts stay.
-- As `FillsParts`, it isn't meant for the campaign row.
abbrev pub FillsPart : CampaignValue → Part → Database → Database → Type 0
FillsPart c part = FillsParts c (part ∷ [])

-- If the table `campaign` was empty, the table of each listed part that was empty gets exactly the campaign's rows, and
-- the tables of all other parts stay. The campaign row, which may be among the parts, gets this world text.
abbrev pub FillsWithOwn : List ℕ → CampaignValue → List Part → Database → Database → Type 0
FillsWithOwn text c parts old new = rows_in campaign_table old.trees ≡ [] → Changes (Fills c (row_of_campaign text c)) parts old new

-- a founding is written: the tables hold the world text and the campaign, whatever they held before
abbrev pub WritesFounding : List ℕ → CampaignValue → Database → Database → Type 0
WritesFounding text c old new = Holds new.trees text c
