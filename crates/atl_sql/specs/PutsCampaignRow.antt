-- What putting the campaign row does to its table.
use Rattle.std.specs.Prelude.{◌≡◌, List, ℕ, []}
use Rattle.sqlite.specs.Effect.{Database}
use Rattle.atl_world.specs.declared.format.Format.TheVariants.{First}
use Rattle.atl_descriptions.specs.Sets.{rows_in, HasExactly}
use Rattle.atl_descriptions.specs.Tables.{campaign_table}
use Rattle.atl_sql.specs.Shown.{CampaignRowValue, campaign_row, campaign_row_in}
use Rattle.atl_sql.specs.Inside.{Puts}

-- Putting the campaign row: an empty table gets a row of the second format with the values `head` and the text `world`.
-- An only row of the second format gets these values and keeps its text. A campaign's other tables stay (`Puts`).
pub record PutsCampaignRow (head : CampaignRowValue) (world : List ℕ) (old new : Database) : Type 0 where
  pub first : rows_in campaign_table old.trees ≡ [] → Puts campaign_table 1 (campaign_row head world) old new
  pub again : (before : CampaignRowValue) (text : List ℕ)
      → HasExactly (rows_in campaign_table old.trees) (λ r. r ≡ campaign_row before text)
      → Puts campaign_table 1 (campaign_row head text) old new

-- if the only campaign row is of the first format and has the values `head`, with any world text (`before`), it becomes
-- the row of the second format with these values and the text `text`; a campaign's other tables stay (`Puts`)
abbrev pub UpgradesCampaignRow : CampaignRowValue → List ℕ → Database → Database → Type 0
UpgradesCampaignRow head text old new =
    (before : List ℕ)
    → HasExactly (rows_in campaign_table old.trees) (λ r. r ≡ campaign_row_in First head before)
    → Puts campaign_table 1 (campaign_row head text) old new
