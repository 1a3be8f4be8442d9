-- Laws on the world text: the text in the tables is the text with which they keep or hold a campaign.
-- `s` is the state of a connection, `c` the campaign, and `text` the world text.
use Rattle.std.proofs.Common.{◌≡◌, ℕ, List, [], ◌∷◌, refl, ap, inl}
use Rattle.sqlite.specs.Order.{Row}
use Rattle.sqlite.specs.State.{State}
use Rattle.atl_campaign.specs.Campaign.{CampaignValue}
use Rattle.atl_descriptions.specs.Sets.{HasExactly, rows_in}
use Rattle.atl_world.specs.declared.format.Format.{Format}
use Rattle.atl_world.specs.declared.format.Format.TheVariants.{Second}
use Rattle.atl_descriptions.specs.Tables.{Own, campaign_table}
use Rattle.atl_sql.specs.Shown.{campaign_row_in}
use Rattle.atl_writing.specs.Rows.{campaign_row_of}
use Rattle.atl_keeping.specs.Keeps.{Keeps}
use Rattle.atl_keeping.specs.WorldText.{world_text_in_rows, world_text}

-- the text in the tables is the one with which their only campaign row, in the format `f`, is that of `c`
pub text_held : (f : Format) (s : State) (text : List ℕ) (c : CampaignValue)
    → HasExactly (rows_in campaign_table s.now.trees) (λ r. r ≡ campaign_row_in f (campaign_row_of c) text)
    → world_text s ≡ text
text_held f s text c holds = text_in_rows (rows_in campaign_table s.now.trees) holds
  where
    text_in_rows : (rows : List Row) → HasExactly rows (λ r. r ≡ campaign_row_in f (campaign_row_of c) text)
        → world_text_in_rows rows ≡ text
    text_in_rows [] is = absurd ((is (campaign_row_in f (campaign_row_of c) text)).1 refl)
    text_in_rows (r ∷ rows) is = ap (λ (x : Row). world_text_in_rows (x ∷ [])) ((is r).0 (inl refl))

-- the text in the tables of a connection that keeps a campaign with a text is this text
pub world_text_is : (s : State) (text : List ℕ) (c : CampaignValue) → Keeps s text c → world_text s ≡ text
world_text_is s text c keeps = text_held Second s text c (keeps.rows.rows Own)
