-- What a month leaves to a faction that sent no mailing. See docs/RULES.md, "Closing a month".
use Rattle.std.specs.Prelude.{◌≢◌, ℕ, List}
use Rattle.std.specs.List.{All}
use Rattle.atl_orders.specs.declared.mailing.Mailing.{Mailing}
use Rattle.atl_records.specs.declared.event.Event.{Event}
use Rattle.atl_world.specs.Every.{Every}
use Rattle.atl_campaign.specs.Campaign.{CampaignValue}
use Rattle.atl_phase.specs.Unmailed.{IsLeft, starved_in}

-- none of `mailings` is from the faction
abbrev pub SentNone : List Mailing → (faction : ℕ) → Type 0
SentNone mailings faction = All (λ m. m.faction ≢ faction) mailings

-- Of each unit of `before` whose faction sent none of `mailings`, no more men starved, as `events` report, than it had.
-- If fewer did, it is there in `after` with its faction and name, no less of any item, and exactly those men less. If
-- all did, it is removed (`IsLeft`).
abbrev pub UnmailedAreLeft : List Mailing → List Event → (before after : CampaignValue) → Type 0
UnmailedAreLeft mailings events before after =
    Every (λ n u. SentNone mailings u.faction → IsLeft (starved_in events n) after n u) before.units
