-- For proofs alone: when a unit's upkeep can be taken from it, and the campaign afterwards.
use Rattle.std.specs.Prelude.{◌≡◌, ◌*◌, ◌/◌, ℕ, List, map, Some}
use Rattle.std.specs.Ordering.{nat_cmp}
use Rattle.std.specs.FinMap.{FinMap, entries, get}
use Rattle.atl_world.specs.Limits.{most_amount}
use Rattle.atl_world.specs.Worlds.{WorldValue}
use Rattle.atl_records.specs.declared.records.Unit.{Unit}
use Rattle.atl_campaign.specs.Good.{IsSteady}
use Rattle.atl_campaign.specs.Lending.{with_holding_at}
use Rattle.atl_campaign.specs.Campaign.{CampaignValue}
use Rattle.atl_phase.specs.Bounds.{HaveRoom}
use Rattle.atl_shares.specs.declared.upkeep_sharing.UpkeepResult.{UpkeepResult}
use Rattle.atl_shares.specs.UpkeepSharing.{CanSpare}
use Rattle.atl_upkeep.specs.Upkeep.{after_upkeep, takes_up_to}

-- The unit is there and can spare what upkeep takes (`s`), and the campaign is steady. Its books have room for Upkeep
-- of money and Starved of people, each of 999,999,999.
pub record CanPayUpkeep (w : WorldValue) (c : CampaignValue) (s : UpkeepResult) : Type 0 where
  pub unit : Unit
  pub there : get c.units s.unit ≡ Some unit
  pub spare : CanSpare s unit.holding.men unit.holding.money
  pub steady : IsSteady w c
  pub room : HaveRoom (takes_up_to most_amount) c

-- after upkeep a unit, if it is there, holds what `after_upkeep` says; nothing else is changed, and nothing is booked
abbrev pub IsAfterUpkeep : CampaignValue → UpkeepResult → CampaignValue → Type 0
IsAfterUpkeep before s after =
    (u : Unit) → get before.units s.unit ≡ Some u → after ≡ with_holding_at before s.unit (after_upkeep s u.holding) (Some u)

-- a list of each skill, by its number, with the days that stay: the days times the men left, divided by the men before,
-- rounded down
abbrev pub staying_list : (left men : ℕ) → FinMap nat_cmp ℕ → List (ℕ × ℕ)
staying_list left men days = map (λ e. (e.0, e.1 * left / men)) (entries days)
