-- What becomes of a campaign once `unit_mut` lends a unit's holding, which is what the unit has. The loan is a
-- reference through which the holding may be written. A unit's goods are its items and days of study.
use Rattle.std.specs.Prelude.{ℕ, Option, Some, None}
use Rattle.std.specs.FinMap.{get, insert}
use Rattle.std.specs.Borrow.{LendsIf, MutBor, Fml}
use Rattle.atl_records.specs.Holdings.{HoldingValue}
use Rattle.atl_campaign.specs.Campaign.{CampaignValue, MarkedCampaign}
use Rattle.atl_campaign.specs.Marking.{mark_unit}
use Rattle.atl_records.specs.declared.records.Unit.{Unit}
use Rattle.atl_campaign.specs.contracts.campaign.Campaign.{the_row}
use Rattle.atl_records.specs.contracts.holding.Holding as holding

-- `with_holding` once unit n is looked up: n gets the holding h; where n isn't there (None), nothing changes
abbrev pub with_holding_at : CampaignValue → ℕ → HoldingValue → Option Unit → CampaignValue
with_holding_at c n h None = c
with_holding_at c n h (Some u) = record c { units = insert c.units n (record u { holding = h }) }

-- the campaign with h as the holding of unit n, if there is one
abbrev pub with_holding : CampaignValue → ℕ → HoldingValue → CampaignValue
with_holding c n h = with_holding_at c n h (get c.units n)

-- the campaign with h as unit n's holding after a loan, and n, its row and all goods marked; unchanged if n isn't there
abbrev pub after_loan : MarkedCampaign → ℕ → HoldingValue → MarkedCampaign
after_loan c n h = record { value = with_holding c.value n h; marks = mark_unit c n }

-- after a loan r of unit n's holding, which `unit_mut` returns, campaign c has r's last value there, and the unit, row
-- and goods are marked. Without a loan (None) c is unchanged.
abbrev pub LendsHolding : MutBor MarkedCampaign → ℕ → Option (MutBor HoldingValue) → Fml
LendsHolding c n r = LendsIf the_row holding.the_row c r (after_loan c.now n) c.now
