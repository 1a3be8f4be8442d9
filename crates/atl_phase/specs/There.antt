-- Changes of a campaign for one unit or one region; where that isn't there, nothing changes.
use Rattle.std.specs.Prelude.{ℕ}
use Rattle.std.specs.Option.{option_map_or}
use Rattle.std.specs.FinMap.{get}
use Rattle.atl_records.specs.declared.records.Region.{Region}
use Rattle.atl_records.specs.declared.records.Unit.{Unit}
use Rattle.atl_campaign.specs.Campaign.{CampaignValue}

-- the campaign that `change` makes of unit n; where there is no unit n, the campaign as it was
abbrev pub at_unit : CampaignValue → ℕ → (Unit → CampaignValue) → CampaignValue
at_unit c n change = option_map_or change (get c.units n) c

-- the campaign that `change` makes of region n; where there is no region n, the campaign as it was
abbrev pub at_region : CampaignValue → ℕ → (Region → CampaignValue) → CampaignValue
at_region c n change = option_map_or change (get c.regions n) c
