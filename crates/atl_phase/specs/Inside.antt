-- The region and the structure that a unit is in. See docs/RULES.md, "Place".
use Rattle.std.specs.Prelude.{ℕ}
use Rattle.std.specs.Option.{option_map_or}
use Rattle.std.specs.FinMap.{get}
use Rattle.atl_campaign.specs.Campaign.{CampaignValue}

-- the number of the structure that a unit is inside; 0 where it is inside none, or isn't there
abbrev pub structure_of_unit : CampaignValue → ℕ → ℕ
structure_of_unit c n = option_map_or (λ u. u.structure) (get c.units n) 0

-- the number of the region that a unit is in; 0 where there is no such unit
abbrev pub region_of : CampaignValue → ℕ → ℕ
region_of c n = option_map_or (λ u. u.region) (get c.units n) 0
