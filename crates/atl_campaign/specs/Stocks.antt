-- The stocks of the regions' markets. See docs/RULES.md, "Markets".
use Rattle.std.specs.Prelude.{ℕ}
use Rattle.std.specs.Ordering.{nat_cmp}
use Rattle.std.specs.FinMap.{FinMap, get}
use Rattle.std.specs.Option.{option_map_or}
use Rattle.atl_world.specs.ByNumber.{market_of}
use Rattle.atl_world.specs.Limits.{most_amount}
use Rattle.atl_world.specs.Worlds.{WorldValue}
use Rattle.atl_records.specs.declared.records.Region.{Region}
use Rattle.atl_records.specs.Holdings.{amount_of}
use Rattle.atl_campaign.specs.Campaign.{CampaignValue}

-- how many pieces of an item one of the given regions has in stock; 0 where none is listed or there is no such region
abbrev pub stock_in : FinMap nat_cmp Region → (region item : ℕ) → ℕ
stock_in regions region item = option_map_or (λ r. amount_of r.stocks item) (get regions region) 0

-- how many pieces of an item a region has in stock; 0 where none is listed or there is no such region
abbrev pub stock_of : CampaignValue → (region item : ℕ) → ℕ
stock_of c region item = stock_in c.regions region item

-- the largest stock of an item in a region: the limit of its market, or 999,999,999 where there is none
abbrev pub stock_limit : WorldValue → (region item : ℕ) → ℕ
stock_limit w region item = option_map_or (λ m. m.limit) (market_of w region item) most_amount
