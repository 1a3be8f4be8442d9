-- The total of each thing, and that the books agree with it. See docs/RULES.md, "Books".
use Rattle.std.specs.Prelude.{◌≡◌, ◌≤◌, ◌+◌, ℕ, pos}
use Rattle.std.specs.FinMap.{len}
use Rattle.atl_world.specs.Sums.{sum_over}
use Rattle.atl_records.specs.declared.books.Thing.{Thing}
use Rattle.atl_campaign.specs.Campaign.{CampaignValue}
use Rattle.atl_records.specs.Books.{booked}
use Rattle.atl_records.specs.Amounts.{region_amount, unit_amount}

-- how much there is of a thing: the sum over all units and all regions, with their stocks
unfoldable pub total : CampaignValue → Thing → ℕ
total c t = sum_over (λ u. unit_amount t u.holding) c.units + sum_over (λ r. region_amount t r) c.regions

-- there are at most 1,000,000 units and regions together, so totals can be counted in 64 bits
abbrev pub IsCountable : CampaignValue → Type 0
IsCountable c = len c.units + len c.regions ≤ 1000000

-- the total of each thing in the campaign equals the sum of its amounts in the books, under all entries
abbrev pub Balances : CampaignValue → Type 0
Balances c = (t : Thing) → pos (total c t) ≡ booked c.books t
