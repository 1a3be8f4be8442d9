-- The campaign right after founding. See docs/RULES.md, "Founding".
use Rattle.std.specs.Prelude.{◌+◌, List, length, ℕ, pos}
use Rattle.std.specs.FinMap.{empty}
use Rattle.atl_world.specs.Worlds.{WorldValue}
use Rattle.atl_world.specs.Sums.{sum_over, map_values}
use Rattle.atl_world.specs.declared.world.RegionPlan.{RegionPlan}
use Rattle.atl_records.specs.declared.books.BooksEntry.TheVariants.{Founding}
use Rattle.atl_records.specs.declared.books.Thing.TheVariants.{Money, People}
use Rattle.atl_records.specs.declared.records.Region.{Region}
use Rattle.atl_records.specs.Books.{after_booking, no_amounts}
use Rattle.atl_campaign.specs.Campaign.{CampaignValue, empty_campaign}

-- a region as it is founded: with the peasants and the money of the world text, and nothing in stock
abbrev pub founded_region : RegionPlan → Region
founded_region plan = record { peasants = plan.peasants; money = plan.money; stocks = empty }

-- how many things the books of a world count: money, people, and each item
abbrev pub thing_count : WorldValue → ℕ
thing_count w = 2 + length w.items

-- The campaign right after founding: `empty_campaign` with the pass text given, the world's regions, and books of the
-- world's things. There the money and the people of the regions are booked under Founding.
unfoldable pub founded_of : WorldValue → List ℕ → CampaignValue
founded_of w pass = let regions = map_values founded_region w.regions in record empty_campaign {
  pass = pass;
  regions = regions;
  books =
      after_booking
      (after_booking (no_amounts (thing_count w)) Founding Money (pos (sum_over (λ r. r.money) regions)))
      Founding People (pos (sum_over (λ r. r.peasants) regions));
}
