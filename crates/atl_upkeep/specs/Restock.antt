-- Restocking in the season: the stock of each market rises by its `restock`, up to its limit.
-- See docs/RULES.md, "Season".
use Rattle.std.specs.Prelude.{ℕ, pos, ◌+◌, ◌-◌, ◌==◌, ◌&&◌, min, Bool, true, false, List, fold, if◌then◌else◌}
use Rattle.std.specs.Ordering.{nat_cmp}
use Rattle.std.specs.FinMap.{FinMap, empty, get}
use Rattle.std.specs.Option.{option_map_or}
use Rattle.atl_world.specs.Worlds.{WorldValue}
use Rattle.atl_world.specs.declared.world.Market.{Market}
use Rattle.atl_records.specs.declared.books.BooksEntry.TheVariants.{Stocked}
use Rattle.atl_records.specs.declared.books.Thing.{Thing}
use Rattle.atl_records.specs.declared.books.Thing.TheVariants.{Item, Money, People}
use Rattle.atl_records.specs.Books.{entry_index}
use Rattle.atl_campaign.specs.Campaign.{CampaignValue, with_booking, with_stock}
use Rattle.atl_campaign.specs.Stocks.{stock_of}
use Rattle.atl_phase.specs.Meaning.{BookBound}

-- the markets of a region of the world, by their items; none where there is no such region
abbrev pub markets_of : WorldValue → (region : ℕ) → FinMap nat_cmp Market
markets_of w region = option_map_or (λ p. p.markets) (get w.regions region) empty

-- how many new goods a market with this stock gets: its `restock`, at most what the stock is short of its limit
abbrev pub restock : Market → (stock : ℕ) → ℕ
restock m stock = min m.restock (m.limit - stock)

-- a campaign after a market of a region, given with its item, got its new goods (`restock`), which are booked as
-- Stocked; where the campaign has no such region, they are only booked
unfoldable pub after_market_restock : (region : ℕ) → CampaignValue → ℕ × Market → CampaignValue
after_market_restock region c (item, m) =
    let stock = stock_of c region item in
    let more = restock m stock in
    with_booking (with_stock c region item (stock + more)) Stocked (Item item) (pos more)

-- a campaign after the listed markets of a region, each by its item, got new goods: one after another, in the order of
-- the list; in the season the list has all markets of the region, sorted by item
abbrev pub after_restock : (region : ℕ) → CampaignValue → List (ℕ × Market) → CampaignValue
after_restock region c markets = fold (after_market_restock region) c markets

-- whether a thing of the books is an item
abbrev pub is_item : Thing → Bool
is_item Money = false
is_item People = false
is_item (Item i) = true

-- the bound on what restocking books: Stocked of each item by at most `most`, nothing else
abbrev pub stocks_by : ℕ → BookBound
stocks_by most e t = if (entry_index e == entry_index Stocked) && is_item t then most else 0
