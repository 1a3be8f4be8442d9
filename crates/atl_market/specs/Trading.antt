-- For proofs alone: when a unit can trade with its market, and when the result can be booked.
use Rattle.std.specs.Prelude.{⊤, ◌≡◌, ◌≤◌, ◌+◌, ◌*◌, ℕ, Option, Some, None}
use Rattle.std.specs.Ordering.{nat_cmp}
use Rattle.std.specs.FinMap.{FinMap, get}
use Rattle.atl_world.specs.Limits.{most_amount}
use Rattle.atl_world.specs.Worlds.{IsWorld, WorldValue}
use Rattle.atl_world.specs.declared.world.Market.{Market}
use Rattle.atl_records.specs.declared.books.BooksEntry.{BooksEntry}
use Rattle.atl_records.specs.declared.books.Thing.TheVariants.{Money}
use Rattle.atl_records.specs.declared.records.Unit.{Unit}
use Rattle.atl_records.specs.Books.{IsWithin, amount_in}
use Rattle.atl_campaign.specs.Good.{IsEarly}
use Rattle.atl_records.specs.Holdings.{HoldingValue, amount_of}
use Rattle.atl_records.specs.Limits.{holding_limit}
use Rattle.atl_campaign.specs.Campaign.{CampaignValue}
use Rattle.atl_phase.specs.Bounds.{HasRoom, HaveRoom}
use Rattle.atl_market.specs.declared.trade.TradeResult.{TradeResult}
use Rattle.atl_market.specs.declared.trade.Trade.{Trade}
use Rattle.atl_market.specs.declared.trade.Trade.TheVariants.{Sell, Buy}
use Rattle.atl_market.specs.Payable.{IsSomewhere}
use Rattle.atl_market.specs.Trade.{market_for, trade_moves}

-- A unit can sell or buy `share` pieces of a market's item. For SELL it has them, and room for the money. For BUY it
-- has the money, and room for them. Without a market `share` is 0.
abbrev pub CanAfford : Trade → HoldingValue → (share : ℕ) → Option Market → Type 0
CanAfford trade h share None = share ≡ 0
CanAfford Sell h share (Some m) = (share ≤ amount_of h.items m.item) × (h.money + share * m.pays ≤ holding_limit)
CanAfford Buy h share (Some m) = (share * m.price ≤ h.money) × (amount_of h.items m.item + share ≤ holding_limit)

-- the market has room for `share` pieces (SELL), or has them in stock (BUY); always so without a market
abbrev pub MarketAllowsShare : Trade → (stock share : ℕ) → Option Market → Type 0
MarketAllowsShare trade stock share None = ⊤
MarketAllowsShare Sell stock share (Some m) = stock + share ≤ m.limit
MarketAllowsShare Buy stock share (Some m) = share ≤ stock

-- the conditions on a market's numbers: its two prices are at least 1, and its limit is at most 999,999,999
pub record IsPriced (m : Market) : Type 0 where
  pub price : 1 ≤ m.price
  pub pays : 1 ≤ m.pays
  pub limit : m.limit ≤ most_amount

-- The unit of a pair (unit, share) can trade its share of its order's item, which `items` has by unit. It and its
-- region are there, it can afford the share, and the market's pot and the books allow it. The world keeps its rules,
-- and the campaign is early.
pub record CanTrade (trade : Trade) (items : FinMap nat_cmp ℕ) (w : WorldValue) (c : CampaignValue) (e : ℕ × ℕ) : Type 0 where
  pub at : IsSomewhere c e.0
  -- the unit can trade its share with the market of its order's item; without a market the share is 0
  pub deal : CanAfford trade at.unit.holding e.1 (market_for w at.unit (get items e.0))
  -- the market of the order's item, if there is one, has room for the share (SELL) or has it in stock (BUY)
  pub pot :
      (m : Market) → market_for w at.unit (get items e.0) ≡ Some m
      → MarketAllowsShare trade (amount_of at.region.stocks m.item) e.1 (Some m)
  pub world : IsWorld w
  pub early : IsEarly w c
  -- the books have room for 999,999,999 money of the trade, sold or bought
  pub room : HaveRoom (trade_moves trade holding_limit) c

-- The result `d` of a trade can be booked under `entry`, such as Sold. It is within the limits of unit `n`, which is
-- there, and the books have room for its money.
pub record CanBookTrade (c : CampaignValue) (n : ℕ) (entry : BooksEntry) (d : TradeResult) : Type 0 where
  pub unit : Unit
  pub there : get c.units n ≡ Some unit
  -- the trade leaves the unit at most 999,999,999 money
  pub money : d.money ≤ holding_limit
  -- the trade leaves the unit at most 999,999,999 of the item
  pub amount : d.amount ≤ holding_limit
  -- the books have at least two things, which are money and people
  pub things : 2 ≤ c.books.things
  -- the money to book, whether gained or paid, is at most 999,999,999
  pub small : IsWithin holding_limit d.booked
  -- the books have room for 999,999,999 money under the entry
  pub room : HasRoom holding_limit (amount_in c.books entry Money)
