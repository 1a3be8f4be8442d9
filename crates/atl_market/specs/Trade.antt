-- SELL and BUY: units trade items with markets. See docs/RULES.md, "Selling" and docs/RULES.md, "Buying".
use Rattle.std.specs.Prelude.{◌+◌, ◌-◌, ◌*◌, ◌/◌, ◌==◌, ℕ, Bool, true, false, min, pos, neg_ℤ, nat_lt, Option, Some, None, option_and_then, [], ◌∷◌}
use Rattle.std.specs.Option.{option_map_or}
use Rattle.std.specs.Ordering.{nat_cmp}
use Rattle.std.specs.FinMap.{FinMap, get}
use Rattle.atl_world.specs.ByNumber.{market_of}
use Rattle.atl_world.specs.Worlds.{WorldValue}
use Rattle.atl_world.specs.declared.world.Market.{Market}
use Rattle.atl_world.specs.declared.verb.Verb.{Verb}
use Rattle.atl_world.specs.declared.verb.Verb.TheVariants as verbs
use Rattle.atl_records.specs.declared.books.BooksEntry.{BooksEntry}
use Rattle.atl_records.specs.declared.books.BooksEntry.TheVariants.{Bought, Sold}
use Rattle.atl_records.specs.declared.books.Thing.TheVariants.{Money}
use Rattle.atl_records.specs.declared.event.EventFault.{EventFault}
use Rattle.atl_records.specs.declared.event.EventFault.TheVariants.{NoMarket, NotEnough}
use Rattle.atl_records.specs.declared.records.Unit.{Unit}
use Rattle.atl_records.specs.Holdings.{HoldingValue, amount_of, with_amount_of}
use Rattle.atl_campaign.specs.Lending.{with_holding}
use Rattle.atl_records.specs.Limits.{holding_limit}
use Rattle.atl_campaign.specs.Stocks.{stock_of}
use Rattle.atl_campaign.specs.Campaign.{CampaignValue, with_booking, with_stock}
use Rattle.atl_phase.specs.Meaning.{BookBound, Frame, Meaning, moves_only}
use Rattle.atl_phase.specs.Outcomes.{first_fault}
use Rattle.atl_phase.specs.There.{at_unit}
use Rattle.atl_phase.specs.PhaseSpecs.{PhaseSpec, books_money}
use Rattle.atl_pots.specs.ItemPots.{item_shares}
use Rattle.atl_market.specs.declared.trade.TradeResult.{TradeResult}
use Rattle.atl_market.specs.declared.trade.Trade.{Trade}
use Rattle.atl_market.specs.declared.trade.Trade.TheVariants.{Sell, Buy}
use Rattle.atl_market.specs.PotPhase.{PotMeaning, count_in, item_in, pots_by_orders}
use Rattle.atl_market.specs.Unordered.{no_worse_without_order}

-- the trade of a phase: `Sell` if it sells, else `Buy`
abbrev pub trade_of : (sells : Bool) → Trade
trade_of true = Sell
trade_of false = Buy

-- whether a verb is the one of a trade, SELL or BUY
abbrev pub is_trade : Trade → Verb → Bool
is_trade Sell verbs.Sell = true
is_trade Buy verbs.Buy = true
is_trade trade verb = false

-- the market of a unit's region for the item that its order names, if there is one
abbrev pub market_for : WorldValue → Unit → (item : Option ℕ) → Option Market
market_for w u item = option_and_then (market_of w u.region) item

-- ---- who trades

-- whether a unit has too little for any trade: for SELL none of the item, for BUY less money than one piece costs
abbrev pub has_too_little : Trade → HoldingValue → Market → Bool
has_too_little Sell h m = amount_of h.items m.item == 0
has_too_little Buy h m = nat_lt h.money m.price

-- the first fault of SELL or BUY after NotYours, if any: NoMarket without a market (None), NotEnough (`has_too_little`)
abbrev pub trade_fault : Trade → HoldingValue → Option Market → Option EventFault
trade_fault trade h None = Some NoMarket
trade_fault trade h (Some m) = first_fault ((has_too_little trade h m, NotEnough) ∷ [])

-- The most pieces that a unit can trade with a market. SELL is limited by its amount of the item and, at `pays` each,
-- its room for money; BUY, at `price` each, by its money, and by its room for the item.
abbrev pub most_tradable : Trade → HoldingValue → Market → ℕ
most_tradable Sell h m = min (amount_of h.items m.item) ((holding_limit - h.money) / m.pays)
most_tradable Buy h m = min (h.money / m.price) (holding_limit - amount_of h.items m.item)

-- how many pieces a unit wants to trade: what its order asks for (`asked`), at most what it can; 0 without a market
abbrev pub trade_want : Trade → HoldingValue → (asked : ℕ) → Option Market → ℕ
trade_want trade h asked market = option_map_or (λ m. min asked (most_tradable trade h m)) market 0

-- ---- the pots

-- the pot of a market: for SELL its limit less its stock, 0 where the stock is more; for BUY its stock
abbrev pub market_pot : Trade → (limit stock : ℕ) → ℕ
market_pot Sell limit stock = limit - stock
market_pot Buy limit stock = stock

-- the most that a region's market for an item may have in stock; 0 where there is no market
abbrev pub limit_of : WorldValue → (item region : ℕ) → ℕ
limit_of w item region = option_map_or (λ m. m.limit) (market_of w region item) 0

-- how much of an item there is to share in a region: for SELL its market's limit (0 without a market) less its stock,
-- for BUY its stock
abbrev pub trade_pot : Trade → WorldValue → CampaignValue → (item region : ℕ) → ℕ
trade_pot trade w c item region = market_pot trade (limit_of w item region) (stock_of c region item)

-- ---- what changes

-- The result of trading `share` pieces with a market that has `stock` pieces. It has the unit's money, its amount of
-- the item and the stock after the trade, each at least 0, and the money to book, with a minus for BUY.
abbrev pub trade_result_of : Trade → HoldingValue → (stock share : ℕ) → Market → TradeResult
trade_result_of Sell h stock share m = record {
  money = h.money + share * m.pays;
  amount = amount_of h.items m.item - share;
  stock = stock + share;
  booked = pos (share * m.pays);
}
trade_result_of Buy h stock share m = record {
  money = h.money - share * m.price;
  amount = amount_of h.items m.item + share;
  stock = stock - share;
  booked = neg_ℤ (pos (share * m.price));
}

-- the entry of the books for the money of a trade: Sold or Bought
abbrev pub trade_entry : Trade → BooksEntry
trade_entry Sell = Sold
trade_entry Buy = Bought

-- what a unit holds, with the money and the amount of an item that a trade leaves, as its result `d` says
abbrev pub with_trade_result : HoldingValue → (item : ℕ) → TradeResult → HoldingValue
with_trade_result h item d = record h { money = d.money; items = with_amount_of h.items item d.amount }

-- a campaign with unit `n`, which is `u`, its region's stock of `item` and the books (under `entry`) as the result `d`
-- of a trade says
abbrev pub with_trade_booked : CampaignValue → ℕ → Unit → (item : ℕ) → BooksEntry → TradeResult → CampaignValue
with_trade_booked c n u item entry d =
    let paid = with_holding c n (with_trade_result u.holding item d) in
    with_booking (with_stock paid u.region item d.stock) entry Money d.booked

-- A campaign after a unit, by its number, traded `share` pieces of its order's item, which `items` has by unit. It is
-- unchanged where the unit isn't there, `items` has no item for it, or its region has no market for the item.
unfoldable pub after_trade : Trade → FinMap nat_cmp ℕ → WorldValue → CampaignValue → ℕ × ℕ → CampaignValue
after_trade trade items w c (n, share) =
    at_unit c n (λ u.
    option_map_or
    (λ m. with_trade_booked c n u m.item (trade_entry trade) (trade_result_of trade u.holding (stock_of c u.region m.item) share m))
    (market_for w u (get items n)) c)

-- ---- the phases

-- SELL or BUY as a phase with pots, one for each region and item (`trade_pot`). Each order names an item and asks for a
-- number of pieces. The event says how many were traded.
abbrev pub trade_pots : Trade → PotMeaning
trade_pots trade = record {
  fault = λ w u t. trade_fault trade u.holding (market_for w u (item_in t.order_value.operands));
  want = λ w u t. trade_want trade u.holding (count_in t.order_value.operands) (market_for w u (item_in t.order_value.operands));
  grants = λ items w c wants. item_shares (get items) (trade_pot trade w c) wants c;
  event_number = λ w u share. share;
  paid = after_trade trade;
}

-- the meaning of the phase SELL or BUY: the campaign and the month that it makes
abbrev pub trade_meaning : Trade → Meaning
trade_meaning trade = pots_by_orders (trade_pots trade) (is_trade trade)

-- the bound on what SELL or BUY books: Sold or Bought of money by at most `most`, nothing else
abbrev pub trade_moves : Trade → ℕ → BookBound
trade_moves trade most = moves_only most (trade_entry trade) Money

-- What SELL or BUY leaves alone: a unit for which its own faction wrote no order of the phase that counts is there
-- after it, with the same faction, region, structure, name and guard flag, and no less men, money, items or days.
abbrev pub trade_keeps : Trade → Frame
trade_keeps trade = no_worse_without_order (is_trade trade)

-- the specification of SELL: it books only Sold of money, by less than 10^14, and keeps what `trade_keeps` says
abbrev pub sell_spec : PhaseSpec
sell_spec = books_money Sold (trade_meaning Sell) (trade_keeps Sell)

-- the specification of BUY: it books only Bought of money, by less than 10^14, and keeps what `trade_keeps` says
abbrev pub buy_spec : PhaseSpec
buy_spec = books_money Bought (trade_meaning Buy) (trade_keeps Buy)
