-- The laws that SELL, BUY, TAX, RECRUIT, PRODUCE and WORK change all units and regions at once.
-- See docs/RULES.md, "Pots". Where a number is less than what is taken from it, 0 is left.
use Rattle.std.specs.Prelude.{◌+◌, ◌-◌, ◌*◌, ℕ, List, Option}
use Rattle.std.specs.Option.{option_map_or}
use Rattle.std.specs.FinMap.{get}
use Rattle.atl_world.specs.Worlds.{IsWorld, WorldValue}
use Rattle.atl_world.specs.declared.world.Item.{Item}
use Rattle.atl_world.specs.declared.world.Market.{Market}
use Rattle.atl_records.specs.declared.records.Unit.{Unit}
use Rattle.atl_records.specs.Holdings.{HoldingValue, amount_of, with_amount_of}
use Rattle.atl_campaign.specs.Campaign.{CampaignValue}
use Rattle.atl_phase.specs.PhaseOrders.{Task}
use Rattle.atl_market.specs.AtOnce.{PaysAtOnce, PaysItemsAtOnce, RegionChange, UnitChange, unchanged_region}
use Rattle.atl_market.specs.PotPhase.{items_by}
use Rattle.atl_market.specs.Produce.{numbered_item, produce_pots}
use Rattle.atl_market.specs.Recruit.{recruit_pots, with_paid_recruits}
use Rattle.atl_market.specs.Tax.{tax_pots}
use Rattle.atl_market.specs.Trade.{market_for, trade_pots}
use Rattle.atl_market.specs.Work.{wages_for, work_pots}
use Rattle.atl_market.specs.declared.trade.Trade.{Trade}
use Rattle.atl_market.specs.declared.trade.Trade.TheVariants.{Sell, Buy}

-- What a unit holds after a trade of `share` pieces with a market. SELL: goods for money, at `pays` each. BUY: money
-- for goods, at `price` each.
abbrev pub with_trade : Trade → HoldingValue → (share : ℕ) → Market → HoldingValue
with_trade Sell h share m = record h {
  money = h.money + share * m.pays;
  items = with_amount_of h.items m.item (amount_of h.items m.item - share);
}
with_trade Buy h share m = record h {
  money = h.money - share * m.price;
  items = with_amount_of h.items m.item (amount_of h.items m.item + share);
}

-- a unit after it traded `share` pieces with the market of its region for its order's item; the unit as it was where
-- there is no such market (None)
abbrev pub trader_of : Trade → Unit → (share : ℕ) → Option Market → Unit
trader_of trade u share market = option_map_or (λ m. record u { holding = with_trade trade u.holding share m }) market u

-- a market's stock after `traded` pieces were traded with it: more after SELL, less after BUY
abbrev pub stock_after : Trade → (stock traded : ℕ) → ℕ
stock_after Sell stock traded = stock + traded
stock_after Buy stock traded = stock - traded

-- The law that in a world (`IsWorld`) all units trade at once by SELL or BUY, in any campaign, by any orders `os`. By
-- SELL a unit with a share and a market gives its share of the item and gets the money for it; others stay as they are.
-- A region's stock of an item grows by all that its units sold of it. By BUY they get it for money, and stocks fall.
abbrev pub TradesAtOnce : Type 0
TradesAtOnce =
    (trade : Trade) (w : WorldValue) (c : CampaignValue) (os : List Task) → IsWorld w →
    let asked_item = get (items_by (trade_pots trade) w c os) in
    PaysItemsAtOnce (trade_pots trade) w asked_item (λ n u share. trader_of trade u share (market_for w u (asked_item n)))
    (stock_after trade) c os

-- a unit with its share of money added to its own
abbrev pub with_more_money : UnitChange
with_more_money u money = record u { holding = record u.holding { money = u.holding.money + money } }

-- a region with `taken` less money
abbrev pub with_less_money : RegionChange
with_less_money q taken = record q { money = q.money - taken }

-- The law that all units take their share of TAX at once, in any campaign, by any orders `os`. Each unit has its
-- share added to its money, and each region loses what its units took.
abbrev pub TaxesAtOnce : Type 0
TaxesAtOnce =
    (w : WorldValue) (c : CampaignValue) (os : List Task)
    → PaysAtOnce tax_pots w (λ n. with_more_money) with_less_money c os

-- a unit with its recruits added to its men, and their price taken from its money
abbrev pub with_recruits : WorldValue → UnitChange
with_recruits w u recruits = record u { holding = with_paid_recruits u.holding recruits (recruits * w.rules.recruit_price) }

-- a region with `joined` fewer peasants
abbrev pub with_less_peasants : RegionChange
with_less_peasants q joined = record q { peasants = q.peasants - joined }

-- The law that all recruits of RECRUIT join at once, in any campaign, by any orders `os`. Each unit gains its
-- recruits and pays their price, and each region loses as many peasants as joined its units.
abbrev pub RecruitsAtOnce : Type 0
RecruitsAtOnce =
    (w : WorldValue) (c : CampaignValue) (os : List Task)
    → PaysAtOnce recruit_pots w (λ n. with_recruits w) with_less_peasants c os

-- what a unit holds, with `amount` less of a raw item, by its number; as it was where no item is given
abbrev pub with_raw_taken : HoldingValue → Option ℕ → (amount : ℕ) → HoldingValue
with_raw_taken h item amount =
    option_map_or (λ i. record h { items = with_amount_of h.items i (amount_of h.items i - amount) }) item h

-- what a unit holds, with `amount` more of an item, by its number
abbrev pub with_pieces_added : HoldingValue → (item amount : ℕ) → HoldingValue
with_pieces_added h item amount = record h { items = with_amount_of h.items item (amount_of h.items item + amount) }

-- A unit with `made` pieces more of item `x`, which has the number `item`, and less of the raw items that the pieces
-- take, if they take any.
abbrev pub maker_of : Unit → (made item : ℕ) → Item → Unit
maker_of u made item x =
    record u { holding = with_pieces_added (with_raw_taken u.holding x.raw (made * x.raw_count)) item made }

-- a unit that made `made` pieces of the item that its order names (`asked`); as it was where `asked` is no item of the
-- world, or None
abbrev pub unit_after_production : WorldValue → Unit → (made : ℕ) → Option ℕ → Unit
unit_after_production w u made asked = option_map_or (λ e. maker_of u made e.0 e.1) (numbered_item w asked) u

-- The law that all units make items by PRODUCE at once, in any campaign, by any orders `os`. Each gains the pieces
-- that it made and loses the raw items that they take, if any, and no region changes.
abbrev pub ProducesAtOnce : Type 0
ProducesAtOnce =
    (w : WorldValue) (c : CampaignValue) (os : List Task) →
    let asked_item = get (items_by produce_pots w c os) in
    PaysAtOnce produce_pots w (λ n u made. unit_after_production w u made (asked_item n)) unchanged_region c os

-- The law that all units are paid for WORK at once, in any campaign, by any orders `os`. Each has the wages of its
-- work places added to its money, and no region changes.
abbrev pub WorksAtOnce : Type 0
WorksAtOnce =
    (w : WorldValue) (c : CampaignValue) (os : List Task)
    → PaysAtOnce work_pots w (λ n u places. with_more_money u (wages_for w u.region places)) unchanged_region c os
