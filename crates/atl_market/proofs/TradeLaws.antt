-- Laws of SELL and BUY: all shares can be traded in turn, if the books have room, and leave an early campaign early,
-- with the same month, reports and factions, and balanced books balanced (`LeavesWell`). Units without an order of
-- their own faction are no worse off: they have the same faction, region, structure, name and guard flag, and no less
-- men, money, items or days. `trade` is SELL or BUY, `n` the number of unit `u`, `q` its region, `i` the number of an
-- item, and `m` a market. `share` is how many pieces the unit trades, `stock` the market's stock before that, and `os`
-- the orders of the phase.
use Rattle.std.proofs.Common.{◌≡◌, ◌≢◌, ◌==◌, ◌&&◌, ℕ, ◌+◌, ◌-◌, ◌*◌, ◌/◌, ◌≤◌, ◌<◌, Bool, true, false, cond, Option, Some, None, List, [], ◌∷◌, length, refl, sym, ap, subst, ◌∙◌, arith}
use Rattle.std.specs.Prelude.{IsSome, fold, pos, ◌+ℤ◌, min, option_and_then, unwrap_or}
use Rattle.std.specs.Option.{option_map_or}
use Rattle.std.specs.Ordering.{nat_cmp, eq_by_cmp}
use Rattle.std.specs.Cmp.{unsigned_ties}
use Rattle.std.specs.FinMap.{FinMap, entries, get, insert}
use Rattle.std.proofs.lemmas.Int.{ints}
use Rattle.std.proofs.lemmas.Bool.{and_parts, eqb-true}
use Rattle.std.proofs.lemmas.Option.{same_Some}
use Rattle.std.proofs.Math.Nat.{mul-div-le, mul-le-mul_right, mul_comm, add-zero}
use Rattle.atl_world.proofs.GeneralLaws.{is_unequal}
use Rattle.atl_world.specs.ByNumber.{market_of}
use Rattle.atl_world.specs.Limits.{most_amount}
use Rattle.atl_world.specs.Worlds.{IsMarket, IsWorld, WorldValue}
use Rattle.atl_world.specs.declared.world.Market.{Market}
use Rattle.atl_world.specs.declared.world.RegionPlan.{RegionPlan}
use Rattle.atl_records.specs.declared.books.BooksEntry.{BooksEntry}
use Rattle.atl_records.specs.declared.books.Thing.{Thing}
use Rattle.atl_records.specs.declared.books.Thing.TheVariants.{Money}
use Rattle.atl_records.specs.declared.event.EventFault.TheVariants.{NoMarket}
use Rattle.atl_records.specs.declared.records.Region.{Region}
use Rattle.atl_records.specs.declared.records.Unit.{Unit}
use Rattle.atl_records.specs.Books.{IsWithin, amount_in}
use Rattle.atl_campaign.specs.Covers.{MarksChanges}
use Rattle.atl_world.specs.Every.{Every}
use Rattle.atl_campaign.specs.Good.{IsEarly}
use Rattle.atl_records.specs.Holdings.{HoldingValue, IsHolding, amount_of, with_amount_of}
use Rattle.atl_campaign.specs.Lending.{with_holding_at, with_holding}
use Rattle.atl_records.specs.Limits.{holding_limit, most_units}
use Rattle.atl_campaign.specs.Marking.{MarksStock}
use Rattle.atl_campaign.specs.Stocks.{stock_limit, stock_of}
use Rattle.atl_campaign.specs.Campaign.{MarkedCampaign, CampaignValue, region_changed, with_booking, with_stock}
use Rattle.atl_campaign.proofs.ReadBackLaws.{entries_rise}
use Rattle.atl_campaign.proofs.CoverLaws.{marks-stock, marks-trans}
use Rattle.atl_world.proofs.EveryLaws.{each-from_every, get-insert_other, none_some, other_number, same_number}
use Rattle.atl_campaign.proofs.HavingLaws.{MayHave, may_have}
use Rattle.atl_records.proofs.HoldingLaws.{compared_equal_is_equal, amount_within, every_amount, amount_after_setting}
use Rattle.atl_campaign.proofs.StockLaws.{restocked, steady-stock}
use Rattle.atl_phase.specs.Meaning.{LeavesWell, BookBound, moves_only, most_moved}
use Rattle.atl_phase.specs.Bounds.{CanInTurn, HasRoom, HaveRoom, moved_times}
use Rattle.atl_phase.specs.Holdings.{ChangesHolding}
use Rattle.atl_phase.specs.PhaseOrders.{Task}
use Rattle.atl_phase.proofs.BookingLaws.{within-neg, within-pos}
use Rattle.atl_phase.proofs.ChangeLaws.{changed_held}
use Rattle.atl_phase.proofs.MarkLaws.{marks_by}
use Rattle.atl_phase.proofs.MeaningLaws.{room_less, well_unchanged, well_within}
use Rattle.atl_pots.specs.ItemPots.{share_for}
use Rattle.atl_pots.specs.Pots.{asks_for, wants_for}
use Rattle.atl_pots.proofs.ItemPotLaws.{items_give, shares_at}
use Rattle.atl_market.specs.AtOnce.{is_in_region}
use Rattle.atl_market.specs.PotPhase.{after_sharing, count_in, given_by, item_in, items_by, wants_by}
use Rattle.atl_market.specs.Trade.{after_trade, limit_of, market_for, market_pot, trade_entry, trade_fault, trade_moves, trade_pot, trade_pots, trade_result_of, trade_want, with_trade_booked, with_trade_result}
use Rattle.atl_market.specs.Trading.{CanAfford, CanBookTrade, CanTrade, MarketAllowsShare}
use Rattle.atl_market.specs.Unordered.{OthersAreNoWorse}
use Rattle.atl_market.specs.declared.trade.TradeResult.{TradeResult}
use Rattle.atl_market.specs.declared.trade.Trade.{Trade}
use Rattle.atl_market.specs.declared.trade.Trade.TheVariants.{Sell, Buy}
use Rattle.atl_market.proofs.DrawLaws.{SharesArePayable, Drains, DrawnPots, HaveEnough, all_pairs, drawn, first_draws, nothing_drains, ready_after, region_drains, shares_are_enough, untouched}
use Rattle.atl_market.proofs.ExchangeLaws.{KeepsTogether, exchange_well}
use Rattle.atl_market.proofs.UnorderedLaws.{others_no_worse}
use Rattle.atl_market.proofs.ProduceLaws.{only_room}
use Rattle.atl_market.proofs.ThereLaws.{by_option, by_unit, unit_there}
use Rattle.atl_phase.proofs.TurnLaws.{few_holdings, first_room, later_room, turns_leave_well}
use Rattle.atl_market.proofs.WantLaws.{GivesToWants, few_given, given_is_named}
use Rattle.atl_market.proofs.ItemUseLaws.{put_to, taken_off}

-- ---- a trade keeps the goods of unit and region together, and books the money

-- The result `d` of a trade of item `i` by unit `u` is within all limits. It leaves unit and stock together as much of
-- the item as they had, where `before` was in stock, and books the money that the unit gains or pays.
pub record ResultFits (w : WorldValue) (u : Unit) (i before : ℕ) (d : TradeResult) : Type 0 where
  pub money : d.money ≤ holding_limit
  pub amount : d.amount ≤ holding_limit
  pub stock : d.stock ≤ stock_limit w u.region i
  pub goods : d.amount + d.stock ≡ amount_of u.holding.items i + before
  pub paid : pos d.money ≡ pos u.holding.money +ℤ d.booked
  pub small : IsWithin holding_limit d.booked

-- a campaign in which unit `n`, which was `u`, has the money and the amount of item `i` that a trade leaves by its
-- result `d`
abbrev pub with_trader_set : CampaignValue → ℕ → Unit → ℕ → TradeResult → CampaignValue
with_trader_set c n u i d =
    record c { units = insert c.units n (record u { holding = with_trade_result u.holding i d }) }

-- a campaign after unit `n`, which was `u`, traded item `i`: the unit, the stock of its region and the books (under
-- `entry`) are as the result `d` says
abbrev pub after_deal : CampaignValue → ℕ → Unit → ℕ → BooksEntry → TradeResult → CampaignValue
after_deal c n u i entry d =
    with_booking (region_changed (λ r. restocked r i d.stock) (with_trader_set c n u i d) u.region) entry Money d.booked

-- Unit `n`, which is `u`, trades item `i` in its region `q`. `d` has the amounts that the trade leaves, and the money
-- that is booked under `entry`.
module _ (w : WorldValue) (c : CampaignValue) (n : ℕ) (u : Unit) (q : Region) (i : ℕ) (entry : BooksEntry) (d : TradeResult) (is : get c.units n ≡ Some u) (around : get c.regions u.region ≡ Some q) where
  abbrev after : CampaignValue
  after = after_deal c n u i entry d

  abbrev more : HoldingValue
  more = with_trade_result u.holding i d

  -- the campaign in which the unit has what the trade leaves it; the stock isn't changed and nothing is booked yet
  abbrev paid : CampaignValue
  paid = with_trader_set c n u i d

  -- the campaign in which the unit and its region's stock are as the trade leaves them; nothing is booked yet
  abbrev left : CampaignValue
  left = region_changed (λ r. restocked r i d.stock) paid u.region

  -- where unit and region are there, booking the result `d` of a trade makes the campaign `after_deal`
  pub deal_is : with_trade_booked c n u i entry d ≡ after
  deal_is = ap (λ o. with_booking (with_stock (with_holding_at c n more o) u.region i d.stock) entry Money d.booked) is

  -- the result is within all limits (`fits`), the world has item `i` (`known`), and the region has a market for it
  module _ (fits : ResultFits w u i (amount_of q.stocks i) d) (known : i < length w.items) (market : IsSome (market_of w u.region i)) (early : IsEarly w c) where
    may : MayHave w more
    may =
        let old = may_have w c n u is early.steady in
        record {
          limits = record { men = old.limits.men; money = fits.money; items = every_amount (λ j a. (1 ≤ a) × (a ≤ holding_limit)) u.holding.items i d.amount (λ some. (some, fits.amount)) old.limits.items };
          name = old.name;
          items = every_amount (λ j a. j < length w.items) u.holding.items i d.amount (λ some. known) old.items;
          skills = old.skills;
          days = old.days;
        }

    together : KeepsTogether u q (λ r. restocked r i d.stock) more d.booked
    together = record { money = omega (arith, ints, fits.paid); people = refl; items = items }
      where
        by_test : (j : ℕ) (b : Bool) → eq_by_cmp nat_cmp j i ≡ b
            → cond b d.amount (amount_of u.holding.items j) + cond b d.stock (amount_of q.stocks j) ≡ amount_of u.holding.items j + amount_of q.stocks j
        by_test j true is_i =
            fits.goods
            ∙ ap (λ k. amount_of u.holding.items k + amount_of q.stocks k) (sym (compared_equal_is_equal i j is_i))
        by_test j false is_other = refl

        items : (j : ℕ)
            → amount_of more.items j + amount_of (restocked q i d.stock).stocks j
            ≡ amount_of u.holding.items j + amount_of q.stocks j
        items j =
            ap (λ k. k + amount_of (restocked q i d.stock).stocks j) (amount_after_setting u.holding.items i d.amount j)
            ∙ ap (λ k. cond (eq_by_cmp nat_cmp j i) d.amount (amount_of u.holding.items j) + k) (amount_after_setting q.stocks i d.stock j)
            ∙ by_test j (eq_by_cmp nat_cmp j i) refl

    -- a trade within all limits keeps the campaign early, and books money alone, at most 999,999,999 (`LeavesWell`)
    pub deal_well : LeavesWell IsEarly (moves_only holding_limit entry Money) w c after
    deal_well =
        exchange_well w c n u q (λ r. restocked r i d.stock) more entry d.booked is around holding_limit may (λ g. g)
        (steady-stock paid u.region i d.stock q around w market fits.stock) together fits.small early

-- ---- the market that a unit trades with

-- a market of unit `u`'s region that trades the item which an order names, and keeps the rules of markets (`IsMarket`)
pub record IsMarketFor (w : WorldValue) (u : Unit) (item : Option ℕ) (m : Market) : Type 0 where
  pub named_item : item ≡ Some m.item
  pub there : market_of w u.region m.item ≡ Some m
  pub bounds : IsMarket (length w.items) m.item m

-- in a world (`IsWorld`) the market found for an item that an order names is such a market (`IsMarketFor`)
pub market_is : (w : WorldValue) → IsWorld w → (u : Unit) (item : Option ℕ) (m : Market) → market_for w u item ≡ Some m
    → IsMarketFor w u item m
market_is w world u None m is = none_some m is
market_is w world u (Some i) m is = by_plan (get w.regions u.region) refl is
  where
    by_plan : (o : Option RegionPlan) → get w.regions u.region ≡ o
        → option_and_then (λ (p : RegionPlan). get p.markets i) o ≡ Some m → IsMarketFor w u (Some i) m
    by_plan None at found = none_some m found
    by_plan (Some p) at found =
        let of = (world.regions u.region p at).markets i m found in
        let same : i ≡ m.item = sym of.number_is in
        record { named_item = ap Some same; there = ap (market_of w u.region) (sym same) ∙ is; bounds = subst (λ k. IsMarket (length w.items) k m) same of }

-- ---- the result of a trade is within all limits

-- Unit `u`, whose holding is within its limits (`holds`), trades `share` pieces with market `m` of its region. The
-- market has `stock` pieces of the item, at most its limit (`low`).
module _ (w : WorldValue) (u : Unit) (m : Market) (stock share : ℕ) (there : market_of w u.region m.item ≡ Some m) (holds : IsHolding u.holding) (low : stock ≤ m.limit) where
  limit_is : stock_limit w u.region m.item ≡ m.limit
  limit_is = ap (λ o. option_map_or (λ (x : Market). x.limit) o most_amount) there

  less : (a k limit : ℕ) → a ≤ limit → a - k ≤ limit
  less a k limit most = omega (arith, most)

  gone : (a s k : ℕ) → k ≤ a → a - k + (s + k) ≡ a + s
  gone a s k enough = omega (arith, enough)

  come : (a s k : ℕ) → k ≤ s → a + k + (s - k) ≡ a + s
  come a s k enough = omega (arith, enough)

  part : (a k limit : ℕ) → a + k ≤ limit → k ≤ limit
  part a k limit fits = omega (arith, fits)

  up_to : (a k limit : ℕ) → k ≤ a → a ≤ limit → k ≤ limit
  up_to a k limit few most = omega (arith, few, most)

  -- if the unit can afford the trade and the market's pot is large enough, the result of the trade is within all limits
  pub deal_fits : (trade : Trade) → CanAfford trade u.holding share (Some m) → MarketAllowsShare trade stock share (Some m)
      → ResultFits w u m.item stock (trade_result_of trade u.holding stock share m)
  deal_fits Sell (enough, room) pot = record {
    money = room;
    amount = less (amount_of u.holding.items m.item) share holding_limit (amount_within u.holding m.item holds);
    stock = subst (λ k. stock + share ≤ k) (sym limit_is) pot;
    goods = gone (amount_of u.holding.items m.item) stock share enough;
    paid = put_to u.holding.money (share * m.pays);
    small = within-pos (share * m.pays) holding_limit (part u.holding.money (share * m.pays) holding_limit room);
  }
  deal_fits Buy (payable, room) pot = record {
    money = less u.holding.money (share * m.price) holding_limit holds.money;
    amount = room;
    stock = subst (λ k. stock - share ≤ k) (sym limit_is) (less stock share m.limit low);
    goods = come (amount_of u.holding.items m.item) stock share pot;
    paid = taken_off u.holding.money (share * m.price) payable;
    small = within-neg (share * m.price) holding_limit (up_to u.holding.money (share * m.price) holding_limit payable holds.money);
  }

-- ---- one step

-- the stock of a region that is there is what the region has of the item
pub stock_is : (c : CampaignValue) (r : ℕ) (q : Region) (i : ℕ) → get c.regions r ≡ Some q
    → stock_of c r i ≡ amount_of q.stocks i
stock_is c r q i around = ap (λ o. option_map_or (λ (x : Region). amount_of x.stocks i) o 0) around

stock_low : (w : WorldValue) (c : CampaignValue) (r : ℕ) (q : Region) (i : ℕ) → IsEarly w c → get c.regions r ≡ Some q
    → amount_of q.stocks i ≤ stock_limit w r i
stock_low w c r q i early around = by_amount (get q.stocks i) refl
  where
    by_amount : (o : Option ℕ) → get q.stocks i ≡ o → unwrap_or o 0 ≤ stock_limit w r i
    by_amount None is = omega arith
    by_amount (Some a) is = ((early.steady.numbers.regions r q around).stocks i a is).1

-- Which units take their shares from the pot of a region and an item (the pair `k`): those that are in the region and
-- whose order names the item. `units` are those of the campaign as the phase begins; `items` has by unit the item.
abbrev pub draws_item : FinMap nat_cmp Unit → FinMap nat_cmp ℕ → ℕ × ℕ → ℕ → Bool
draws_item units items k n = is_in_region k.0 (get units n) && asks_for k.1 (get items n)

-- The pots of SELL or BUY, by region and item. What is left of one is the market's limit (0 without a market) less the
-- stock (SELL), or the stock (BUY). `units` and `items` say whose shares it gives (`draws_item`).
abbrev pub item_pots : Trade → WorldValue → FinMap nat_cmp Unit → FinMap nat_cmp ℕ → DrawnPots (ℕ × ℕ)
item_pots trade w units items =
    record { pot_region = λ k. k.0; draws = draws_item units items; left = λ k q. market_pot trade (limit_of w k.1 k.0) (amount_of q.stocks k.1) }

pot_less : (trade : Trade) (h : HoldingValue) (limit stock share : ℕ) (m : Market) → limit ≡ m.limit
    → MarketAllowsShare trade stock share (Some m)
    → market_pot trade limit (trade_result_of trade h stock share m).stock + share ≡ market_pot trade limit stock
pot_less Sell h limit stock share m same pot = omega (arith, same, pot)
pot_less Buy h limit stock share m same pot = omega (arith, pot)

-- a campaign after unit `u`, whose number with its share is `e`, traded the share with market `o`; unchanged where `o`
-- is None
abbrev pub traded_at : Trade → CampaignValue → ℕ × ℕ → Unit → Option Market → CampaignValue
traded_at trade c e u o =
    option_map_or
    (λ m. with_trade_booked c e.0 u m.item (trade_entry trade) (trade_result_of trade u.holding (stock_of c u.region m.item) e.1 m))
    o c

-- `items` has by unit the item that its order names. `e` is a unit's number with its share: how many pieces it trades.
module _ (trade : Trade) (items : FinMap nat_cmp ℕ) (w : WorldValue) (c : CampaignValue) (e : ℕ × ℕ) where
  -- If the unit of `e` is there and is `u`, the campaign after the trade (`after_trade`) is that after `u` traded its
  -- share with `o` (`traded_at`). `o` is the market of the region of `u` for the item that its order names. Without a
  -- market (None) nothing changes.
  pub traded_is : (u : Unit) → get c.units e.0 ≡ Some u → (o : Option Market) → market_for w u (get items e.0) ≡ o
      → after_trade trade items w c e ≡ traded_at trade c e u o
  unfolding after_trade
  traded_is u is o at = unit_there c e.0 _ u is ∙ ap (traded_at trade c e u) at

  -- the unit of `e` can trade its share (`can`), and `m` is the market of its region for the item that its order names
  module _ (can : CanTrade trade items w c e) (m : Market) (at : market_for w can.at.unit (get items e.0) ≡ Some m) where
    abbrev deal : TradeResult
    deal = trade_result_of trade can.at.unit.holding (amount_of can.at.region.stocks m.item) e.1 m

    market : IsMarketFor w can.at.unit (get items e.0) m
    market = market_is w can.world can.at.unit (get items e.0) m at

    made_is : after_trade trade items w c e ≡ after_deal c e.0 can.at.unit m.item (trade_entry trade) deal
    made_is =
        traded_is can.at.unit can.at.there (Some m) at
        ∙ ap (λ stock. with_trade_booked c e.0 can.at.unit m.item (trade_entry trade) (trade_result_of trade can.at.unit.holding stock e.1 m)) (stock_is c can.at.unit.region can.at.region m.item can.at.around)
        ∙ deal_is w c e.0 can.at.unit can.at.region m.item (trade_entry trade) deal can.at.there can.at.around

    fits : ResultFits w can.at.unit m.item (amount_of can.at.region.stocks m.item) deal
    fits =
        let u = can.at.unit in
        let limit : stock_limit w u.region m.item ≡ m.limit = ap (λ o. option_map_or (λ (x : Market). x.limit) o most_amount) market.there in
        let low = subst (λ k. amount_of can.at.region.stocks m.item ≤ k) limit (stock_low w c u.region can.at.region m.item can.early can.at.around) in
        deal_fits w u m (amount_of can.at.region.stocks m.item) e.1 market.there (can.early.steady.numbers.units e.0 u can.at.there).1 low trade (subst (CanAfford trade u.holding e.1) at can.deal) (can.pot m at)

    made_well : LeavesWell IsEarly (trade_moves trade holding_limit) w c (after_trade trade items w c e)
    made_well =
        subst (λ d. LeavesWell IsEarly (trade_moves trade holding_limit) w c d) (sym made_is)
        (deal_well w c e.0 can.at.unit can.at.region m.item (trade_entry trade) deal can.at.there can.at.around fits market.bounds.item (subst IsSome (sym market.there) refl) can.early)

    made_drains : (units : FinMap nat_cmp Unit) → get units e.0 ≡ Some can.at.unit
        → Drains (item_pots trade w units items) c e (after_trade trade items w c e)
    made_drains units there =
        region_drains (item_pots trade w units items) c e (after_trade trade items w c e) can.at.unit.region can.at.region can.at.around (λ r. restocked r m.item deal.stock) (ap (λ (d : CampaignValue). d.regions) made_is)
        (λ k same. here k same (eq_by_cmp nat_cmp k.1 m.item) refl)
        (λ k apart. ap (λ b. b && asks_for k.1 (get items e.0)) (ap (is_in_region k.0) there ∙ other_number can.at.unit.region k.0 (λ is. apart (sym is))))
      where
        draws_market_item : (k : ℕ × ℕ) → k.0 ≡ can.at.unit.region → draws_item units items k e.0 ≡ (m.item == k.1)
        draws_market_item k same =
            ap (λ b. b && asks_for k.1 (get items e.0)) (ap (is_in_region k.0) there ∙ ap (λ r. can.at.unit.region == r) same ∙ same_number can.at.unit.region)
            ∙ ap (asks_for k.1) market.named_item

        here : (k : ℕ × ℕ) → k.0 ≡ can.at.unit.region → (b : Bool) → eq_by_cmp nat_cmp k.1 m.item ≡ b
            → market_pot trade (limit_of w k.1 k.0) (amount_of (with_amount_of can.at.region.stocks m.item deal.stock) k.1) + cond (draws_item units items k e.0) e.1 0 ≡ market_pot trade (limit_of w k.1 k.0) (amount_of can.at.region.stocks k.1)
        here k same true is =
            let item : k.1 ≡ m.item = compared_equal_is_equal m.item k.1 is in
            let limit : limit_of w k.1 k.0 ≡ m.limit = ap (λ j. limit_of w j k.0) item ∙ ap (λ r. limit_of w m.item r) same ∙ ap (λ o. option_map_or (λ (x : Market). x.limit) o 0) market.there in
            let drawing : draws_item units items k e.0 ≡ true = draws_market_item k same ∙ ap (λ j. m.item == j) item ∙ same_number m.item in
            ap (λ b. market_pot trade (limit_of w k.1 k.0) (amount_of (with_amount_of can.at.region.stocks m.item deal.stock) k.1) + cond b e.1 0) drawing
            ∙ ap (λ a. market_pot trade (limit_of w k.1 k.0) a + e.1) (amount_after_setting can.at.region.stocks m.item deal.stock k.1 ∙ ap (λ b. cond b deal.stock (amount_of can.at.region.stocks k.1)) is)
            ∙ pot_less trade can.at.unit.holding (limit_of w k.1 k.0) (amount_of can.at.region.stocks m.item) e.1 m limit (can.pot m at)
            ∙ ap (λ j. market_pot trade (limit_of w k.1 k.0) (amount_of can.at.region.stocks j)) (sym item)
        here k same false is =
            let apart : m.item ≢ k.1 = λ one. is_unequal k.1 m.item (unsigned_ties k.1 m.item ∙ is) (sym one) in
            ap (λ b. market_pot trade (limit_of w k.1 k.0) (amount_of (with_amount_of can.at.region.stocks m.item deal.stock) k.1) + cond b e.1 0) (draws_market_item k same ∙ other_number m.item k.1 apart)
            ∙ add-zero (market_pot trade (limit_of w k.1 k.0) (amount_of (with_amount_of can.at.region.stocks m.item deal.stock) k.1))
            ∙ ap (market_pot trade (limit_of w k.1 k.0)) (amount_after_setting can.at.region.stocks m.item deal.stock k.1 ∙ ap (λ b. cond b deal.stock (amount_of can.at.region.stocks k.1)) is)

  -- a trade that can be made (`CanTrade`) keeps a campaign early, and books at most 999,999,999 money (`LeavesWell`)
  pub traded_well : CanTrade trade items w c e
      → LeavesWell IsEarly (trade_moves trade holding_limit) w c (after_trade trade items w c e)
  traded_well can = by_market (market_for w can.at.unit (get items e.0)) refl
    where
      by_market : (o : Option Market) → market_for w can.at.unit (get items e.0) ≡ o
          → LeavesWell IsEarly (trade_moves trade holding_limit) w c (after_trade trade items w c e)
      by_market None at =
          subst (λ d. LeavesWell IsEarly (trade_moves trade holding_limit) w c d) (sym (traded_is can.at.unit can.at.there None at))
          (well_unchanged (trade_moves trade holding_limit) w c can.early)
      by_market (Some m) at = made_well can m at

  traded_drains : (can : CanTrade trade items w c e) (units : FinMap nat_cmp Unit) → get units e.0 ≡ Some can.at.unit
      → Drains (item_pots trade w units items) c e (after_trade trade items w c e)
  traded_drains can units there = by_market (market_for w can.at.unit (get items e.0)) refl
    where
      by_market : (o : Option Market) → market_for w can.at.unit (get items e.0) ≡ o
          → Drains (item_pots trade w units items) c e (after_trade trade items w c e)
      by_market None at =
          nothing_drains (item_pots trade w units items) c e (after_trade trade items w c e) (ap (λ (d : CampaignValue). d.regions) (traded_is can.at.unit can.at.there None at)) (subst (CanAfford trade can.at.unit.holding e.1) at can.deal)
      by_market (Some m) at = made_drains can m at units there

  -- the trade of a unit leaves all other units as they are
  pub traded_others : (k : ℕ) → k ≢ e.0 → get (after_trade trade items w c e).units k ≡ get c.units k
  unfolding after_trade
  traded_others k apart =
      by_unit c e.0 (λ (d : CampaignValue). get d.units k ≡ get c.units k) _ refl (λ u is.
      by_option (λ (d : CampaignValue). get d.units k ≡ get c.units k) _ (market_for w u (get items e.0)) c refl (λ m at.
      let h = with_trade_result u.holding m.item (trade_result_of trade u.holding (stock_of c u.region m.item) e.1 m) in
      ap (λ o. get (with_holding_at c e.0 h o).units k) is ∙ get-insert_other c.units e.0 k (record u { holding = h }) apart))

-- ---- who gets something

-- SELL and BUY give only to units with a want, and to none more than it wants
pub trades_give : (trade : Trade) (w : WorldValue) (c : CampaignValue) → GivesToWants (trade_pots trade) w c
trades_give trade w c items wants n share is =
    items_give (get items) (trade_pot trade w c) wants c n share
    (sym (shares_at (get items) (trade_pot trade w c) wants c n) ∙ is)

-- SELL and BUY leave units for which their own faction wrote none of the orders `os` no worse off
pub trade_keeps_others : (trade : Trade) (w : WorldValue) (c : CampaignValue) (os : List Task)
    → OthersAreNoWorse os c (after_sharing (trade_pots trade) w c os)
trade_keeps_others trade w c os =
    others_no_worse (trade_pots trade) w (λ items. traded_others trade items w) c (trades_give trade w c) os

-- A unit whose holding `h` is within the limits (`holds`) can afford what it wants to trade with market `m`. `says` is
-- how many pieces its order asks for, and `share` how many pieces it gets to trade.
module _ (h : HoldingValue) (m : Market) (says share : ℕ) (holds : IsHolding h) where
  few_of : (says a b : ℕ) → share ≤ min says (min a b) → (share ≤ a) × (share ≤ b)
  few_of says a b low = (omega (arith, low), omega (arith, low))

  times : (money price : ℕ) → share ≤ money / price → share * price ≤ money
  times money price few =
      omega (arith, mul-le-mul_right price few, mul-div-le money price, mul_comm (money / price) price)

  room_for : (a k limit : ℕ) → a ≤ limit → k ≤ limit - a → a + k ≤ limit
  room_for a k limit fits few = omega (arith, fits, few)

  -- a unit can afford any share that is at most its want (`trade_want`)
  pub wanted_fits : (trade : Trade) → share ≤ trade_want trade h says (Some m) → CanAfford trade h share (Some m)
  wanted_fits Sell low =
      let (few, payable) = few_of says (amount_of h.items m.item) ((holding_limit - h.money) / m.pays) low in
      (few, room_for h.money (share * m.pays) holding_limit holds.money (times (holding_limit - h.money) m.pays payable))
  wanted_fits Buy low =
      let (payable, few) = few_of says (h.money / m.price) (holding_limit - amount_of h.items m.item) low in
      (times h.money m.price payable, room_for (amount_of h.items m.item) share holding_limit (amount_within h m.item holds) few)

-- ---- all shares can be traded in turn

-- `items` has by unit the item that its order names. `c` is the campaign when the phase begins; `d` below is what it is
-- after the trades ahead of a list `es` of shares, which are pairs (unit, pieces).
module _ (trade : Trade) (items : FinMap nat_cmp ℕ) (w : WorldValue) (world : IsWorld w) (c : CampaignValue) where
  abbrev step_moves : BookBound
  step_moves = trade_moves trade holding_limit

  abbrev pots : DrawnPots (ℕ × ℕ)
  pots = item_pots trade w c.units items

  abbrev CanHave : ℕ × ℕ → Type 0
  CanHave e = (u : Unit) × (get c.units e.0 ≡ Some u) × CanAfford trade u.holding e.1 (market_for w u (get items e.0))

  abbrev AreToTrade : CampaignValue → List (ℕ × ℕ) → Type 0
  AreToTrade = SharesArePayable pots CanHave w c

  abbrev CanBook : CampaignValue → List (ℕ × ℕ) → Type 0
  CanBook d es = HaveRoom (moved_times (length es) step_moves) d

  -- a share that is at most the market's pot can be traded: the market has room for it (SELL) or has it in stock (BUY)
  has_pot : (limit stock share : ℕ) (m : Market) → limit ≡ m.limit → stock ≤ m.limit
      → share ≤ market_pot trade limit stock → MarketAllowsShare trade stock share (Some m)
  has_pot limit stock share m same low few = by_trade trade few
    where
      by_trade : (t : Trade) → share ≤ market_pot t limit stock → MarketAllowsShare t stock share (Some m)
      by_trade Sell few = omega (arith, same, low, few)
      by_trade Buy few = few

  first_can : (d : CampaignValue) (e : ℕ × ℕ) (es : List (ℕ × ℕ)) → AreToTrade d (e ∷ es) → CanBook d (e ∷ es)
      → CanTrade trade items w d e
  first_can d e es ready room =
      let (u, there, deal) = ready.fits.0 in
      let now : get d.units e.0 ≡ Some u = ready.same.0 ∙ there in
      let (q, around) = (ready.early.steady.known.units e.0 u now).region in
      record {
        at = record { unit = u; there = now; region = q; around = around };
        deal = deal;
        pot = λ m at.
            let market = market_is w world u (get items e.0) m at in
            let k : ℕ × ℕ = (u.region, m.item) in
            let drawing : draws_item c.units items k e.0 ≡ true =
            ap (λ b. b && asks_for m.item (get items e.0)) (ap (is_in_region u.region) there ∙ same_number u.region) ∙ ap (asks_for m.item) market.named_item ∙ same_number m.item in
            let few = first_draws pots d e es ready.enough k q around drawing in
            let limit : stock_limit w u.region m.item ≡ m.limit = ap (λ o. option_map_or (λ (x : Market). x.limit) o most_amount) market.there in
            has_pot (limit_of w m.item u.region) (amount_of q.stocks m.item) e.1 m (ap (λ o. option_map_or (λ (x : Market). x.limit) o 0) market.there)
            (subst (λ l. amount_of q.stocks m.item ≤ l) limit (stock_low w d u.region q m.item ready.early around)) few;
        world = world;
        early = ready.early;
        room = first_room step_moves d e es room;
      }

  all_can : (d : CampaignValue) (es : List (ℕ × ℕ)) → AreToTrade d es → CanBook d es
      → CanInTurn (CanTrade trade items w) (after_trade trade items w) d es
  all_can d [] ready room = tt
  all_can d (e ∷ es) ready room =
      let can = first_can d e es ready room in
      let well = traded_well trade items w d e can in
      let next = after_trade trade items w d e in (
        can,
        all_can next es (ready_after pots w c d e es next ready well.leaves_it (traded_others trade items w d e) (traded_drains trade items w d e can c.units (sym ready.same.0 ∙ can.at.there)))
            (later_room step_moves w d next e es well room),
      )

-- SELL or BUY begins in the early campaign `c` of a world; its books have room for all that the phase may book (`room`)
module _ (trade : Trade) (w : WorldValue) (world : IsWorld w) (c : CampaignValue) (early : IsEarly w c) (os : List Task) (room : HaveRoom (trade_moves trade most_moved) c) where
  abbrev named : FinMap nat_cmp ℕ
  named = items_by (trade_pots trade) w c os

  abbrev given : FinMap nat_cmp ℕ
  given = given_by (trade_pots trade) w c os

  abbrev shares : List (ℕ × ℕ)
  shares = entries given

  abbrev moves : BookBound
  moves = trade_moves trade holding_limit

  abbrev drawn_pots : DrawnPots (ℕ × ℕ)
  drawn_pots = item_pots trade w c.units named

  abbrev MayTrade : ℕ × ℕ → Type 0
  MayTrade = CanHave trade named w world c

  each_fits : Every (λ n share. MayTrade (n, share)) given
  each_fits n share is =
      let (u, t, there, own, low, fine, says) = given_is_named (trade_pots trade) w c (trades_give trade w c) os n share is in
      (u, there, by_item u there (count_in t.order_value.operands) (item_in t.order_value.operands) low fine says)
    where
      by_market : (asked : ℕ) (u : Unit) → get c.units n ≡ Some u → (m : Option Market)
          → share ≤ trade_want trade u.holding asked m → CanAfford trade u.holding share m
      by_market asked u there None low = omega (arith, low)
      by_market asked u there (Some m) low =
          wanted_fits u.holding m asked share (early.steady.numbers.units n u there).1 trade low

      by_item : (u : Unit) → get c.units n ≡ Some u → (asked : ℕ) (s : Option ℕ)
          → share ≤ trade_want trade u.holding asked (market_for w u s)
          → trade_fault trade u.holding (market_for w u s) ≡ None → ((i : ℕ) → s ≡ Some i → get named n ≡ Some i)
          → CanAfford trade u.holding share (market_for w u (get named n))
      by_item u there asked None low fine says = none_some NoMarket (sym fine)
      by_item u there asked (Some i) low fine says =
          subst (λ o. CanAfford trade u.holding share (market_for w u o)) (sym (says i refl))
          (by_market asked u there (market_for w u (Some i)) low)

  all_enough : HaveEnough drawn_pots c shares
  all_enough k q around =
      let wants = wants_by (trade_pots trade) w c os in
      subst (λ stock. drawn (draws_item c.units named k) shares ≤ market_pot trade (limit_of w k.1 k.0) stock) (stock_is c k.0 q k.1 around)
      (shares_are_enough (trade_pot trade w c k.1) (wants_for (get named) wants k.1) c k.0 (draws_item c.units named k) given (λ n share is drawing.
      let parts = and_parts _ _ drawing in
      let says = for_item k.1 (get named n) parts.1 in
      (sym (ap (share_for (get named) (trade_pot trade w c) wants c n) says) ∙ sym (shares_at (get named) (trade_pot trade w c) wants c n) ∙ is, parts.0)) (q, around))
    where
      for_item : (i : ℕ) (o : Option ℕ) → asks_for i o ≡ true → o ≡ Some i
      for_item i None never = cc
      for_item i (Some j) same = ap Some (eqb-true j i same)

  few : length shares ≤ most_units
  few = omega (arith, few_given (trade_pots trade) w c (trades_give trade w c) os, early.steady.numbers.few_units)

  -- the trades of all units that have a share move each amount of the books by less than 10^14 together
  little : (e : BooksEntry) (t : Thing) → moved_times (length shares) moves e t ≤ trade_moves trade most_moved e t
  little e t = few_holdings (length shares) few (trade_entry trade) Money e t

  -- all shares of SELL or BUY can be traded in turn, if the books have room for the phase (`room`)
  pub can_share_out : CanInTurn (CanTrade trade named w) (after_trade trade named w) c shares
  can_share_out = all_can trade named w world c c shares (record {
    early = early;
    rise = entries_rise given;
    same = untouched c shares;
    fits = all_pairs MayTrade shares (each-from_every (λ n share. MayTrade (n, share)) given each_fits);
    enough = all_enough;
  }) (room_less (moved_times (length shares) moves) (trade_moves trade most_moved) c little room)

  -- SELL or BUY keeps an early campaign early and its books balanced, within the phase's bound (`LeavesWell`)
  pub all_trades_leave_well : LeavesWell IsEarly (trade_moves trade most_moved) w c (after_sharing (trade_pots trade) w c os)
  unfolding after_sharing
  all_trades_leave_well =
      well_within (moved_times (length shares) moves) (trade_moves trade most_moved) w c (fold (after_trade trade named w) c shares) little
      (turns_leave_well moves w (CanTrade trade named w) (after_trade trade named w) (traded_well trade named w) c shares early can_share_out)

-- ---- what the code sets, books and marks

-- The result `d` of a trade that can be made (`CanTrade`) can be booked under Sold or Bought (`CanBookTrade`). `items`
-- has by unit the item that its order names, and `m` is the market for it.
pub can_book_result : (trade : Trade) (items : FinMap nat_cmp ℕ) (w : WorldValue) (c : CampaignValue) (n share : ℕ)
    → CanTrade trade items w c (n, share)
    → (u : Unit) (m : Market) (stock : ℕ) (entry : BooksEntry) (d : TradeResult) → get c.units n ≡ Some u
    → market_for w u (get items n) ≡ Some m → stock ≡ stock_of c u.region m.item
    → entry ≡ trade_entry trade → d ≡ trade_result_of trade u.holding stock share m → CanBookTrade c n entry d
can_book_result trade items w c n share can u m stock entry d there at stock_at entry_at d_at =
    let e : ℕ × ℕ = (n, share) in
    let same : can.at.unit ≡ u = same_Some _ _ (sym can.at.there ∙ there) in
    let mine : market_for w can.at.unit (get items n) ≡ Some m = ap (λ v. market_for w v (get items n)) same ∙ at in
    let stocked : amount_of can.at.region.stocks m.item ≡ stock = sym (stock_is c can.at.unit.region can.at.region m.item can.at.around) ∙ ap (λ (v : Unit). stock_of c v.region m.item) same ∙ sym stock_at in
    let is : deal trade items w c e can m mine ≡ d =
    ap (λ (v : Unit). trade_result_of trade v.holding (amount_of can.at.region.stocks m.item) share m) same ∙ ap (λ k. trade_result_of trade u.holding k share m) stocked ∙ sym d_at in
    let fit = fits trade items w c e can m mine in
    record {
      unit = u;
      there = there;
      money = subst (λ (x : TradeResult). x.money ≤ holding_limit) is fit.money;
      amount = subst (λ (x : TradeResult). x.amount ≤ holding_limit) is fit.amount;
      things = omega (arith, can.early.steady.numbers.books.count);
      small = subst (λ (x : TradeResult). IsWithin holding_limit x.booked) is fit.small;
      room = subst (λ f. HasRoom holding_limit (amount_in c.books f Money)) (sym entry_at) (only_room (trade_entry trade) Money (amount_in c.books (trade_entry trade) Money) (can.room (trade_entry trade) Money));
    }

-- in an early campaign of a world (`IsWorld`) no stock is above 999,999,999
pub stock_most : (w : WorldValue) (c : CampaignValue) (r i : ℕ) → IsWorld w → IsEarly w c → stock_of c r i ≤ most_amount
stock_most w c r i world early = by_region (get c.regions r) refl
  where
    by_market : (q : Region) → amount_of q.stocks i ≤ stock_limit w r i → (o : Option RegionPlan) → get w.regions r ≡ o
        → stock_limit w r i ≤ most_amount
    by_market q low None at =
        subst
        (λ p. option_map_or (λ (x : Market). x.limit) (option_and_then (λ (p : RegionPlan). get p.markets i) p) most_amount ≤ most_amount)
        (sym at) (omega arith)
    by_market q low (Some p) at =
        subst
        (λ p. option_map_or (λ (x : Market). x.limit) (option_and_then (λ (p : RegionPlan). get p.markets i) p) most_amount ≤ most_amount)
        (sym at) (limited (get p.markets i) refl)
      where
        limited : (o : Option Market) → get p.markets i ≡ o
            → option_map_or (λ (x : Market). x.limit) o most_amount ≤ most_amount
        limited None is = omega arith
        limited (Some m) is = ((world.regions r p at).markets i m is).limit

    by_region : (o : Option Region) → get c.regions r ≡ o
        → option_map_or (λ (x : Region). amount_of x.stocks i) o 0 ≤ most_amount
    by_region None is = omega arith
    by_region (Some q) is =
        let low = stock_low w c r q i early is in
        let limit = by_market q low (get w.regions r) refl in
        omega (arith, low, limit)

-- A trade in two steps. In `d` unit `n`, if it is there, has what `f` makes of its holding in `c`; `e` is `d` with
-- `stock` pieces of the item in the stock of the region.
module _ (c d e : MarkedCampaign) (n region item stock : ℕ) (f : HoldingValue → HoldingValue) (set : ChangesHolding c d n f) (put : e.value ≡ with_stock d.value region item stock) where
  -- the two steps leave the books as they are
  pub traded_books : e.value.books ≡ c.value.books
  traded_books = ap (λ (s : CampaignValue). s.books) put ∙ ap (λ (s : CampaignValue). s.books) set.value

  -- from `c` to `e` no mark is lost and all that changed is marked, if the stock is marked when it is set
  pub traded_marks : MarksStock d region item stock e.marks → MarksChanges c e
  traded_marks how = marks-trans c d e set.marks (marks_by d e _ put refl (marks-stock d region item stock e.marks how))

  -- if unit `n` is there and is `u`, the two steps set what the unit holds and the stock, and change nothing else
  pub traded_what : (u : Unit) → get c.value.units n ≡ Some u
      → e.value ≡ with_stock (with_holding c.value n (f u.holding)) region item stock
  traded_what u is =
      put
      ∙ ap (λ s. with_stock s region item stock)
      (changed_held f c.value d.value n set.value u is ∙ sym (ap (with_holding_at c.value n (f u.holding)) is))
