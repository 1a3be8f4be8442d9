-- Laws that SELL and BUY (`trade`) change all units and stocks at once, from what one trade changes. `c` is the
-- campaign when the phase begins, `d` the one that the trades so far leave, and `os` are the orders of the phase.
-- `share` is how many pieces a unit trades. `u` is a unit, `h` what a unit holds, `m` a market, and `stock` what it has
-- in stock.
use Rattle.std.proofs.Common.{◌≡◌, ◌≢◌, ◌==◌, ◌&&◌, ℕ, ◌+◌, ◌≤◌, ◌<◌, Bool, true, false, cond, Option, Some, None, List, [], ◌∷◌, refl, sym, ap, subst, ◌∙◌, inl, inr, arith}
use Rattle.std.specs.Prelude.{fold}
use Rattle.std.specs.List.{AllByRecursion}
use Rattle.std.specs.Ordering.{nat_cmp}
use Rattle.std.specs.FinMap.{FinMap, entries, find, get, get-entries, insert}
use Rattle.std.proofs.lemmas.Bool.{cases_eq}
use Rattle.atl_world.specs.Sums.{with_changed_value}
use Rattle.atl_world.specs.Worlds.{IsWorld, WorldValue}
use Rattle.atl_world.specs.declared.world.Market.{Market}
use Rattle.atl_records.specs.declared.books.BooksEntry.{BooksEntry}
use Rattle.atl_records.specs.declared.records.Region.{Region}
use Rattle.atl_records.specs.declared.records.Unit.{Unit}
use Rattle.atl_world.specs.Every.{Every}
use Rattle.atl_records.specs.Holdings.{HoldingValue, amount_of, with_amount_of}
use Rattle.atl_campaign.specs.Campaign.{CampaignValue}
use Rattle.atl_campaign.specs.Lending.{with_holding_at}
use Rattle.atl_campaign.specs.Stocks.{stock_of}
use Rattle.atl_world.proofs.EveryLaws.{each-from_every, first, other_number, same_number}
use Rattle.atl_records.proofs.HoldingLaws.{set_other, set_same}
use Rattle.atl_campaign.proofs.ReadBackLaws.{Rise, entries_rise}
use Rattle.atl_campaign.proofs.RegionLaws.{changed-known, get-insert_same}
use Rattle.atl_campaign.proofs.StockLaws.{restocked}
use Rattle.atl_phase.specs.PhaseOrders.{Task}
use Rattle.atl_phase.proofs.StructureLaws.{changed_else}
use Rattle.atl_pots.specs.Pots.{asks_for}
use Rattle.atl_pots.proofs.PotLaws.{found_other}
use Rattle.atl_market.specs.AtOnce.{HasNewStocks, UnitChange, paid_unit, is_in_region}
use Rattle.atl_market.specs.AfterPots.{TradesAtOnce, stock_after, trader_of, with_trade}
use Rattle.atl_market.specs.PotPhase.{after_sharing, count_in, given_by, item_in, items_by}
use Rattle.atl_market.specs.Trade.{after_trade, market_for, trade_entry, trade_pots, trade_result_of, trade_want, with_trade_booked, with_trade_result}
use Rattle.atl_market.specs.declared.trade.TradeResult.{TradeResult}
use Rattle.atl_market.specs.declared.trade.Trade.{Trade}
use Rattle.atl_market.specs.declared.trade.Trade.TheVariants.{Sell, Buy}
use Rattle.atl_market.proofs.AtOnceLaws.{drawn_is_sum}
use Rattle.atl_market.proofs.DrawLaws.{AreUntouched, all_pairs, drawn, still, untouched}
use Rattle.atl_market.proofs.TradeLaws.{market_is, stock_is, draws_item, traded_is, traded_others, trades_give}
use Rattle.atl_market.proofs.WantLaws.{given_is_named}

-- ---- what a trade leaves to unit and stock

trade_is : (trade : Trade) (h : HoldingValue) (stock share : ℕ) (m : Market)
    → with_trade_result h m.item (trade_result_of trade h stock share m) ≡ with_trade trade h share m
trade_is Sell h stock share m = refl
trade_is Buy h stock share m = refl

stock_traded : (trade : Trade) (h : HoldingValue) (stock share : ℕ) (m : Market)
    → (trade_result_of trade h stock share m).stock ≡ stock_after trade stock share
stock_traded Sell h stock share m = refl
stock_traded Buy h stock share m = refl

none_traded : (trade : Trade) (stock : ℕ) → stock_after trade stock 0 ≡ stock
none_traded Sell stock = omega arith
none_traded Buy stock = omega arith

traded_twice : (trade : Trade) (stock s t : ℕ)
    → stock_after trade (stock_after trade stock s) t ≡ stock_after trade stock (s + t)
traded_twice Sell stock s t = omega arith
traded_twice Buy stock s t = omega arith

-- unit `n`, which is `u`, trades item `i`; `deal` is the result, whose money is booked under `entry`
module _ (d : CampaignValue) (n : ℕ) (u : Unit) (i : ℕ) (entry : BooksEntry) (deal : TradeResult) (is : get d.units n ≡ Some u) where
  dealt_units : (with_trade_booked d n u i entry deal).units
      ≡ insert d.units n (record u { holding = with_trade_result u.holding i deal })
  dealt_units = ap (λ o. (with_holding_at d n (with_trade_result u.holding i deal) o).units) is

  dealt_regions : (with_trade_booked d n u i entry deal).regions
      ≡ with_changed_value (λ r. restocked r i deal.stock) d.regions u.region
  dealt_regions =
      ap
      (λ o. with_changed_value (λ r. restocked r i deal.stock) (with_holding_at d n (with_trade_result u.holding i deal) o).regions u.region)
      is

-- ---- one unit trades

-- `items` has by unit the item that its order names
module _ (trade : Trade) (items : FinMap nat_cmp ℕ) (w : WorldValue) where
  -- what unit `n` is after it traded a number of pieces with the market for its order's item, if there is one
  abbrev trader : ℕ → UnitChange
  trader n u share = trader_of trade u share (market_for w u (get items n))

  unit_traded : (d : CampaignValue) (e : ℕ × ℕ) (u : Unit) → get d.units e.0 ≡ Some u
      → get (after_trade trade items w d e).units e.0 ≡ Some (trader e.0 u e.1)
  unit_traded d e u is = by_market (market_for w u (get items e.0)) refl
    where
      by_market : (o : Option Market) → market_for w u (get items e.0) ≡ o
          → get (after_trade trade items w d e).units e.0 ≡ Some (trader_of trade u e.1 o)
      by_market None at = ap (λ (s : CampaignValue). get s.units e.0) (traded_is trade items w d e u is None at) ∙ is
      by_market (Some m) at =
          let stock = stock_of d u.region m.item in
          let deal : TradeResult = trade_result_of trade u.holding stock e.1 m in
          ap (λ (s : CampaignValue). get s.units e.0) (traded_is trade items w d e u is (Some m) at)
          ∙ ap (λ k. get k e.0) (dealt_units d e.0 u m.item (trade_entry trade) deal is) ∙ get-insert_same d.units e.0 (record u { holding = with_trade_result u.holding m.item deal })
          ∙ ap (λ h. Some (record u { holding = h })) (trade_is trade u.holding stock e.1 m)

-- What a trade changes of each region's stocks. `e` is the number of unit `u` with its share: how many pieces it trades
-- of the item that `items` has for it. The unit is in `d` as in `units`, those of the campaign when the phase began.
module _ (trade : Trade) (items : FinMap nat_cmp ℕ) (w : WorldValue) (units : FinMap nat_cmp Unit) (d : CampaignValue) (e : ℕ × ℕ) (u : Unit)
    (is : get d.units e.0 ≡ Some u) (there : get units e.0 ≡ Some u) where
  -- how many of item `i` the unit takes from, or adds to, the stock of region `r`
  abbrev drawn_here : (r i : ℕ) → ℕ
  drawn_here r i = cond (draws_item units items (r, i) e.0) e.1 0

  -- region `r`, which was `q`, is there after the trade; only its stocks changed, each by what the unit draws
  -- (`drawn_here`)
  abbrev IsTraded : ℕ → Region → Type 0
  IsTraded r q = HasNewStocks q (stock_after trade) (drawn_here r) (get (after_trade trade items w d e).regions r)

  none_drawn : (b : Bool) (share : ℕ) → share ≡ 0 → cond b share 0 ≡ 0
  none_drawn true share none = none
  none_drawn false share none = refl

  without_market : market_for w u (get items e.0) ≡ None → e.1 ≡ 0 → (r : ℕ) (q : Region) → get d.regions r ≡ Some q
      → IsTraded r q
  without_market at none r q around = record {
    stocks = q.stocks;
    region = ap (λ (s : CampaignValue). get s.regions r) (traded_is trade items w d e u is None at) ∙ around;
    amounts = λ i. sym (ap (stock_after trade (amount_of q.stocks i)) (none_drawn (draws_item units items (r, i) e.0) e.1 none) ∙ none_traded trade (amount_of q.stocks i));
  }

  -- `m` is the market of the unit's region for the item that its order names
  module _ (m : Market) (at : market_for w u (get items e.0) ≡ Some m) (says : get items e.0 ≡ Some m.item) where
    abbrev deal : TradeResult
    deal = trade_result_of trade u.holding (stock_of d u.region m.item) e.1 m

    abbrev restock : Region → Region
    restock q = restocked q m.item deal.stock

    regions_are : (r : ℕ)
        → get (after_trade trade items w d e).regions r ≡ get (with_changed_value restock d.regions u.region) r
    regions_are r =
        ap (λ (s : CampaignValue). get s.regions r) (traded_is trade items w d e u is (Some m) at)
        ∙ ap (λ k. get k r) (dealt_regions d e.0 u m.item (trade_entry trade) deal is)

    -- the unit draws from the pot of its own region and of the market's item, and from no other
    draws : (r i : ℕ) → draws_item units items (r, i) e.0 ≡ (u.region == r && m.item == i)
    draws r i =
        ap (λ o. is_in_region r o && asks_for i (get items e.0)) there
        ∙ ap (λ o. u.region == r && asks_for i o) says

    undrawn : (r i stock : ℕ) → draws_item units items (r, i) e.0 ≡ false
        → stock ≡ stock_after trade stock (drawn_here r i)
    undrawn r i stock other = sym (ap (λ b. stock_after trade stock (cond b e.1 0)) other ∙ none_traded trade stock)

    here : (r : ℕ) (q : Region) → r ≡ u.region → get d.regions r ≡ Some q → IsTraded r q
    here r q same around = record {
      stocks = with_amount_of q.stocks m.item deal.stock;
      region =
          regions_are r ∙ ap (λ k. get (with_changed_value restock d.regions k) r) (sym same)
          ∙ ap (λ k. get k r) (changed-known restock d.regions r q around)
          ∙ get-insert_same d.regions r (restock q);
      amounts = amounts;
    }
      where
        mine : (i : ℕ) → draws_item units items (r, i) e.0 ≡ (m.item == i)
        mine i = draws r i ∙ ap (λ b. b && m.item == i) (ap (λ k. u.region == k) same ∙ same_number u.region)

        stock : deal.stock ≡ stock_after trade (amount_of q.stocks m.item) e.1
        stock =
            stock_traded trade u.holding (stock_of d u.region m.item) e.1 m
            ∙ ap (λ k. stock_after trade k e.1) (stock_is d u.region q m.item (ap (get d.regions) (sym same) ∙ around))

        amounts : (i : ℕ)
            → amount_of (with_amount_of q.stocks m.item deal.stock) i
            ≡ stock_after trade (amount_of q.stocks i) (drawn_here r i)
        amounts i = elim (cases_eq i m.item) [
          | inl one ↦
              let drawing : draws_item units items (r, i) e.0 ≡ true = mine i ∙ ap (λ k. m.item == k) one ∙ same_number m.item in
              ap (amount_of (with_amount_of q.stocks m.item deal.stock)) one ∙ set_same q.stocks m.item deal.stock
              ∙ stock
              ∙ ap (λ k. stock_after trade (amount_of q.stocks k) e.1) (sym one)
              ∙ ap (λ b. stock_after trade (amount_of q.stocks i) (cond b e.1 0)) (sym drawing)
          | inr apart ↦
              set_other q.stocks m.item deal.stock i apart
              ∙ undrawn r i (amount_of q.stocks i) (mine i ∙ other_number m.item i (λ one. apart (sym one)))
        ]

    elsewhere : (r : ℕ) (q : Region) → r ≢ u.region → get d.regions r ≡ Some q → IsTraded r q
    elsewhere r q apart around = record {
      stocks = q.stocks;
      region = regions_are r ∙ changed_else restock d.regions u.region r apart (get d.regions u.region) ∙ around;
      amounts = λ i. undrawn r i (amount_of q.stocks i) (draws r i ∙ ap (λ b. b && m.item == i) (other_number u.region r (λ same. apart (sym same))));
    }

  -- the trade of a unit changes each stock by what the unit draws of the item (`IsTraded`), if the share is 0 without a
  -- market
  region_traded : IsWorld w → (market_for w u (get items e.0) ≡ None → e.1 ≡ 0) → (r : ℕ) (q : Region)
      → get d.regions r ≡ Some q → IsTraded r q
  region_traded world none r q around = by_market (market_for w u (get items e.0)) refl
    where
      by_market : (o : Option Market) → market_for w u (get items e.0) ≡ o → IsTraded r q
      by_market None at = without_market at (none at) r q around
      by_market (Some m) at =
          let says : get items e.0 ≡ Some m.item = (market_is w world u (get items e.0) m at).named_item in
          elim (cases_eq r u.region) [ inl same ↦ here m at says r q same around | inr apart ↦ elsewhere m at says r q apart around ]

-- ---- one unit trades after the other

-- `items` has by unit the item that its order names
module _ (trade : Trade) (items : FinMap nat_cmp ℕ) (w : WorldValue) where
  abbrev step : CampaignValue → ℕ × ℕ → CampaignValue
  step d e = after_trade trade items w d e

  untraded_stays : (d : CampaignValue) (es : List (ℕ × ℕ)) (n : ℕ) → AllByRecursion (λ e. n < e.0) es
      → get (fold (after_trade trade items w) d es).units n ≡ get d.units n
  untraded_stays d [] n above = refl
  untraded_stays d (e ∷ es) n above =
      untraded_stays (step d e) es n above.1
      ∙ traded_others trade items w d e n (λ same. absurd (omega (arith, same, above.0)))

  -- after trades in the order of unit numbers each unit that has a share has changed by it, and any other is as it was
  units_traded : (d : CampaignValue) (es : List (ℕ × ℕ)) → Rise es → (n : ℕ) (u : Unit) → get d.units n ≡ Some u
      → get (fold (after_trade trade items w) d es).units n ≡ Some (paid_unit (trader trade items w n) u (find nat_cmp n es))
  units_traded d [] rise n u is = is
  units_traded d (e ∷ es) rise n u is = elim (cases_eq n e.0) [
    | inl same ↦
        subst (λ k. get (fold (after_trade trade items w) (step d e) es).units k ≡ Some (paid_unit (trader trade items w k) u (find nat_cmp k (e ∷ es)))) (sym same)
        (untraded_stays (step d e) es e.0 rise.0 ∙ unit_traded trade items w d e u (ap (get d.units) (sym same) ∙ is)
        ∙ ap (λ o. Some (paid_unit (trader trade items w e.0) u o)) (sym (first e es)))
    | inr apart ↦
        units_traded (step d e) es rise.1 n u (traded_others trade items w d e n apart ∙ is)
        ∙ ap (λ o. Some (paid_unit (trader trade items w n) u o)) (sym (found_other e es n apart))
  ]

  module _ (c : CampaignValue) where
    -- the unit of a pair (unit, share) is in campaign `c`, and the share is 0 where the unit has no market for its item
    abbrev Trades : ℕ × ℕ → Type 0
    Trades e = (u : Unit) × (get c.units e.0 ≡ Some u) × (market_for w u (get items e.0) ≡ None → e.1 ≡ 0)

    -- After trades in the order of unit numbers each stock has changed by what its region's units traded of the item.
    -- All these units are there, and without a market their share is 0 (`Trades`).
    regions_traded : IsWorld w → (d : CampaignValue) (es : List (ℕ × ℕ)) → Rise es → AreUntouched c d es
        → AllByRecursion Trades es → (r : ℕ) (q : Region) → get d.regions r ≡ Some q
        → HasNewStocks q (stock_after trade) (λ i. drawn (draws_item c.units items (r, i)) es) (get (fold (after_trade trade items w) d es).regions r)
    regions_traded world d [] rise same all r q around =
        record { stocks = q.stocks; region = around; amounts = λ i. sym (none_traded trade (amount_of q.stocks i)) }
    regions_traded world d (e ∷ es) rise same all r q around =
        let (u, there, none) = all.0 in
        let one = region_traded trade items w c.units d e u (same.0 ∙ there) there world none r q around in
        let others = still c d (step d e) e.0 es (traded_others trade items w d e) rise.0 same.1 in
        let rest = regions_traded world (step d e) es rise.1 others all.1 r (record q { stocks = one.stocks }) one.region in
        record {
          stocks = rest.stocks;
          region = rest.region;
          amounts = λ i.
              let later = drawn (draws_item c.units items (r, i)) es in
              rest.amounts i ∙ ap (λ a. stock_after trade a later) (one.amounts i)
              ∙ traded_twice trade (amount_of q.stocks i) (cond (draws_item c.units items (r, i) e.0) e.1 0) later;
        }

-- SELL or BUY (`trade`) begins in campaign `c`; `os` are the orders of the phase
module _ (trade : Trade) (w : WorldValue) (c : CampaignValue) (os : List Task) where
  abbrev named : FinMap nat_cmp ℕ
  named = items_by (trade_pots trade) w c os

  abbrev given : FinMap nat_cmp ℕ
  given = given_by (trade_pots trade) w c os

  none_left : (share : ℕ) → share ≤ 0 → share ≡ 0
  none_left share low = omega (arith, low)

  -- a share that is at most the unit's want is 0 where the unit's region has no market for its order's item
  without_share : (n share : ℕ) (u : Unit) (asked : ℕ) (s : Option ℕ)
      → share ≤ trade_want trade u.holding asked (market_for w u s)
      → ((i : ℕ) → s ≡ Some i → get named n ≡ Some i) → market_for w u (get named n) ≡ None → share ≡ 0
  without_share n share u asked None low says at = none_left share low
  without_share n share u asked (Some i) low says at =
      none_left share (subst (λ k. share ≤ trade_want trade u.holding asked k) (ap (market_for w u) (sym (says i refl)) ∙ at) low)

  each_trades : Every (λ n share. Trades trade named w c (n, share)) given
  each_trades n share is =
      let (u, t, there, own, low, fine, says) = given_is_named (trade_pots trade) w c (trades_give trade w c) os n share is in
      (u, there, λ at. without_share n share u (count_in t.order_value.operands) (item_in t.order_value.operands) low says at)

-- in a world all units sell or buy at once: each trade changes only its own unit and its region's stock of the item
pub trades_at_once : TradesAtOnce
unfolding after_sharing
trades_at_once trade w c os world =
    let items = named trade w c os in
    let shares = entries (given trade w c os) in
    let all = all_pairs (Trades trade items w c) shares (each-from_every (λ n share. Trades trade items w c (n, share)) (given trade w c os) (each_trades trade w c os)) in
    record {
      units = λ n u is.
          units_traded trade items w c shares (entries_rise (given trade w c os)) n u is
          ∙ ap (λ o. Some (paid_unit (trader trade items w n) u o)) (sym (get-entries (given trade w c os) n));
      regions = λ r q is.
          let after = regions_traded trade items w c world c shares (entries_rise (given trade w c os)) (untouched c shares) all r q is in
          record {
            stocks = after.stocks;
            region = after.region;
            amounts = λ i. after.amounts i ∙ ap (stock_after trade (amount_of q.stocks i)) (drawn_is_sum (draws_item c.units items (r, i)) shares);
          };
    }
