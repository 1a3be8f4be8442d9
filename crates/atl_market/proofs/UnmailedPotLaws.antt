-- Laws that TAX, RECRUIT, WORK, SELL and BUY leave units of a faction without a mailing their items, and their men less
-- the starved. They suppose that the phase keeps what its specification says: no unit is worse off (TAX, WORK), or none
-- without an order of its own faction. A unit is no worse off with the same faction, region, structure, name and guard
-- flag, and no less men, money, items or days. Then each unit of a faction without a mailing is there, with its faction
-- and name, no less of any item, and its men less those whom the phase's Starved events report. These phases report
-- none. In any case they keep the mailings and take back no Starved event (`LeavesUnmailed`). `p` is the phase, `m` the
-- month as it gets it, `c` and `d` the campaigns around it.
use Rattle.std.proofs.Common.{◌≡◌, ◌≢◌, ◌==◌, ◌&&◌, ◌||◌, ◌+◌, ◌-◌, ℕ, Bool, true, false, List, [], ◌∷◌, ◌++◌, map, None, refl, ap, ◌∙◌}
use Rattle.std.specs.Prelude.{if◌then◌else◌, pos}
use Rattle.std.specs.List.{AllByRecursion, list_any}
use Rattle.std.specs.Ordering.{nat_cmp}
use Rattle.std.specs.FinMap.{FinMap, entries, get}
use Rattle.std.proofs.lemmas.List.Elements.{recursion_from_All}
use Rattle.std.proofs.lemmas.List.Sums.{sum_by-append, sum_by-cons}
use Rattle.std.proofs.Math.Nat.{add-zero}
use Rattle.atl_world.specs.Worlds.{WorldValue}
use Rattle.atl_world.specs.declared.verb.Verb.{Verb}
use Rattle.atl_records.specs.declared.books.BooksEntry.TheVariants.{Wages}
use Rattle.atl_records.specs.declared.books.Thing.TheVariants.{Money}
use Rattle.atl_records.specs.declared.event.Event.{Event}
use Rattle.atl_records.specs.declared.records.Unit.{Unit}
use Rattle.atl_campaign.specs.Campaign.{CampaignValue, with_booking, with_money, with_region_money}
use Rattle.atl_world.proofs.EveryLaws.{other_number}
use Rattle.atl_phase.specs.Month.{MonthValue}
use Rattle.atl_phase.specs.Meaning.{Frame, Meaning}
use Rattle.atl_phase.specs.PhaseOrders.{Task, orders_by_unit}
use Rattle.atl_phase.specs.NoWorse.{AreNoWorse}
use Rattle.atl_phase.specs.Unmailed.{men_starved_by, starved_in}
use Rattle.atl_phase.specs.declared.phase_order.Arrangement.TheVariants.{ByUnit}
use Rattle.atl_phase.proofs.PhaseSpecLaws.{PhaseLeavesUnmailed}
use Rattle.atl_phase.proofs.UnmailedLaws.{HasItsItems, HasItsMen, HaveTheirMen, LeavesUnmailed, UnmailedAre, items_of_no_worse, men_changed, men_in_turn, men_stay, none_ordered, whole_leaves}
use Rattle.atl_pots.proofs.PotLaws.{pots_give}
use Rattle.atl_market.specs.PotPhase.{PotMeaning, after_sharing, event_of, events_by, given_by, items_by, pots_meaning}
use Rattle.atl_market.specs.Recruit.{is_recruit, recruit_pots, recruit_spec, recruits_at}
use Rattle.atl_market.specs.Tax.{after_tax, is_tax, tax_pots, tax_spec}
use Rattle.atl_market.specs.Trade.{buy_spec, is_trade, sell_spec, trade_keeps, trade_meaning, trade_pots}
use Rattle.atl_market.specs.declared.trade.Trade.{Trade}
use Rattle.atl_market.specs.declared.trade.Trade.TheVariants.{Buy, Sell}
use Rattle.atl_market.specs.Unordered.{OthersAreNoWorse, has_own_order}
use Rattle.atl_market.specs.Work.{after_work, wages_for, work_orders, work_pots, work_spec}
use Rattle.atl_market.proofs.UnorderedLaws.{without_order_stays}
use Rattle.atl_market.proofs.RecruitLaws.{recruited_others}
use Rattle.atl_market.proofs.ThereLaws.{by_region, by_unit}
use Rattle.atl_market.proofs.TradeLaws.{traded_others, trades_give}

-- ---- all phases with pots

-- the orders of a month that count and whose verbs pass the test `is_of`, whatever the campaign is
abbrev pub orders_with_verbs : (Verb → Bool) → CampaignValue → MonthValue → List Task
orders_with_verbs is_of c = orders_by_unit is_of

module _ (p : PotMeaning) (w : WorldValue) (c : CampaignValue) where
  none_starve : (given : FinMap nat_cmp ℕ) (os : List Task) (n : ℕ) → starved_in (map (event_of p w c given) os) n ≡ 0
  none_starve given [] n = refl
  none_starve given (o ∷ os) n =
      sum_by-cons (λ (e : Event). if e.unit == n then men_starved_by e.verb e.outcome else 0) (event_of p w c given o) (map (event_of p w c given) os)
      ∙ ap (λ x. (if o.unit == n then 0 else 0) + x) (none_starve given os n) ∙ nobody (o.unit == n)
    where
      nobody : (b : Bool) → (if b then 0 else 0) + 0 ≡ 0
      nobody true = refl
      nobody false = refl

  pots_report_none_starved : (events : List Event) (os : List Task) (n : ℕ)
      → starved_in (events ++ events_by p w c os) n ≡ starved_in events n
  unfolding events_by
  pots_report_none_starved events os n =
      sum_by-append (λ (e : Event). if e.unit == n then men_starved_by e.verb e.outcome else 0) events (map (event_of p w c (given_by p w c os)) os)
      ∙ ap (λ x. starved_in events n + x) (none_starve (given_by p w c os) os n) ∙ add-zero (starved_in events n)

-- `orders` gives the orders of the phase in a campaign and its month
module _ (p : PotMeaning) (orders : CampaignValue → MonthValue → List Task) where
  -- the meaning of a phase with pots that finds its orders by `orders`
  abbrev pub shared : Meaning
  shared = pots_meaning p orders

  -- `LeavesUnmailed` holds of a phase with pots, if units of factions without a mailing are there after it, of the same
  -- faction, with as many men. Where `keeps` holds of it, they must also have their names, and no less of any item.
  pub shared_leave : {keeps : Frame}
      → ((w : WorldValue) (c : CampaignValue) (m : MonthValue) → UnmailedAre HasItsMen m c (shared w c m).0)
      → ((w : WorldValue) (c d : CampaignValue) (m : MonthValue) → keeps w m c d → UnmailedAre HasItsItems m c d)
      → LeavesUnmailed shared keeps
  shared_leave {keeps} men items =
      whole_leaves {meaning = shared} {keeps = keeps} (λ w c m. refl) (λ w c m n. pots_report_none_starved p w c m.events (orders c m) n) (λ w c m h. men w c m) (λ w c m h. items w c (shared w c m).0 m h)

  -- a phase with pots leaves units of factions without a mailing their faction and men, if each payment does so to all
  pub paid_men : ((w : WorldValue) (items : FinMap nat_cmp ℕ) (d : CampaignValue) (e : ℕ × ℕ) → HaveTheirMen d (p.paid items w d e))
      → (w : WorldValue) (c : CampaignValue) (m : MonthValue) → UnmailedAre HasItsMen m c (shared w c m).0
  unfolding after_sharing
  paid_men paid w c m n u there none = let items = items_by p w c (orders c m) in men_in_turn (p.paid items w) (paid w items) c (entries (given_by p w c (orders c m))) n u there

-- where no unit is worse off, units of factions without a mailing are there, with their names and no less of any item
pub none_worse : (w : WorldValue) (c d : CampaignValue) (m : MonthValue) → AreNoWorse c d
    → UnmailedAre HasItsItems m c d
none_worse w c d m h n u there none = let (v, after, better) = h n u there in record { unit = v; there = after; is_unaffected = items_of_no_worse u v better }

-- ---- TAX

tax_men : (w : WorldValue) (c : CampaignValue) (e : ℕ × ℕ) → HaveTheirMen c (after_tax c e)
unfolding after_tax
tax_men w c e =
    by_unit c e.0 (HaveTheirMen c) _ (men_stay c) (λ u is.
    by_region c u.region (HaveTheirMen c) _ (men_stay c) (λ q around.
    men_changed (λ v. record v { holding = record v.holding { money = u.holding.money + e.1 } }) (λ v. record { faction = refl; men = refl })
    c (with_region_money (with_money c e.0 (u.holding.money + e.1)) u.region (q.money - e.1)) e.0 refl))

-- TAX leaves units of factions without a mailing their names and items, and their men less the starved
pub tax_leaves : PhaseLeavesUnmailed tax_spec
tax_leaves =
    shared_leave tax_pots (orders_with_verbs is_tax)
    (paid_men tax_pots (orders_with_verbs is_tax) (λ w items. tax_men w)) none_worse

-- ---- WORK

work_men : (w : WorldValue) (c : CampaignValue) (e : ℕ × ℕ) → HaveTheirMen c (after_work w c e)
unfolding after_work
work_men w c e =
    by_unit c e.0 (HaveTheirMen c) _ (men_stay c) (λ u is.
    let wages = wages_for w u.region e.1 in
    men_changed (λ v. record v { holding = record v.holding { money = u.holding.money + wages } }) (λ v. record { faction = refl; men = refl })
    c (with_booking (with_money c e.0 (u.holding.money + wages)) Wages Money (pos wages)) e.0 refl)

-- WORK leaves units of factions without a mailing their names and items, and their men less the starved
pub work_leaves : PhaseLeavesUnmailed work_spec
work_leaves = shared_leave work_pots work_orders (paid_men work_pots work_orders (λ w items. work_men w)) none_worse

-- ---- RECRUIT

none_listed : (n f : ℕ) (ts : List Task) → AllByRecursion (λ t. t.faction ≢ f) ts
    → list_any (λ o. o.unit == n && o.faction == f) ts ≡ false
none_listed n f [] h = refl
none_listed n f (t ∷ ts) h =
    neither (t.unit == n) (t.faction == f) _ (other_number t.faction f h.0) (none_listed n f ts h.1)
  where
    neither : (a b d : Bool) → b ≡ false → d ≡ false → (a && b || d) ≡ false
    neither true b d e g = rw (e, g) refl
    neither false b d e g = g

-- `is_of` tells which verbs are of the phase
module _ (is_of : Verb → Bool) (m : MonthValue) where
  -- a unit whose faction sent no mailing has no order of its own faction
  pub unordered : (n : ℕ) (u : Unit) → get m.readings u.faction ≡ None
      → has_own_order (orders_by_unit is_of m) n u ≡ false
  unordered n u none =
      let ts = orders_by_unit is_of m in
      none_listed n u.faction ts (recursion_from_All (λ t. t.faction ≢ u.faction) ts (none_ordered is_of ByUnit m u.faction none))

  -- where units without an order of their own faction are no worse off, units of factions without a mailing have their
  -- names, and no less of any item
  pub others_items : (c d : CampaignValue) → OthersAreNoWorse (orders_by_unit is_of m) c d
      → UnmailedAre HasItsItems m c d
  others_items c d h n u there none = let (v, after, better) = h n u there (unordered n u none) in record { unit = v; there = after; is_unaffected = items_of_no_worse u v better }

-- RECRUIT leaves units of factions without a mailing their names and items, and their men less the starved
pub recruit_leaves : PhaseLeavesUnmailed recruit_spec
recruit_leaves =
    shared_leave recruit_pots (orders_with_verbs is_recruit)
    (λ w c m n u there none.
    record {
      unit = u;
      there = without_order_stays recruit_pots w (λ items. recruited_others w) c (λ items. pots_give (recruits_at w c) c) (orders_with_verbs is_recruit c m) n u there (unordered is_recruit m n u none) ∙ there;
      is_unaffected = record { faction = refl; men = refl };
    })
    (λ w c d m. others_items is_recruit m c d)

-- ---- SELL and BUY

module _ (trade : Trade) where
  trade_leaves : LeavesUnmailed (trade_meaning trade) (trade_keeps trade)
  trade_leaves =
      shared_leave (trade_pots trade) (orders_with_verbs (is_trade trade))
      (λ w c m n u there none.
      record {
        unit = u;
        there = without_order_stays (trade_pots trade) w (λ items. traded_others trade items w) c (trades_give trade w c) (orders_with_verbs (is_trade trade) c m) n u there (unordered (is_trade trade) m n u none) ∙ there;
        is_unaffected = record { faction = refl; men = refl };
      })
      (λ w c d m. others_items (is_trade trade) m c d)

-- SELL leaves units of factions without a mailing their names and items, and their men less the starved
pub sell_leaves : PhaseLeavesUnmailed sell_spec
sell_leaves = trade_leaves Sell

-- BUY leaves units of factions without a mailing their names and items, and their men less the starved
pub buy_leaves : PhaseLeavesUnmailed buy_spec
buy_leaves = trade_leaves Buy
