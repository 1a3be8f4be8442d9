use Rattle.std.proofs.Common.{◌≡◌, ◌∙◌, ℕ, Some, sym, ap, subst}
use Rattle.std.specs.Prelude.{List, fold}
use Rattle.std.specs.FinMap.{entries, get}
use Rattle.atl_world.specs.Limits.{most_amount}
use Rattle.atl_world.specs.declared.world.Market.{Market}
use Rattle.atl_world.specs.Every.{EachEntry, HasValue}
use Rattle.atl_campaign.proofs.CoverLaws.{marks-refl, marks-trans}
use Rattle.atl_world.proofs.EveryLaws.{sorted}
use Rattle.atl_phase.specs.Bounds.{HaveRoom}
use Rattle.atl_phase.proofs.MeaningLaws.{room_less}
use Rattle.atl_upkeep.specs.Restock.{after_market_restock, after_restock, stocks_by}
use Rattle.atl_upkeep.proofs.RestockLaws.{IsMarketOf, markets_are, markets_there, none_of, one_leaves_well, room_for_later_markets, room_for_market, stocking_bound, stocks_little}
use Rattle.atl_upkeep.proofs.restock.restock_region.Goals as goal

pub returns-in-None-clause-what : goal.returns-in-None-clause-what
returns-in-None-clause-what c =
    sym
    (none_of c.args.world.now c.region.ensures.world c.args.region c.args.campaign.now.value (sym c.in-None.ensures.value))

pub loop-item-init : goal.loop-item-init
loop-item-init c =
    let w = c.args.world.now in
    let n = c.args.region in
    let before = c.args.campaign.now in
    let plan = c.in-Some.plan.now in
    let there : get w.regions n ≡ Some plan = sym c.in-Some.ensures.value in
    let listed : c.into_iter-item-iterator.result ≡ entries plan.markets = c.into_iter-item-iterator.ensures.into_iter_gives ∙ c.iter-item-items.ensures in
    record {
      can_next = tt;
      is_finite = tt;
      rest = ap (after_restock n before.value) (listed ∙ ap (λ m. entries m) (sym (markets_there w c.region.ensures.world n plan there)));
      each = subst (EachEntry (IsMarketOf w n)) (sym listed) (markets_are w c.region.ensures.world n plan there);
      steady = c.requires.steady;
      room =
          subst (λ (es : List (ℕ × Market)). HaveRoom (stocking_bound es) before.value) (sym listed)
          (room_less (stocking_bound (entries plan.markets)) (stocks_by most_amount) before.value (stocks_little (entries plan.markets) (sorted plan.markets)) c.requires.room);
      marks = marks-refl before;
    }

pub restock_market-requires-clause-room : goal.restock_market-requires-clause-room
restock_market-requires-clause-room c =
    room_for_market (c.in-Some-2.item, c.in-Some-2.market.now) c.next.new.self c.loop-item.campaign.value
    (subst (λ (es : List (ℕ × Market)). HaveRoom (stocking_bound es) c.loop-item.campaign.value) c.in-Some-2.ensures.steps c.loop-item.invariant.room)

pub loop-item-preserved : goal.loop-item-preserved
loop-item-preserved c =
    let w = c.args.world.now in
    let n = c.args.region in
    let x : ℕ × Market = (c.in-Some-2.item, c.in-Some-2.market.now) in
    let rest = c.next.new.self in
    let before = c.loop-item.campaign.value in
    let old = c.loop-item.invariant in
    let there : HasValue w.regions n = (c.in-Some.plan.now, sym c.in-Some.ensures.value) in
    let each = subst (EachEntry (IsMarketOf w n)) c.in-Some-2.ensures.steps old.each in
    let room = subst (λ (es : List (ℕ × Market)). HaveRoom (stocking_bound es) before) c.in-Some-2.ensures.steps old.room in
    let is : c.restock_market.new.campaign.value ≡ after_market_restock n before x = c.in_ok-restock_market.ensures.what in
    record {
      can_next = tt;
      is_finite = tt;
      rest = ap (λ s. fold (after_market_restock n) s rest) is ∙ sym (ap (fold (after_market_restock n) before) c.in-Some-2.ensures.steps) ∙ old.rest;
      each = each.1;
      steady = rw is (one_leaves_well w n there before x each.0 old.steady).leaves_it;
      room = rw is (room_for_later_markets w n there x rest before each.0 old.steady room);
      marks = marks-trans c.args.campaign.now c.loop-item.campaign c.restock_market.new.campaign old.marks c.in_ok-restock_market.ensures.marks;
    }
