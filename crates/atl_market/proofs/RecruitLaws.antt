-- Laws of RECRUIT: all shares can be given, if the books have room, and leave an early campaign early, with the same
-- month, reports and factions, and balanced books balanced (`LeavesWell`). Units without an order of their own faction
-- are no worse off: they have the same faction, region, structure, name and guard flag, and no less men, money, items
-- or days. `n` is the number of unit `u`, `q` its region, `recruits` how many peasants join the unit, and `cost` the
-- money that it pays for them. `os` are the orders of the phase.
use Rattle.std.proofs.Common.{◌≡◌, ◌≢◌, ℕ, ◌+◌, ◌-◌, ◌*◌, ◌/◌, ◌≤◌, Some, List, [], ◌∷◌, length, refl, sym, ap, subst, ◌∙◌, arith}
use Rattle.std.specs.Prelude.{fold, pos, neg_ℤ, min}
use Rattle.std.specs.Option.{option_map_or}
use Rattle.std.specs.Ordering.{nat_cmp}
use Rattle.std.specs.FinMap.{FinMap, entries, get, insert}
use Rattle.std.proofs.lemmas.Int.{ints}
use Rattle.std.proofs.Math.Nat.{div-le_self, mul-div-le, mul-le-mul_right, mul_comm, sub-add_cancel}
use Rattle.atl_world.specs.Worlds.{WorldValue}
use Rattle.atl_records.specs.declared.books.BooksEntry.{BooksEntry}
use Rattle.atl_records.specs.declared.books.BooksEntry.TheVariants.{Recruiting}
use Rattle.atl_records.specs.declared.books.Thing.{Thing}
use Rattle.atl_records.specs.declared.books.Thing.TheVariants.{Money}
use Rattle.atl_records.specs.declared.records.Region.{Region}
use Rattle.atl_records.specs.declared.records.Unit.{Unit}
use Rattle.atl_world.specs.Every.{Every}
use Rattle.atl_campaign.specs.Good.{IsEarly}
use Rattle.atl_records.specs.Holdings.{HoldingValue}
use Rattle.atl_campaign.specs.Lending.{with_holding_at, with_holding}
use Rattle.atl_records.specs.Limits.{holding_limit, men_limit, most_units}
use Rattle.atl_campaign.specs.Campaign.{CampaignValue, region_changed, with_booking, with_peasants}
use Rattle.atl_campaign.proofs.ReadBackLaws.{entries_rise}
use Rattle.atl_world.proofs.EveryLaws.{each-from_every, get-insert_other}
use Rattle.atl_campaign.proofs.RegionLaws.{IsRegion-peasants, steady-region}
use Rattle.atl_phase.specs.Meaning.{LeavesWell, BookBound, most_moved}
use Rattle.atl_phase.specs.Bounds.{CanInTurn, HaveRoom, moved_times}
use Rattle.atl_phase.specs.PhaseOrders.{Task}
use Rattle.atl_phase.proofs.BookingLaws.{within-neg}
use Rattle.atl_phase.proofs.MeaningLaws.{room_less, well_within}
use Rattle.atl_pots.proofs.PotLaws.{pots_give}
use Rattle.atl_market.specs.PotPhase.{after_sharing, given_by}
use Rattle.atl_market.specs.Recruit.{after_recruiting, recruit_moves, recruit_pots, recruits_at, with_paid_recruits}
use Rattle.atl_market.specs.Unordered.{OthersAreNoWorse}
use Rattle.atl_market.proofs.DrawLaws.{SharesArePayable, Drains, DrawnPots, HaveEnough, all_pairs, drawn, one_drains, one_draws, pot_is_enough, ready_after, region_pots, untouched, draws_region}
use Rattle.atl_campaign.proofs.HavingLaws.{MayHave, may_have}
use Rattle.atl_market.proofs.ExchangeLaws.{KeepsTogether, exchange_well}
use Rattle.atl_market.proofs.UnorderedLaws.{others_no_worse}
use Rattle.atl_market.proofs.ThereLaws.{by_region, by_unit, region_there, unit_there}
use Rattle.atl_phase.proofs.TurnLaws.{few_holdings, first_room, later_room, turns_leave_well}
use Rattle.atl_market.proofs.WantLaws.{few_given, given_is_wanted}
use Rattle.atl_market.specs.Payable.{CanRecruit}

abbrev peasants_of : Region → ℕ
peasants_of q = q.peasants

-- ---- one unit gets its recruits

-- region `r` with the peasants that region `q` has, less the recruits
abbrev pub with_fewer_peasants : Region → ℕ → Region → Region
with_fewer_peasants q recruits r = record r { peasants = q.peasants - recruits }

-- a campaign in which recruits joined unit `u`, which paid for them; the peasants are still there, nothing is booked
abbrev pub with_recruits_joined : CampaignValue → ℕ → Unit → (recruits cost : ℕ) → CampaignValue
with_recruits_joined c n u recruits cost =
    record c { units = insert c.units n (record u { holding = with_paid_recruits u.holding recruits cost }) }

-- a campaign in which recruits left region `q` and joined unit `u`, and their cost is booked
abbrev pub with_recruits_booked : CampaignValue → ℕ → Unit → Region → (recruits cost : ℕ) → CampaignValue
with_recruits_booked c n u q recruits cost =
    with_booking (region_changed (with_fewer_peasants q recruits) (with_recruits_joined c n u recruits cost) u.region)
    Recruiting Money (neg_ℤ (pos cost))

-- unit `n`, which is `u`, takes `recruits` of the peasants of its region `q` as men, and pays `cost` money for them
module _ (w : WorldValue) (c : CampaignValue) (n : ℕ) (u : Unit) (q : Region) (recruits cost : ℕ) (is : get c.units n ≡ Some u) (around : get c.regions u.region ≡ Some q) where
  abbrev after : CampaignValue
  after = with_recruits_booked c n u q recruits cost

  abbrev more : HoldingValue
  more = with_paid_recruits u.holding recruits cost

  -- the campaign in which the unit has the recruits; the peasants are still there and nothing is booked yet
  abbrev peopled : CampaignValue
  peopled = with_recruits_joined c n u recruits cost

  -- the campaign in which the recruits have joined the unit and left the region; nothing is booked yet
  abbrev left : CampaignValue
  left = region_changed (with_fewer_peasants q recruits) peopled u.region

  recruits_are : with_booking (with_peasants (with_holding c n more) u.region (q.peasants - recruits)) Recruiting Money (neg_ℤ (pos cost))
      ≡ after
  recruits_are =
      ap
      (λ o. with_booking (with_peasants (with_holding_at c n more o) u.region (q.peasants - recruits)) Recruiting Money (neg_ℤ (pos cost)))
      is

  -- the unit has room for the recruits and can pay for them, and the region has at least as many peasants
  module _ (fits : u.holding.men + recruits ≤ men_limit) (payable : cost ≤ u.holding.money) (enough : recruits ≤ q.peasants) (early : IsEarly w c) where
    may : MayHave w more
    may =
        let old = may_have w c n u is early.steady in
        let limits = old.limits in
        record {
          limits = record { men = fits; money = omega (arith, limits.money); items = limits.items };
          name = old.name;
          items = old.items;
          skills = old.skills;
          days = λ s days there. let (some, most) = old.days s days there in (some, omega (arith, most));
        }

    together : KeepsTogether u q (with_fewer_peasants q recruits) more (neg_ℤ (pos cost))
    together = record { money = omega (arith, ints, payable); people = omega (arith, enough); items = λ i. refl }

    recruits_leave_well : LeavesWell IsEarly (recruit_moves holding_limit) w c after
    recruits_leave_well =
        let within = early.steady.numbers.regions u.region q around in
        exchange_well w c n u q (with_fewer_peasants q recruits) more Recruiting (neg_ℤ (pos cost)) is around holding_limit may (λ g. g)
        (steady-region (with_fewer_peasants q recruits) peopled u.region q around w (IsRegion-peasants q (q.peasants - recruits) (omega (arith, within.peasants)) within) (early.steady.known.markets u.region q around))
        together (within-neg cost holding_limit (omega (arith, payable, (may_have w c n u is early.steady).limits.money))) early

-- ---- one step

-- `e` is a unit's number with its share: how many recruits it gets
module _ (w : WorldValue) (c : CampaignValue) (e : ℕ × ℕ) where
  abbrev price : ℕ
  price = e.1 * w.rules.recruit_price

  -- If the unit of `e` is there and is `u`, in region `q`, the campaign after the step (`after_recruiting`) is that in
  -- which the share of the peasants of `q` joined `u`. Their price is paid and booked (`with_recruits_booked`).
  pub recruited_is : (u : Unit) (q : Region) → get c.units e.0 ≡ Some u → get c.regions u.region ≡ Some q
      → after_recruiting w c e ≡ with_recruits_booked c e.0 u q e.1 price
  unfolding after_recruiting
  recruited_is u q is around =
      unit_there c e.0 _ u is ∙ region_there c u.region _ q around ∙ recruits_are w c e.0 u q e.1 price is around

  made_is : (can : CanRecruit w c e)
      → after_recruiting w c e ≡ with_recruits_booked c e.0 can.at.unit can.at.region e.1 price
  made_is can = recruited_is can.at.unit can.at.region can.at.there can.at.around

  -- recruits that can join (`CanRecruit`) keep the campaign early, and book at most 999,999,999 money (`LeavesWell`)
  pub recruited_well : CanRecruit w c e → LeavesWell IsEarly (recruit_moves holding_limit) w c (after_recruiting w c e)
  recruited_well can =
      subst (λ d. LeavesWell IsEarly (recruit_moves holding_limit) w c d) (sym (made_is can))
      (recruits_leave_well w c e.0 can.at.unit can.at.region e.1 price can.at.there can.at.around can.fits can.payable can.enough can.early)

  recruited_drains : (can : CanRecruit w c e) (units : FinMap nat_cmp Unit) → get units e.0 ≡ Some can.at.unit
      → Drains (region_pots units peasants_of) c e (after_recruiting w c e)
  recruited_drains can units there =
      one_drains units peasants_of c e can.at.unit can.at.region there can.at.around (after_recruiting w c e) (with_fewer_peasants can.at.region e.1) (ap (λ (d : CampaignValue). d.regions) (made_is can)) (sub-add_cancel can.enough)

  -- the recruiting of a unit leaves all other units as they are
  pub recruited_others : (k : ℕ) → k ≢ e.0 → get (after_recruiting w c e).units k ≡ get c.units k
  unfolding after_recruiting
  recruited_others k apart =
      by_unit c e.0 (λ (d : CampaignValue). get d.units k ≡ get c.units k) _ refl (λ u is.
      by_region c u.region (λ (d : CampaignValue). get d.units k ≡ get c.units k) _ refl (λ q around.
      ap (λ o. get (with_holding_at c e.0 (with_paid_recruits u.holding e.1 price) o).units k) is
      ∙ get-insert_other c.units e.0 k (record u { holding = with_paid_recruits u.holding e.1 price }) apart))

-- RECRUIT leaves units for which their own faction wrote none of its orders `os` no worse off
pub recruit_keeps_others : (w : WorldValue) (c : CampaignValue) (os : List Task)
    → OthersAreNoWorse os c (after_sharing recruit_pots w c os)
recruit_keeps_others w c os =
    others_no_worse recruit_pots w (λ items. recruited_others w) c (λ items. pots_give (recruits_at w c) c) os

-- ---- all shares can be given in turn

abbrev step_moves : BookBound
step_moves = recruit_moves holding_limit

-- `c` is the campaign when RECRUIT begins, `d` the one after the shares given so far; `es` are the shares to come
module _ (w : WorldValue) (c : CampaignValue) where
  abbrev pots : DrawnPots ℕ
  pots = region_pots c.units peasants_of

  -- the unit of a pair (unit, share) is in the campaign, has room for its recruits, and can pay for them
  abbrev CanHave : ℕ × ℕ → Type 0
  CanHave e =
      (u : Unit) × (get c.units e.0 ≡ Some u) × (u.holding.men + e.1 ≤ men_limit) ×
      (e.1 * w.rules.recruit_price ≤ u.holding.money)

  abbrev AreToJoin : CampaignValue → List (ℕ × ℕ) → Type 0
  AreToJoin = SharesArePayable pots CanHave w c

  abbrev CanBook : CampaignValue → List (ℕ × ℕ) → Type 0
  CanBook d es = HaveRoom (moved_times (length es) step_moves) d

  first_can : (d : CampaignValue) (e : ℕ × ℕ) (es : List (ℕ × ℕ)) → AreToJoin d (e ∷ es) → CanBook d (e ∷ es)
      → CanRecruit w d e
  first_can d e es ready room =
      let (u, there, fits, payable) = ready.fits.0 in
      let now : get d.units e.0 ≡ Some u = ready.same.0 ∙ there in
      let (q, around) = (ready.early.steady.known.units e.0 u now).region in
      let draws = one_draws c.units peasants_of d e u q there around es ready.enough in
      record { at = record { unit = u; there = now; region = q; around = around }; fits = fits; payable = payable; enough = draws; early = ready.early; room = first_room step_moves d e es room }

  all_can : (d : CampaignValue) (es : List (ℕ × ℕ)) → AreToJoin d es → CanBook d es
      → CanInTurn (CanRecruit w) (after_recruiting w) d es
  all_can d [] ready room = tt
  all_can d (e ∷ es) ready room =
      let can = first_can d e es ready room in
      let well = recruited_well w d e can in
      let joined = after_recruiting w d e in (
        can,
        all_can joined es (ready_after pots w c d e es joined ready well.leaves_it (recruited_others w d e) (recruited_drains w d e can c.units (sym ready.same.0 ∙ can.at.there)))
            (later_room step_moves w d joined e es well room),
      )

  -- `os` are the orders; `c` is early, and the books have room for all that the phase may book (`room`)
  module _ (early : IsEarly w c) (os : List Task) (room : HaveRoom (recruit_moves most_moved) c) where
    abbrev shares : List (ℕ × ℕ)
    shares = entries (given_by recruit_pots w c os)

    wanted_fits : (count payable men share : ℕ) → men ≤ men_limit → share ≤ min count (min payable (men_limit - men))
        → men + share ≤ men_limit
    wanted_fits count payable men share fits low = omega (arith, fits, low)

    wanted_payable : (count money price most share : ℕ) → share ≤ min count (min (money / price) most)
        → share * price ≤ money
    wanted_payable count money price most share low =
        let few : share ≤ money / price = omega (arith, low) in
        omega (arith, mul-le-mul_right price few, mul-div-le money price, mul_comm (money / price) price)

    each_fits : Every (λ n share. CanHave (n, share)) (given_by recruit_pots w c os)
    each_fits n share is =
        let (u, o, there, own, low) = given_is_wanted recruit_pots w c (λ items. pots_give (recruits_at w c) c) os n share is in
        (u, there, wanted_fits _ _ u.holding.men share (early.steady.numbers.units n u there).1.men low, wanted_payable _ u.holding.money w.rules.recruit_price _ share low)

    part : (all one : ℕ) → all / one ≤ all
    part all one = div-le_self all one

    all_enough : HaveEnough pots c shares
    all_enough r q around =
        let few : drawn (draws_region c.units r) shares ≤ q.peasants / w.rules.recruit_fraction = subst (λ pot. drawn (draws_region c.units r) shares ≤ pot) (ap (λ o. option_map_or (λ (x : Region). x.peasants / w.rules.recruit_fraction) o 0) around) (pot_is_enough _ _ c r (q, around)) in
        omega (arith, few, part q.peasants w.rules.recruit_fraction)

    few : length shares ≤ most_units
    few =
        omega
        (arith, few_given recruit_pots w c (λ items. pots_give (recruits_at w c) c) os, early.steady.numbers.few_units)

    -- the recruiting of all units that get recruits moves each amount of the books by less than 10^14 altogether
    little : (e : BooksEntry) (t : Thing) → moved_times (length shares) step_moves e t ≤ recruit_moves most_moved e t
    little e t = few_holdings (length shares) few Recruiting Money e t

    -- all recruits can join in turn, if the books have room for the phase (`room`)
    pub can_share_out : CanInTurn (CanRecruit w) (after_recruiting w) c shares
    can_share_out = all_can c shares (record {
      early = early;
      rise = entries_rise (given_by recruit_pots w c os);
      same = untouched c shares;
      fits = all_pairs CanHave shares (each-from_every (λ n share. CanHave (n, share)) (given_by recruit_pots w c os) each_fits);
      enough = all_enough;
    }) (room_less (moved_times (length shares) step_moves) (recruit_moves most_moved) c little room)

    -- RECRUIT keeps an early campaign early and its books balanced, within the phase's bound (`LeavesWell`)
    pub all_recruits_leave_well : LeavesWell IsEarly (recruit_moves most_moved) w c (after_sharing recruit_pots w c os)
    unfolding after_sharing
    all_recruits_leave_well =
        well_within (moved_times (length shares) step_moves) (recruit_moves most_moved) w c (fold (after_recruiting w) c shares) little
        (turns_leave_well step_moves w (CanRecruit w) (after_recruiting w) (recruited_well w) c shares early can_share_out)
