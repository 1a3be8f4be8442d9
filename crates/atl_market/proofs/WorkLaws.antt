-- Laws of WORK: all wages can be paid in turn, if the books have room, and leave a steady campaign steady, with the
-- same month, reports and factions, and balanced books balanced (`LeavesWell`). No unit is worse off: each has the same
-- faction, region, structure, name and guard flag, and no less men, money, items or days. `n` is the number of unit
-- `u`, and `money` its wages. Shares (`es`) are pairs of a unit's number and its number of work places. `os` are the
-- orders of the phase.
use Rattle.std.proofs.Common.{◌≡◌, ◌≢◌, ◌==◌, ℕ, ◌+◌, ◌-◌, ◌*◌, ◌/◌, ◌%◌, ◌≤◌, ◌<◌, false, cond, Option, Some, None, List, [], ◌∷◌, length, refl, sym, ap, subst, ◌∙◌, arith}
use Rattle.std.specs.Prelude.{pos, ◌+ℤ◌, fold}
use Rattle.std.specs.List.{AllByRecursion}
use Rattle.std.specs.Option.{option_map_or}
use Rattle.std.specs.FinMap.{entries, get}
use Rattle.std.proofs.lemmas.Int.{ints}
use Rattle.std.proofs.lemmas.Bool.Decides.{nat_tests}
use Rattle.std.proofs.Math.Nat.{div-add-mod, mul-le-mul_left, mul_comm}
use Rattle.atl_world.specs.Worlds.{WorldValue}
use Rattle.atl_world.specs.declared.world.Terrain.{Terrain}
use Rattle.atl_world.specs.ByNumber.{terrain_of}
use Rattle.atl_records.specs.declared.books.BooksEntry.{BooksEntry}
use Rattle.atl_records.specs.declared.books.BooksEntry.TheVariants.{Wages}
use Rattle.atl_records.specs.declared.books.Thing.{Thing}
use Rattle.atl_records.specs.declared.books.Thing.TheVariants.{Money, People, Item}
use Rattle.atl_records.specs.declared.records.Unit.{Unit}
use Rattle.atl_world.specs.Every.{Every}
use Rattle.atl_campaign.specs.Good.{IsSteady}
use Rattle.atl_records.specs.Holdings.{HoldingValue, amount_of}
use Rattle.atl_records.specs.Limits.{holding_limit, most_units}
use Rattle.atl_campaign.specs.Campaign.{CampaignValue, with_booking, with_money}
use Rattle.atl_records.specs.Amounts.{unit_amount}
use Rattle.atl_campaign.specs.Totals.{total}
use Rattle.atl_campaign.proofs.ReadBackLaws.{Rise, entries_rise}
use Rattle.atl_records.proofs.BookLaws.{booked-after_booking, booked_for}
use Rattle.atl_world.proofs.EveryLaws.{each-from_every}
use Rattle.atl_campaign.proofs.HoldingLaws.{may_hold_money, steady-new_holding, total-new_holding}
use Rattle.atl_campaign.proofs.RegionLaws.{steady-amount, total-booking}
use Rattle.atl_phase.specs.Meaning.{LeavesWell, BookBound, most_moved}
use Rattle.atl_phase.specs.Bounds.{CanInTurn, HaveRoom, moved_times}
use Rattle.atl_phase.specs.NoWorse.{AreNoWorse}
use Rattle.atl_phase.specs.PhaseOrders.{Task}
use Rattle.atl_phase.proofs.BookingLaws.{booked-near, within-pos}
use Rattle.atl_phase.proofs.MeaningLaws.{room_less, same_month_by, well_within}
use Rattle.atl_phase.proofs.NoWorseLaws.{are_no_worse, are_no_worse_twice}
use Rattle.atl_pots.proofs.PotLaws.{pots_give}
use Rattle.atl_market.specs.PotPhase.{after_sharing, given_by}
use Rattle.atl_market.specs.Work.{after_work, places_at, wages_for, work_moves, work_pots, work_want}
use Rattle.atl_market.proofs.DrawLaws.{all_pairs}
use Rattle.atl_market.proofs.MoreMoneyLaws.{others_stay, paid, richer, richer_is, richer_no_worse}
use Rattle.atl_market.proofs.ThereLaws.{by_unit, unit_there}
use Rattle.atl_phase.proofs.TurnLaws.{few_holdings, first_room, later_room, turns_leave_well}
use Rattle.atl_market.proofs.WantLaws.{few_given, given_is_wanted}
use Rattle.atl_market.specs.Payable.{CanWork}

-- ---- one unit gets its wages

-- unit `n`, which is `u`, is paid `money` as wages; `k` is the number of another unit
module _ (w : WorldValue) (c : CampaignValue) (n : ℕ) (u : Unit) (money : ℕ) (is : get c.units n ≡ Some u) where
  abbrev more : HoldingValue
  more = paid c n u money

  -- the campaign in which the unit has its wages, not booked yet
  abbrev given : CampaignValue
  given = richer c n u money

  -- a campaign in which unit `n` got wages, which are booked
  abbrev pub wages_paid : CampaignValue
  wages_paid = with_booking given Wages Money (pos money)

  wages_are : with_booking (with_money c n (u.holding.money + money)) Wages Money (pos money) ≡ wages_paid
  wages_are = ap (λ d. with_booking d Wages Money (pos money)) (richer_is c n u money is)

  total_paid : (t : Thing) → pos (total wages_paid t) ≡ pos (total c t) +ℤ booked_for t Money (pos money)
  total_paid t = total_of t (total-booking given Wages Money t (pos money)) (total-new_holding w c n u more is t)
    where
      total_of : (t : Thing) → total wages_paid t ≡ total given t
          → total given t + unit_amount t u.holding ≡ total c t + unit_amount t more
          → pos (total wages_paid t) ≡ pos (total c t) +ℤ booked_for t Money (pos money)
      total_of Money a b = omega (arith, ints, a, b)
      total_of People a b = omega (arith, ints, a, b)
      total_of (Item i) a b =
          let other : (2 + i == 0) ≡ false = grind (arith, nat_tests) in
          ap pos (same (total wages_paid (Item i)) (total given (Item i)) (total c (Item i)) (amount_of u.holding.items i) a b)
          ∙ sym (ap (λ q. pos (total c (Item i)) +ℤ cond q (pos money) (pos 0)) other ∙ zero_more (total c (Item i)))
        where
          same : (x y z k : ℕ) → x ≡ y → y + k ≡ z + k → x ≡ z
          same x y z k a b = omega arith

          zero_more : (x : ℕ) → pos x +ℤ pos 0 ≡ pos x
          zero_more x = omega (arith, ints)

  -- wages that the unit has room for keep a steady campaign steady, and book at most 999,999,999 wages (`LeavesWell`)
  pub wages_leave_well : u.holding.money + money ≤ holding_limit → IsSteady w c
      → LeavesWell IsSteady (work_moves holding_limit) w c wages_paid
  wages_leave_well fits steady = record {
    leaves_it = steady-amount w given Wages Money (pos money) (omega arith) (steady-new_holding w c n u more is (may_hold_money w c n (u.holding.money + money) u is fits steady) steady);
    same_month = same_month_by refl;
    balances = λ old t.
        total_paid t ∙ ap (λ z. z +ℤ booked_for t Money (pos money)) (old t)
        ∙ sym (booked-after_booking c.books Wages Money (pos money) t);
    near = booked-near c.books Wages Money (pos money) holding_limit (within-pos money holding_limit (omega (arith, fits)));
  }

  pub wages_leave_others : (k : ℕ) → k ≢ n → get wages_paid.units k ≡ get c.units k
  wages_leave_others k apart = others_stay c n u money is k apart

  pub wages_no_worse : AreNoWorse c wages_paid
  wages_no_worse k v there = richer_no_worse c n u money is k v there

-- ---- one step

-- `e` is a unit's number with its share: how many work places it gets; `k` is the number of another unit
module _ (w : WorldValue) (c : CampaignValue) (e : ℕ × ℕ) where
  -- if the unit of `e` is there and is `u`, the campaign after the payment (`after_work`) is that in which `u` got the
  -- wages of its work places, which are booked (`wages_paid`)
  pub worked_is : (u : Unit) (is : get c.units e.0 ≡ Some u)
      → after_work w c e ≡ wages_paid w c e.0 u (wages_for w u.region e.1) is
  unfolding after_work
  worked_is u is = unit_there c e.0 _ u is ∙ wages_are w c e.0 u (wages_for w u.region e.1) is

  -- wages that can be paid (`CanWork`) keep the campaign steady, and book at most 999,999,999 wages (`LeavesWell`)
  pub worked_well : CanWork w c e → LeavesWell IsSteady (work_moves holding_limit) w c (after_work w c e)
  worked_well can =
      subst (λ d. LeavesWell IsSteady (work_moves holding_limit) w c d) (sym (worked_is can.unit can.there))
      (wages_leave_well w c e.0 can.unit (wages_for w can.unit.region e.1) can.there can.fits can.steady)

  pub worked_others : CanWork w c e → (k : ℕ) → k ≢ e.0 → get (after_work w c e).units k ≡ get c.units k
  worked_others can k apart =
      ap (λ (d : CampaignValue). get d.units k) (worked_is can.unit can.there)
      ∙ wages_leave_others w c e.0 can.unit (wages_for w can.unit.region e.1) can.there k apart

  pub worked_no_worse : AreNoWorse c (after_work w c e)
  unfolding after_work
  worked_no_worse =
      by_unit c e.0 (AreNoWorse c) _ (are_no_worse c) (λ u is.
      subst (λ d. AreNoWorse c d) (sym (wages_are w c e.0 u (wages_for w u.region e.1) is)) (wages_no_worse w c e.0 u (wages_for w u.region e.1) is))

each_no_worse : (w : WorldValue) (c : CampaignValue) (es : List (ℕ × ℕ)) → AreNoWorse c (fold (after_work w) c es)
each_no_worse w c [] = are_no_worse c
each_no_worse w c (e ∷ es) =
    are_no_worse_twice c (after_work w c e) (fold (after_work w) (after_work w c e) es) (worked_no_worse w c e)
    (each_no_worse w (after_work w c e) es)

-- WORK leaves all units no worse off
pub work_keeps_units : (w : WorldValue) (c : CampaignValue) (os : List Task)
    → AreNoWorse c (after_sharing work_pots w c os)
unfolding after_sharing
work_keeps_units w c os = each_no_worse w c (entries (given_by work_pots w c os))

-- ---- all shares can be paid in turn

-- the unit of a pair (unit, share) is in the campaign, and has room for the wages of its share of work places
abbrev pub HasRoomFor : WorldValue → CampaignValue → ℕ × ℕ → Type 0
HasRoomFor w c e =
    (u : Unit) × (get c.units e.0 ≡ Some u) × (u.holding.money + wages_for w u.region e.1 ≤ holding_limit)

module _ (w : WorldValue) where
  abbrev step_moves : BookBound
  step_moves = work_moves holding_limit

  still : (c d : CampaignValue) (n : ℕ) (es : List (ℕ × ℕ)) → ((k : ℕ) → k ≢ n → get d.units k ≡ get c.units k)
      → AllByRecursion (λ f. n < f.0) es → AllByRecursion (HasRoomFor w c) es → AllByRecursion (HasRoomFor w d) es
  still c d n [] same above all = tt
  still c d n (f ∷ es) same above ((u, there, fits), all) =
      ((u, same f.0 (λ e. absurd (omega (arith, e, above.0))) ∙ there, fits), still c d n es same above.1 all)

  -- in a steady campaign shares can be paid in turn, by rising unit numbers, if each unit has room for its wages and
  -- the books have room for all of them
  pub work_in_turn : (c : CampaignValue) (es : List (ℕ × ℕ)) → Rise es → IsSteady w c
      → HaveRoom (moved_times (length es) step_moves) c → AllByRecursion (HasRoomFor w c) es
      → CanInTurn (CanWork w) (after_work w) c es
  work_in_turn c [] rise steady room all = tt
  work_in_turn c (e ∷ es) rise steady room ((u, there, fits), all) =
      let can : CanWork w c e = record { unit = u; there = there; fits = fits; steady = steady; room = first_room step_moves c e es room } in
      let well = worked_well w c e can in
      (can, work_in_turn (after_work w c e) es rise.1 well.leaves_it (later_room step_moves w c (after_work w c e) e es well room) (still c (after_work w c e) e.0 es (worked_others w c e can) rise.0 all))

  wanted_fits : (u : Unit) (o : Option Terrain) (places : ℕ) → u.holding.money ≤ holding_limit → places ≤ work_want u o
      → u.holding.money + places * option_map_or (λ (t : Terrain). t.wage) o 0 ≤ holding_limit
  wanted_fits u None places fits low = omega (arith, fits)
  wanted_fits u (Some t) places fits low =
      let room = holding_limit - u.holding.money in
      let split : t.wage * (room / t.wage) + room % t.wage ≡ room = div-add-mod room t.wage in
      let few : places ≤ room / t.wage = omega (arith, low) in
      let cost : t.wage * places ≤ t.wage * (room / t.wage) = mul-le-mul_left t.wage few in
      omega (arith, split, cost, fits, mul_comm places t.wage)

  -- WORK begins in the steady campaign `c`
  module _ (c : CampaignValue) (steady : IsSteady w c) (os : List Task) where
    abbrev shares : List (ℕ × ℕ)
    shares = entries (given_by work_pots w c os)

    each_fits : Every (λ n places. HasRoomFor w c (n, places)) (given_by work_pots w c os)
    each_fits n places is =
        let (u, o, there, own, low) = given_is_wanted work_pots w c (λ items. pots_give (places_at w) c) os n places is in
        (u, there, wanted_fits u (terrain_of w u.region) places (steady.numbers.units n u there).1.money low)

    few : length shares ≤ most_units
    few = omega (arith, few_given work_pots w c (λ items. pots_give (places_at w) c) os, steady.numbers.few_units)

    -- the wages of all units that get work places move each amount of the books by less than 10^14 together
    little : (e : BooksEntry) (t : Thing) → moved_times (length shares) step_moves e t ≤ work_moves most_moved e t
    little e t = few_holdings (length shares) few Wages Money e t

    -- the wages of all units can be paid in turn, if the books have room for the phase
    pub can_share_out : HaveRoom (work_moves most_moved) c → CanInTurn (CanWork w) (after_work w) c shares
    can_share_out room =
        work_in_turn c shares (entries_rise (given_by work_pots w c os)) steady
        (room_less (moved_times (length shares) step_moves) (work_moves most_moved) c little room)
        (all_pairs (HasRoomFor w c) shares (each-from_every (λ n places. HasRoomFor w c (n, places)) (given_by work_pots w c os) each_fits))

    -- WORK keeps a steady campaign steady, within the phase's bound on the books (`LeavesWell`), if they have room
    pub work_leaves_well : HaveRoom (work_moves most_moved) c
        → LeavesWell IsSteady (work_moves most_moved) w c (after_sharing work_pots w c os)
    unfolding after_sharing
    work_leaves_well room =
        well_within (moved_times (length shares) step_moves) (work_moves most_moved) w c (fold (after_work w) c shares) little
        (turns_leave_well step_moves w (CanWork w) (after_work w) (worked_well w) c shares steady (can_share_out room))
