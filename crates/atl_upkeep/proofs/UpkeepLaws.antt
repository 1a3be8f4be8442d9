-- Laws of upkeep: it keeps a campaign steady and of the same month, and its books balanced (`LeavesWell`), and each
-- unit can pay when its turn comes. What upkeep takes from a unit follows from the units of its faction in its region
-- alone. `s` is what upkeep takes from one unit, `u` this unit, `h` what a unit holds, and `left` how many of its men
-- are left. `all` are the units of the campaign, as upkeep reads them, and `m` is the maintenance of each man.
use Rattle.std.proofs.Common.{◌≡◌, ◌≢◌, ◌==◌, ℕ, ◌+◌, ◌-◌, ◌*◌, ◌/◌, ◌≤◌, ◌<◌, Bool, true, false, Option, Some, None, List, [], ◌∷◌, length, map, refl, sym, ap, subst, ◌∙◌, arith}
use Rattle.std.specs.Prelude.{IsTrue, ℤ, pos, neg_ℤ, ◌+ℤ◌, fold, is_some, unwrap_or, if◌then◌else◌}
use Rattle.std.specs.List.{AllByRecursion, list_any}
use Rattle.std.specs.Option.{option_map_or}
use Rattle.std.specs.Ordering.{eq_by_cmp, nat_cmp}
use Rattle.std.specs.FinMap.{FinMap, contains_key-keys, empty, entries, get, get-empty, keys, len-entries}
use Rattle.std.proofs.Math.Nat.{div-le_of_le-mul, mul-le-mul_right, zero-div, zero-mul}
use Rattle.std.proofs.lemmas.List.{length-map}
use Rattle.std.proofs.lemmas.List.Elements.{All-from_recursion, All-map}
use Rattle.std.proofs.lemmas.List.Kept.{AllPairs-cons}
use Rattle.std.proofs.lemmas.Int.{ints}
use Rattle.std.proofs.lemmas.Bool.Decides.{nat_tests}
use Rattle.atl_world.specs.Worlds.{WorldValue}
use Rattle.atl_world.specs.Limits.{most_amount}
use Rattle.atl_world.specs.Names.{name_ok}
use Rattle.atl_world.proofs.SumLaws.{put_same}
use Rattle.atl_records.specs.declared.books.BooksEntry.{BooksEntry}
use Rattle.atl_records.specs.declared.books.BooksEntry.TheVariants.{Starved, Upkeep}
use Rattle.atl_records.specs.declared.books.Thing.{Thing}
use Rattle.atl_records.specs.declared.books.Thing.TheVariants.{Money, People, Item}
use Rattle.atl_records.specs.declared.records.Unit.{Unit}
use Rattle.atl_records.specs.Books.{BooksValue, amount_in, after_booking}
use Rattle.atl_world.specs.Every.{EachEntry, Every}
use Rattle.atl_campaign.specs.Good.{IsSteady, guards}
use Rattle.atl_records.specs.Holdings.{AreAmounts, HoldingValue, amount_of, with_amount_of}
use Rattle.atl_campaign.specs.Lending.{with_holding_at}
use Rattle.atl_records.specs.Limits.{most_days, most_units}
use Rattle.atl_campaign.specs.Campaign.{CampaignValue, with_booking}
use Rattle.atl_records.specs.Amounts.{unit_amount}
use Rattle.atl_campaign.specs.Totals.{Balances, total}
use Rattle.atl_campaign.proofs.ReadBackLaws.{Rise, entries_rise}
use Rattle.atl_records.proofs.BookLaws.{booked-after_booking, booked_for}
use Rattle.atl_world.proofs.EveryLaws.{each-from_every, every-empty, get-insert_other, every-from_each}
use Rattle.atl_campaign.proofs.HoldingLaws.{MayHaveWithoutNewGuard, steady-new_holding, total-new_holding}
use Rattle.atl_campaign.proofs.RegionLaws.{steady-amount, total-booking, get-insert_same}
use Rattle.atl_phase.specs.Meaning.{IsNear, LeavesWell, BookBound, moves_only, most_moved}
use Rattle.atl_phase.specs.Bounds.{CanInTurn, HaveRoom, moved_times}
use Rattle.atl_phase.specs.Holdings.{with_days}
use Rattle.atl_phase.proofs.MeaningLaws.{IsBoundWithin, near_twice, room_less, same_month_by, well_within}
use Rattle.atl_phase.proofs.BookingLaws.{booked-near, within-neg}
use Rattle.atl_instant.specs.Amounts.{amounts_for}
use Rattle.atl_instant.specs.Transfer.{going_of}
use Rattle.atl_instant.proofs.AmountsForLaws.{as_said, each_said, same_amounts}
use Rattle.atl_records.proofs.HoldingLaws.{every_amount}
use Rattle.atl_instant.proofs.DaysLaws.{none_go, set_again, set_each}
use Rattle.atl_phase.proofs.TurnLaws.{first_room, later_room, turns_leave_well}
use Rattle.atl_shares.specs.declared.upkeep_sharing.UpkeepInput.{UpkeepInput}
use Rattle.atl_shares.specs.declared.upkeep_sharing.UpkeepResult.{UpkeepResult}
use Rattle.atl_shares.specs.UpkeepSharing.{AreInOrder, CanSpare, peers_of, upkeep_result_among}
use Rattle.atl_upkeep.specs.UpkeepTaken.{CanPayUpkeep, staying_list}
use Rattle.atl_upkeep.specs.Upkeep.{after_upkeep, takes_up_to, upkeep, upkeep_at, upkeep_input_of, upkeep_inputs_of, upkeep_results, with_men_left}
use Rattle.atl_shares.proofs.UpkeepSharingLaws.{can_spare}

-- ---- what a unit may hold after its upkeep

abbrev AreSkillDays : WorldValue → (men skill days : ℕ) → Type 0
AreSkillDays w men skill days = (skill < length w.skills) × (1 ≤ days) × (days ≤ most_days * men)

-- `left` is how many of `men` men are left once some starved
module _ (w : WorldValue) (left men : ℕ) (fewer : left ≤ men) where
  days_fit_men_left : (days : ℕ) → days ≤ most_days * men → days * left / men ≤ most_days * left
  days_fit_men_left days most =
      div-le_of_le-mul men (subst (λ n. days * left ≤ n) factors_swap (mul-le-mul_right left most))
    where
      factors_swap : (most_days * men) * left ≡ men * (most_days * left)
      factors_swap = grind arith

-- the days of each skill that stay with `left` of the men of `h`, rounded down (`going_of`); 0 days aren't listed
abbrev pub days_left : ℕ → HoldingValue → FinMap nat_cmp ℕ
days_left left h = amounts_for (going_of left h) (keys h.days)

-- `left` is how many of the men of holding `h` are left once some starved; the days of each skill of `h` are in bounds
module _ (w : WorldValue) (h : HoldingValue) (left : ℕ) (fewer : left ≤ h.men) (days : Every (AreSkillDays w h.men) h.days) where
  studied_left : Every (AreSkillDays w left) (days_left left h)
  studied_left k d is =
      let (some, said) = each_said (going_of left h) (keys h.days) k d is in
      by_option (get h.days k) refl some said
    where
      nothing : 0 * left / h.men ≡ 0
      nothing = ap (λ n. n / h.men) (zero-mul left) ∙ zero-div h.men

      by_option : (o : Option ℕ) → get h.days k ≡ o → 1 ≤ d → d ≡ unwrap_or o 0 * left / h.men → AreSkillDays w left k d
      by_option None there some said = let none : d ≡ 0 = said ∙ nothing in absurd (omega (arith, some, none))
      by_option (Some had) there some said =
          let (known, _, most) = days k had there in
          (known, some, subst (λ n. n ≤ most_days * left) (sym said) (days_fit_men_left w left h.men fewer had most))

  abbrev IsWithMen : HoldingValue → Type 0
  IsWithMen k =
      (k.men ≡ left) × Every (AreSkillDays w left) k.days × (k.name ≡ h.name) × (k.guard ≡ h.guard) ×
      (k.items ≡ h.items)

  less_men : IsWithMen (with_men_left left h)
  less_men = by_men (left == h.men) refl
    where
      by_men : (b : Bool) → (left == h.men) ≡ b
          → IsWithMen (if b then h else record h { men = left; days = days_left left h })
      by_men true is =
          let same : h.men ≡ left = grind (arith, nat_tests) in
          (same, subst (λ n. Every (AreSkillDays w n) h.days) same days, refl, refl, refl)
      by_men false is = (refl, studied_left, refl, refl, refl)

-- ---- the upkeep of a unit that is there

-- a campaign after the upkeep of the unit that a look-up found, which is booked; unchanged where the look-up found none
abbrev pub upkeep_in : CampaignValue → UpkeepResult → Option Unit → CampaignValue
upkeep_in c s o = option_map_or (λ u.
    let held = with_holding_at c s.unit (after_upkeep s u.holding) (Some u) in
    let paid = with_booking held Upkeep Money (neg_ℤ (pos s.paid)) in
    with_booking paid Starved People (neg_ℤ (pos s.starved))) o c

-- `s` is what upkeep takes from a unit. Before, in a steady campaign, this unit is `u`, and has the money and the men.
module _ (w : WorldValue) (c : CampaignValue) (s : UpkeepResult) (u : Unit) (is : get c.units s.unit ≡ Some u) (spare : CanSpare s u.holding.men u.holding.money)
    (steady : IsSteady w c) where
  abbrev old : HoldingValue
  old = u.holding

  abbrev now : HoldingValue
  now = after_upkeep s old

  abbrev left : ℕ
  left = old.men - s.starved

  studied : Every (AreSkillDays w old.men) old.days
  studied k days there =
      let skills = (steady.known.units s.unit u is).skills in
      let range = steady.days s.unit u is k days there in
      (skills k days there, range.0, range.1)

  with_less : IsWithMen w old left (omega arith) studied (with_men_left left old)
  with_less = less_men w old left (omega arith) studied

  guard_kept : guards (record u { holding = now }) ≡ true → guards u ≡ true
  guard_kept is = let (men, _, _, guard, _) = with_less in grind (arith, nat_tests, men, guard, is)

  may_hold : MayHaveWithoutNewGuard w u now
  may_hold =
      let location = steady.known.units s.unit u is in
      let holding = (steady.numbers.units s.unit u is).1 in
      let (men, days, name, guard, items) = with_less in
      record {
        limits = record {
          men = omega (arith, men, holding.men);
          money = omega (arith, holding.money);
          items = subst AreAmounts (sym items) holding.items;
        };
        name = subst (λ n. IsTrue (name_ok n)) (sym name) (steady.names.units s.unit u is);
        items = subst (Every (λ i amount. i < length w.items)) (sym items) location.items;
        skills = λ k d there. (days k d there).0;
        days = λ k d there. let (known, some, most) = days k d there in (some, subst (λ n. d ≤ most_days * n) (sym men) most);
        guard = guard_kept;
      }

  -- the campaign in which the unit holds what upkeep leaves it, without booking
  abbrev held_back : CampaignValue
  held_back = with_holding_at c s.unit now (Some u)

  -- the campaign in which the unit holds what upkeep leaves it, and the money is booked
  abbrev paid_off : CampaignValue
  paid_off = with_booking held_back Upkeep Money (neg_ℤ (pos s.paid))

  abbrev after : CampaignValue
  after = upkeep_in c s (Some u)

  after_steady : IsSteady w after
  after_steady =
      steady-amount w paid_off Starved People (neg_ℤ (pos s.starved)) (omega arith)
      (steady-amount w held_back Upkeep Money (neg_ℤ (pos s.paid)) (omega arith) (steady-new_holding w c s.unit u now is may_hold steady))

  -- the total of money falls by what the unit paid, that of people by those who starved, and each other total stays
  total_after : (t : Thing)
      → pos (total after t) ≡ (pos (total c t) +ℤ booked_for t Money (neg_ℤ (pos s.paid))) +ℤ booked_for t People (neg_ℤ (pos s.starved))
  total_after t =
      total_of t (total-booking paid_off Starved People t (neg_ℤ (pos s.starved))) (total-booking held_back Upkeep Money t (neg_ℤ (pos s.paid)))
      (total-new_holding w c s.unit u now is t)
    where
      total_of : (t : Thing) → total after t ≡ total paid_off t → total paid_off t ≡ total held_back t
          → total held_back t + unit_amount t old ≡ total c t + unit_amount t now
          → pos (total after t) ≡ (pos (total c t) +ℤ booked_for t Money (neg_ℤ (pos s.paid))) +ℤ booked_for t People (neg_ℤ (pos s.starved))
      total_of Money a b g = omega (arith, ints, a, b, g, spare.paid)
      total_of People a b g = omega (arith, ints, a, b, g, with_less.0, spare.starved)
      total_of (Item i) a b g = let items = ap (λ m. amount_of m i) with_less.4 in grind (arith, ints, nat_tests, a, b, g, items)

  -- the books after what the unit paid was booked, and before those who starved are
  abbrev one_booked : BooksValue
  one_booked = after_booking c.books Upkeep Money (neg_ℤ (pos s.paid))

  upkeep_balances : Balances c → Balances after
  upkeep_balances before t =
      total_after t
      ∙ ap (λ z. (z +ℤ booked_for t Money (neg_ℤ (pos s.paid))) +ℤ booked_for t People (neg_ℤ (pos s.starved))) (before t)
      ∙ ap (λ z. z +ℤ booked_for t People (neg_ℤ (pos s.starved)))
      (sym (booked-after_booking c.books Upkeep Money (neg_ℤ (pos s.paid)) t))
      ∙ sym (booked-after_booking one_booked Starved People (neg_ℤ (pos s.starved)) t)

  -- a unit pays at most 999,999,999, since no unit of a steady campaign has more money
  pub few_paid : s.paid ≤ most_amount
  few_paid = omega (arith, spare.paid, (steady.numbers.units s.unit u is).1.money)

  -- at most 999,999,999 of a unit's men starve, since no unit of a steady campaign has more men
  pub few_starved : s.starved ≤ most_amount
  few_starved = omega (arith, spare.starved, (steady.numbers.units s.unit u is).1.men)

  upkeep_near : (e : BooksEntry) (t : Thing)
      → IsNear (takes_up_to most_amount e t) (amount_in c.books e t) (amount_in after.books e t)
  upkeep_near e t =
      near_twice (moves_only most_amount Upkeep Money e t) (moves_only most_amount Starved People e t) _ _ _
      (booked-near c.books Upkeep Money (neg_ℤ (pos s.paid)) most_amount
      (within-neg s.paid most_amount few_paid) e t)
      (booked-near one_booked Starved People (neg_ℤ (pos s.starved)) most_amount
      (within-neg s.starved most_amount few_starved) e t)

  unit_leaves_well : LeavesWell IsSteady (takes_up_to most_amount) w c after
  unit_leaves_well = record {
    leaves_it = after_steady;
    same_month = same_month_by refl;
    balances = upkeep_balances;
    near = upkeep_near;
  }

-- ---- the upkeep of all

-- if the unit is there, its upkeep (`upkeep_at`) is that of the unit found (`upkeep_in`)
pub upkeep_at_is : (c : CampaignValue) (s : UpkeepResult) (u : Unit) → get c.units s.unit ≡ Some u
    → upkeep_at c s ≡ upkeep_in c s (Some u)
unfolding upkeep_at
upkeep_at_is c s u is = ap (upkeep_in c s) is

-- The upkeep of a unit that can pay keeps the campaign steady and of the same month, and its books balanced. It moves
-- only Upkeep of money and Starved of people, each by at most 999,999,999.
pub upkeep_at_leaves_well : (w : WorldValue) (c : CampaignValue) (s : UpkeepResult) → CanPayUpkeep w c s
    → LeavesWell IsSteady (takes_up_to most_amount) w c (upkeep_at c s)
upkeep_at_leaves_well w c s can =
    rw (upkeep_at_is c s can.unit can.there) (unit_leaves_well w c s can.unit can.there can.spare can.steady)

-- the upkeep of a unit leaves each other unit n as it was
pub other_unit : (c : CampaignValue) (s : UpkeepResult) (n : ℕ) → n ≢ s.unit
    → get (upkeep_at c s).units n ≡ get c.units n
unfolding upkeep_at
other_unit c s n apart = by_unit (get c.units s.unit)
  where
    by_unit : (o : Option Unit) → get (upkeep_in c s o).units n ≡ get c.units n
    by_unit None = refl
    by_unit (Some u) = get-insert_other c.units s.unit n (record u { holding = after_upkeep s u.holding }) apart

-- if the units `es` are there as listed, with greater numbers than the unit of `s`, they are still so after its upkeep
pub each_still : (c : CampaignValue) (s : UpkeepResult) (es : List (ℕ × Unit)) → AllByRecursion (λ e. s.unit < e.0) es
    → EachEntry (λ n u. get c.units n ≡ Some u) es → EachEntry (λ n u. get (upkeep_at c s).units n ≡ Some u) es
each_still c s [] above there = tt
each_still c s (e ∷ es) above there =
    (other_unit c s e.0 (λ same. omega (arith, above.0, same)) ∙ there.0, each_still c s es above.1 there.1)

-- what upkeep takes from unit `p` at maintenance `m`; of `all`, the units of the campaign, only those of its faction in
-- its region count
abbrev pub upkeep_result_one : ℕ → (all : List UpkeepInput) → UpkeepInput → UpkeepResult
upkeep_result_one m all p = upkeep_result_among m (peers_of p.region p.faction all) p

-- what upkeep takes, at maintenance `m`, from each of the units `es`, where `all` are those of the campaign
abbrev pub upkeep_result_each : ℕ → (all : List UpkeepInput) → List (ℕ × Unit) → List UpkeepResult
upkeep_result_each m all es = map (upkeep_result_one m all) (map upkeep_input_of es)

-- `all` are the units of the campaign, as upkeep reads them
module _ (w : WorldValue) (all : List UpkeepInput) where
  abbrev step_moves : BookBound
  step_moves = takes_up_to most_amount

  abbrev each_of : List (ℕ × Unit) → List UpkeepResult
  each_of es = upkeep_result_each w.rules.maintenance all es

  -- The upkeep of some units, sorted by their numbers, can be paid in turn. This supposes that the campaign is steady
  -- and has the units as listed, and that its books have room for the upkeep of all.
  upkeep_result_in_turn : (es : List (ℕ × Unit)) (c : CampaignValue) → Rise es
      → EachEntry (λ n u. get c.units n ≡ Some u) es
      → IsSteady w c → HaveRoom (moved_times (length (each_of es)) step_moves) c
      → CanInTurn (CanPayUpkeep w) upkeep_at c (each_of es)
  upkeep_result_in_turn [] c rise there steady room = tt
  upkeep_result_in_turn ((n, u) ∷ es) c rise there steady room =
      let p = upkeep_input_of (n, u) in
      let s = upkeep_result_one w.rules.maintenance all p in
      let rest = each_of es in
      let can : CanPayUpkeep w c s = record {
        unit = u;
        there = there.0;
        spare = can_spare w.rules.maintenance (peers_of p.region p.faction all) p;
        steady = steady;
        room = first_room step_moves c s rest room;
      } in
      let well = upkeep_at_leaves_well w c s can in (
        can,
        upkeep_result_in_turn es (upkeep_at c s) rise.1 (each_still c s es rise.0 there.1) well.leaves_it
            (later_room step_moves w c (upkeep_at c s) s rest well room),
      )

-- what upkeep reads of listed units, in the order of their numbers
module _ (c : CampaignValue) where
  in_order : (es : List (ℕ × Unit)) → Rise es → AreInOrder (map upkeep_input_of es)
  in_order [] rise = λ i j d h l. absurd (omega (arith, l))
  in_order (e ∷ es) rise =
      AllPairs-cons (λ (p q : UpkeepInput). p.unit < q.unit) (upkeep_input_of e) (map upkeep_input_of es)
      (All-map (λ (q : UpkeepInput). e.0 < q.unit) upkeep_input_of es (All-from_recursion (λ (f : ℕ × Unit). e.0 < f.0) es rise.0)) (in_order es rise.1)

  -- what upkeep reads of the units of a campaign is sorted by their numbers
  pub inputs_in_order : AreInOrder (upkeep_inputs_of c)
  inputs_in_order = in_order (entries c.units) (entries_rise c.units)

-- `c` is the campaign as upkeep begins, whose books have room for less than 10^14 of money and of people
module _ (w : WorldValue) (c : CampaignValue) (steady : IsSteady w c) (room : HaveRoom (takes_up_to most_moved) c) where
  abbrev list : List UpkeepResult
  list = upkeep_results w c

  few : length list ≤ most_units
  few =
      omega
      (arith, length-map (upkeep_inputs_of c) (upkeep_result_one w.rules.maintenance (upkeep_inputs_of c)), length-map (entries c.units) upkeep_input_of, len-entries c.units, steady.numbers.few_units)

  little : IsBoundWithin (moved_times (length list) (takes_up_to most_amount)) (takes_up_to most_moved)
  little e t = grind (arith, few)

  -- in a steady campaign whose books have room, each unit can pay its upkeep when its turn comes
  pub all_can_pay : CanInTurn (CanPayUpkeep w) upkeep_at c list
  all_can_pay =
      upkeep_result_in_turn w (upkeep_inputs_of c) (entries c.units) c (entries_rise c.units)
      (each-from_every (λ n u. get c.units n ≡ Some u) c.units (λ n u is. is)) steady
      (room_less (moved_times (length list) (takes_up_to most_amount)) (takes_up_to most_moved) c little room)

  -- The upkeep of all units keeps a steady campaign steady and of the same month, and its books balanced. It moves only
  -- Upkeep of money and Starved of people, each by less than 10^14.
  pub upkeep_leaves_well : LeavesWell IsSteady (takes_up_to most_moved) w c (upkeep c list)
  upkeep_leaves_well =
      well_within (moved_times (length list) (takes_up_to most_amount)) (takes_up_to most_moved) w c (upkeep c list) little
      (turns_leave_well (takes_up_to most_amount) w (CanPayUpkeep w) upkeep_at (upkeep_at_leaves_well w) c list steady all_can_pay)

-- ---- where nobody starves

men_stay : (h : HoldingValue) (left : ℕ) → left ≡ h.men → with_men_left left h ≡ h
men_stay h left is = grind (arith, nat_tests, is)

-- if no man of a unit starves, upkeep takes from its holding the money that the unit pays, and leaves all else of the
-- holding as it was
pub paid_alone : (s : UpkeepResult) (h : HoldingValue) → s.starved ≡ 0
    → after_upkeep s h ≡ record h { money = h.money - s.paid }
paid_alone s h fed =
    ap (λ (k : HoldingValue). record k { money = h.money - s.paid })
    (men_stay h (h.men - s.starved) (omega (arith, fed)))

-- if a unit pays nothing and nobody starves, setting its holding to what upkeep leaves it changes nothing
pub pays_nothing : (c : CampaignValue) (s : UpkeepResult) (u : Unit) → get c.units s.unit ≡ Some u → s.starved ≡ 0
    → s.paid ≡ 0
    → c ≡ with_holding_at c s.unit (after_upkeep s u.holding) (Some u)
pays_nothing c s u is fed none =
    let same : after_upkeep s u.holding ≡ u.holding = paid_alone s u.holding fed ∙ ap (λ m. record u.holding { money = m }) (omega (arith, none)) in
    sym (ap (λ units. record c { units = units }) (put_same c.units s.unit u (record u { holding = after_upkeep s u.holding }) is (ap (λ h. record u { holding = h }) same)))

-- ---- where somebody starves

each_stays_positive : (f : ℕ → ℕ → ℕ) (es : List (ℕ × ℕ)) (had : FinMap nat_cmp ℕ) → Every (λ k d. 1 ≤ d) had
    → Every (λ k d. 1 ≤ d) (fold (λ (m : FinMap nat_cmp ℕ) (e : ℕ × ℕ). with_amount_of m e.0 (f e.0 e.1)) had es)
each_stays_positive f [] had old = old
each_stays_positive f (e ∷ es) had old =
    each_stays_positive f es (with_amount_of had e.0 (f e.0 e.1)) (every_amount (λ k d. 1 ≤ d) had e.0 (f e.0 e.1) (λ some. some) old)

-- Setting the days of each skill, one by one, to those that stay with fewer men gives the map of the days that stay
-- (`days_left`).
days_set : (left : ℕ) (h : HoldingValue) → Every (λ k d. 1 ≤ d) h.days
    → with_days h.days (staying_list left h.men h.days) ≡ days_left left h
days_set left h listed =
    set_again h.days stays none listed
    ∙ same_amounts anew (days_left left h)
    (each_stays_positive stays (entries h.days) empty (every-empty (λ k d. 1 ≤ d)))
    (λ k d there. (each_said (going_of left h) (keys h.days) k d there).0)
    (λ k. set_each h.days stays k empty (λ free. ap (λ (o : Option ℕ). unwrap_or o 0) (get-empty nat_cmp k) ∙ sym (none k))
    ∙ sym (as_said (going_of left h) (keys h.days) k (λ other. none_go left h k (not_listed k other))))
  where
    -- how many of `d` days stay: `d` times the men left, divided by the men before, rounded down
    stays : ℕ → ℕ → ℕ
    stays k d = d * left / h.men

    none : (k : ℕ) → stays k 0 ≡ 0
    none k = ap (λ d. d / h.men) (zero-mul left) ∙ zero-div h.men

    anew : FinMap nat_cmp ℕ
    anew = fold (λ (m : FinMap nat_cmp ℕ) (e : ℕ × ℕ). with_amount_of m e.0 (stays e.0 e.1)) empty (entries h.days)

    not_listed : (k : ℕ) → list_any (eq_by_cmp nat_cmp k) (keys h.days) ≡ false → amount_of h.days k ≡ 0
    not_listed k other = by_option (get h.days k) (contains_key-keys h.days k ∙ other)
      where
        by_option : (o : Option ℕ) → is_some o ≡ false → unwrap_or o 0 ≡ 0
        by_option None is = refl
        by_option (Some d) is = cc

-- A holding with its men, its money and its days of each skill set to what upkeep leaves is the holding after upkeep
-- (`after_upkeep`). For this some men of the unit starve, no more than it has, and no skill has 0 days.
pub starving_sets_holding : (s : UpkeepResult) (h : HoldingValue) → 1 ≤ s.starved → s.starved ≤ h.men
    → Every (λ k d. 1 ≤ d) h.days
    → record h { men = h.men - s.starved; money = h.money - s.paid; days = with_days h.days (staying_list (h.men - s.starved) h.men h.days) } ≡ after_upkeep s h
starving_sets_holding s h some fewer listed =
    let set = days_set (h.men - s.starved) h listed in
    let other : (h.men - s.starved == h.men) ≡ false = grind (arith, nat_tests) in
    rw (set, other) refl

-- ---- the upkeep of a unit by its faction's units in its region

-- a unit with what its upkeep leaves it
abbrev pub unit_after_upkeep : UpkeepResult → Unit → Unit
unit_after_upkeep s u = record u { holding = after_upkeep s u.holding }

-- after its upkeep a unit that was there has what its upkeep leaves it, and keeps all else
pub own_unit : (c : CampaignValue) (s : UpkeepResult) (u : Unit) → get c.units s.unit ≡ Some u
    → get (upkeep_at c s).units s.unit ≡ Some (unit_after_upkeep s u)
own_unit c s u is =
    ap (λ (d : CampaignValue). get d.units s.unit) (upkeep_at_is c s u is)
    ∙ get-insert_same c.units s.unit (unit_after_upkeep s u)

-- `m` is the maintenance of each man, and `all` are the units of the campaign, as upkeep reads them
module _ (m : ℕ) (all : List UpkeepInput) where
  others_stay : (es : List (ℕ × Unit)) (c : CampaignValue) (n : ℕ) → AllByRecursion (λ e. n < e.0) es
      → get (fold upkeep_at c (upkeep_result_each m all es)).units n ≡ get c.units n
  others_stay [] c n h = refl
  others_stay (e ∷ es) c n h =
      let s = upkeep_result_one m all (upkeep_input_of e) in
      others_stay es (upkeep_at c s) n h.1 ∙ other_unit c s n (λ same. omega (arith, h.0, same))

  abbrev HasUpkeepResult : CampaignValue → ℕ → Unit → Type 0
  HasUpkeepResult after n u =
      get after.units n ≡ Some (unit_after_upkeep (upkeep_result_one m all (upkeep_input_of (n, u))) u)

  -- after the upkeep of some units in the order of their numbers, which the campaign has as listed, each of them has
  -- what its upkeep among all units leaves it
  each_upkeep_result : (es : List (ℕ × Unit)) (c : CampaignValue) → Rise es
      → EachEntry (λ n u. get c.units n ≡ Some u) es
      → EachEntry (HasUpkeepResult (fold upkeep_at c (upkeep_result_each m all es))) es
  each_upkeep_result [] c rise there = tt
  each_upkeep_result ((n, u) ∷ es) c rise there =
      let s = upkeep_result_one m all (upkeep_input_of (n, u)) in
      let next = upkeep_at c s in (
        others_stay es next n rise.0 ∙ own_unit c s u there.0,
        each_upkeep_result es next rise.1 (each_still c s es rise.0 there.1),
      )

-- after upkeep each unit is there, with what its upkeep leaves it (`unit_after_upkeep`); for this only the units of its
-- faction in its region count
pub upkeep_is_of_peers : (w : WorldValue) (c : CampaignValue)
    → Every (HasUpkeepResult w.rules.maintenance (upkeep_inputs_of c) (upkeep c (upkeep_results w c))) c.units
upkeep_is_of_peers w c =
    let here = each-from_every (λ n u. get c.units n ≡ Some u) c.units (λ n u is. is) in
    every-from_each _ c.units (each_upkeep_result w.rules.maintenance (upkeep_inputs_of c) (entries c.units) c (entries_rise c.units) here)
