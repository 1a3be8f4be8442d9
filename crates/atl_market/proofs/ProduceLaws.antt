-- Laws of PRODUCE: all shares can be made, if the books have room, and leave a steady campaign steady, with the same
-- month, reports and factions, and balanced books balanced (`LeavesWell`). Units without an order of their own faction
-- are no worse off: they have the same faction, region, structure, name and guard flag, and no less men, money, items
-- or days. `n` is the number of unit `u`, `i` that of item `x`, and `made` how many pieces the unit makes. Shares
-- (`es`) are pairs of a unit's number and how many pieces it makes. `os` are the orders of the phase.
use Rattle.std.proofs.Common.{◌≡◌, ◌≢◌, ◌==◌, ℕ, ◌+◌, ◌-◌, ◌*◌, ◌/◌, ◌≤◌, ◌<◌, Bool, true, false, List, [], ◌∷◌, length, Option, Some, None, is_some, option_map, refl, sym, subst, ◌∙◌, arith}
use Rattle.std.specs.Prelude.{ℤ, IfSome, fold, min, if◌then◌else◌}
use Rattle.std.specs.List.{AllByRecursion, slice_get}
use Rattle.std.specs.Option.{option_map_or}
use Rattle.std.specs.Ordering.{nat_cmp}
use Rattle.std.specs.FinMap.{FinMap, entries, get}
use Rattle.std.proofs.lemmas.Bool.{false≢true}
use Rattle.std.proofs.lemmas.Bool.Decides.{nat_tests}
use Rattle.std.proofs.lemmas.Option.{same_Some, slice_get_within}
use Rattle.std.proofs.Math.Nat.{mul-div-le, mul-le-mul_right, mul_comm}
use Rattle.atl_world.specs.Worlds.{IsWorld, WorldValue}
use Rattle.atl_world.specs.declared.world.Item.{Item}
use Rattle.atl_records.specs.declared.books.BooksEntry.{BooksEntry}
use Rattle.atl_records.specs.declared.books.BooksEntry.TheVariants as booked
use Rattle.atl_records.specs.declared.books.Thing.{Thing}
use Rattle.atl_records.specs.declared.books.Thing.TheVariants as things
use Rattle.atl_records.specs.declared.event.EventFault.TheVariants.{NoMen, NoSkill}
use Rattle.atl_records.specs.declared.records.Unit.{Unit}
use Rattle.atl_records.specs.Books.{amount_in, amount_number}
use Rattle.atl_world.specs.Every.{Every}
use Rattle.atl_campaign.specs.Good.{IsSteady}
use Rattle.atl_records.specs.Holdings.{HoldingValue, amount_of, with_amount_of}
use Rattle.atl_records.specs.Levels.{level_in_any}
use Rattle.atl_records.specs.Limits.{holding_limit, most_units}
use Rattle.atl_campaign.specs.Campaign.{CampaignValue}
use Rattle.atl_campaign.proofs.ReadBackLaws.{Rise, entries_rise}
use Rattle.atl_world.proofs.EveryLaws.{each-from_every, none_some, same_number}
use Rattle.atl_phase.specs.Outcomes.{first_fault}
use Rattle.atl_phase.specs.Meaning.{BookBound, LeavesWell, both_move, most_moved, moves_only}
use Rattle.atl_phase.specs.Bounds.{CanInTurn, HasRoom, HaveRoom, moved_times}
use Rattle.atl_phase.specs.PhaseOrders.{Task}
use Rattle.atl_records.proofs.HoldingLaws.{amount_within}
use Rattle.atl_phase.proofs.MeaningLaws.{IsBoundWithin, both_leave_well, amount_room_for_less, room_for_second, room_less, well_unchanged, well_within}
use Rattle.atl_market.specs.Making.{CanMake, CanMakeOf, CanProduce, CanUse, HasRoomAndRaw}
use Rattle.atl_market.specs.PotPhase.{after_sharing, given_by, item_in, items_by}
use Rattle.atl_market.specs.Produce.{after_production, item_of, most_makeable, most_makeable_of, numbered_item, produce_fault, produce_moves, produce_pots, up_to_raw, with_raw_used}
use Rattle.atl_market.specs.Goods.{with_made, with_used}
use Rattle.atl_market.specs.Unordered.{OthersAreNoWorse}
use Rattle.atl_market.proofs.DrawLaws.{all_pairs}
use Rattle.atl_market.proofs.MakesLaws.{produce_gives_to_wants}
use Rattle.atl_market.proofs.UnorderedLaws.{others_no_worse}
use Rattle.atl_market.proofs.ItemUseLaws.{made_others, made_well, no_more, used_others, used_unit, used_well}
use Rattle.atl_market.proofs.ThereLaws.{by_option}
use Rattle.atl_phase.proofs.TurnLaws.{first_room, later_room, turns_leave_well}
use Rattle.atl_market.proofs.WantLaws.{few_given, given_is_named}

-- ---- what is moved

limit_or_zero_within_limit : (b : Bool) → (if b then holding_limit else 0) ≤ holding_limit
limit_or_zero_within_limit true = omega arith
limit_or_zero_within_limit false = omega arith

other_amount_not_moved : (a b : ℕ) → a ≢ b → (if a == b then holding_limit else 0) ≤ 0
other_amount_not_moved a b apart = let other : (a == b) ≡ false = grind (arith, nat_tests) in rw other (omega arith)

used_less : (r : ℕ) → IsBoundWithin (moves_only holding_limit booked.Used (things.Item r)) (produce_moves holding_limit)
used_less r booked.Made (things.Item j) =
    limit_or_zero_within_limit (amount_number booked.Made (things.Item j) == amount_number booked.Used (things.Item r))
used_less r booked.Used (things.Item j) =
    limit_or_zero_within_limit (amount_number booked.Used (things.Item j) == amount_number booked.Used (things.Item r))
used_less r e t = other_amount_not_moved (amount_number e t) (amount_number booked.Used (things.Item r)) (omega arith)

made_less : (i : ℕ) → IsBoundWithin (moves_only holding_limit booked.Made (things.Item i)) (produce_moves holding_limit)
made_less i booked.Made (things.Item j) =
    limit_or_zero_within_limit (amount_number booked.Made (things.Item j) == amount_number booked.Made (things.Item i))
made_less i booked.Used (things.Item j) =
    limit_or_zero_within_limit (amount_number booked.Used (things.Item j) == amount_number booked.Made (things.Item i))
made_less i e t = other_amount_not_moved (amount_number e t) (amount_number booked.Made (things.Item i)) (omega arith)

steps_within_produce : (steps one all : ℕ) → steps * one ≤ all → (e : BooksEntry) (t : Thing)
    → steps * produce_moves one e t ≤ produce_moves all e t
steps_within_produce steps one all few booked.Made (things.Item i) = few
steps_within_produce steps one all few booked.Used (things.Item i) = few
steps_within_produce steps one all few e t = omega arith

used_none : (r j : ℕ)
    → (if amount_number booked.Made (things.Item j) == amount_number booked.Used (things.Item r) then holding_limit else 0)
    ≤ 0
used_none r j =
    other_amount_not_moved (amount_number booked.Made (things.Item j)) (amount_number booked.Used (things.Item r))
    (omega arith)

made_none : (i j : ℕ)
    → (if amount_number booked.Used (things.Item j) == amount_number booked.Made (things.Item i) then holding_limit else 0)
    ≤ 0
made_none i j =
    other_amount_not_moved (amount_number booked.Used (things.Item j)) (amount_number booked.Made (things.Item i))
    (omega arith)

both_less : (r i : ℕ)
    → IsBoundWithin (both_move (moves_only holding_limit booked.Used (things.Item r)) (moves_only holding_limit booked.Made (things.Item i))) (produce_moves holding_limit)
both_less r i booked.Made (things.Item j) = omega (arith, used_none r j, made_less i booked.Made (things.Item j))
both_less r i booked.Used (things.Item j) = omega (arith, used_less r booked.Used (things.Item j), made_none i j)
both_less r i e t = omega (arith, used_less r e t, made_less i e t)

-- if the amount `z` of entry `e` and thing `t` has room under the bound `moves_only holding_limit e t`, it has room for
-- 999,999,999
pub only_room : (e : BooksEntry) (t : Thing) (z : ℤ) → HasRoom (moves_only holding_limit e t e t) z
    → HasRoom holding_limit z
only_room e t z room = subst (λ b. HasRoom (if b then holding_limit else 0) z) (same_number (amount_number e t)) room

-- ---- one step

of_numbered : (w : WorldValue) (asked : Option ℕ) (f : ℕ × Item) → numbered_item w asked ≡ Some f
    → (asked ≡ Some f.0) × (slice_get w.items f.0 ≡ Some f.1)
of_numbered w None f is = none_some f is
of_numbered w (Some i) f is = by_world (slice_get w.items i) refl is
  where
    -- for `of_numbered`: the world has the item (`o`), since one is found
    by_world : (o : Option Item) → slice_get w.items i ≡ o → option_map (λ x. (i, x)) o ≡ Some f
        → (Some i ≡ Some f.0) × (slice_get w.items f.0 ≡ Some f.1)
    by_world None there found = none_some f found
    by_world (Some x) there found =
        subst (λ (g : ℕ × Item). (Some i ≡ Some g.0) × (slice_get w.items g.0 ≡ Some g.1)) (same_Some (i, x) f found)
        (refl, there)

-- `asked` has by unit the item that its order names. `e` is a unit's number with how many pieces it makes.
module _ (asked : FinMap nat_cmp ℕ) (w : WorldValue) (c : CampaignValue) (e : ℕ × ℕ) where
  -- the unit of `e` can make its pieces (`can`), and its order names item `i` of the world, which is `x`
  module _ (can : CanProduce asked w c e) (i : ℕ) (x : Item) (says : get asked e.0 ≡ Some i) (there : slice_get w.items i ≡ Some x) where
    held : (r : ℕ) → amount_of can.unit.holding.items r ≤ holding_limit
    held r = amount_within can.unit.holding r (can.steady.numbers.units e.0 can.unit can.there).1

    can_use : (r : ℕ) → x.raw ≡ Some r → CanUse w c e.0 r (e.1 * x.raw_count)
    can_use r raw =
        let fits = can.fits i x says there in
        record {
          unit = can.unit;
          there = can.there;
          known = fits.raw_known r raw;
          enough = fits.raw r raw;
          steady = can.steady;
          room = amount_room_for_less (e.1 * x.raw_count) holding_limit (amount_in c.books booked.Used (things.Item r)) (omega (arith, fits.raw r raw, held r)) (can.room booked.Used (things.Item r));
        }

    -- the unit can make the item at once, before raw items are used
    can_at_once : CanMake w c e.0 i e.1
    can_at_once =
        let fits = can.fits i x says there in
        record {
          unit = can.unit;
          there = can.there;
          known = fits.known;
          fits = fits.fits;
          steady = can.steady;
          room = amount_room_for_less e.1 holding_limit (amount_in c.books booked.Made (things.Item i)) (omega (arith, fits.fits)) (can.room booked.Made (things.Item i));
        }

    can_after : (r : ℕ) → x.raw ≡ Some r → CanMake w (with_used c e.0 r (e.1 * x.raw_count)) e.0 i e.1
    can_after r raw =
        let fits = can.fits i x says there in
        let well = used_well w c e.0 r (e.1 * x.raw_count) (can_use r raw) in
        let left = no_more can.unit.holding r i (e.1 * x.raw_count) in
        let h : HoldingValue = record can.unit.holding { items = with_amount_of can.unit.holding.items r (amount_of can.unit.holding.items r - e.1 * x.raw_count) } in
        record {
          unit = record can.unit { holding = h };
          there = used_unit w c e.0 r (e.1 * x.raw_count) can.unit can.there;
          known = fits.known;
          fits = below (amount_of h.items i) (amount_of can.unit.holding.items i) left fits.fits;
          steady = well.leaves_it;
          room =
              amount_room_for_less e.1 holding_limit
              (amount_in (with_used c e.0 r (e.1 * x.raw_count)).books booked.Made (things.Item i))
              (omega (arith, fits.fits))
              (only_room booked.Made (things.Item i) (amount_in (with_used c e.0 r (e.1 * x.raw_count)).books booked.Made (things.Item i))
              (room_for_second (moves_only holding_limit booked.Used (things.Item r)) (moves_only holding_limit booked.Made (things.Item i)) w c (with_used c e.0 r (e.1 * x.raw_count)) well
              (room_less (both_move (moves_only holding_limit booked.Used (things.Item r)) (moves_only holding_limit booked.Made (things.Item i))) (produce_moves holding_limit) c (both_less r i) can.room) booked.Made (things.Item i)));
        }
      where
        below : (a b : ℕ) → a ≤ b → b + e.1 ≤ holding_limit → a + e.1 ≤ holding_limit
        below a b l m = omega (arith, l, m)

    can_make_then : CanMake w (with_raw_used c e.0 (e.1 * x.raw_count) x.raw) e.0 i e.1
    can_make_then = by_raw x.raw refl
      where
        by_raw : (o : Option ℕ) → x.raw ≡ o → CanMake w (with_raw_used c e.0 (e.1 * x.raw_count) o) e.0 i e.1
        by_raw None is = can_at_once
        by_raw (Some r) is = can_after r is

    -- a unit that can make its share (`CanProduce`) can make that many of the item `x` that its order names
    pub can_make_item : CanMakeOf w c e.0 e.1 i x
    can_make_item = record {
      use_raw = can_use;
      few_raw = λ r raw. omega (arith, (can.fits i x says there).raw r raw, held r);
      make = can_make_then;
    }

    item_well : LeavesWell IsSteady (produce_moves holding_limit) w c (with_made (with_raw_used c e.0 (e.1 * x.raw_count) x.raw) e.0 i e.1)
    item_well = by_raw x.raw refl
      where
        by_raw : (o : Option ℕ) → x.raw ≡ o
            → LeavesWell IsSteady (produce_moves holding_limit) w c (with_made (with_raw_used c e.0 (e.1 * x.raw_count) o) e.0 i e.1)
        by_raw None is =
            well_within (moves_only holding_limit booked.Made (things.Item i)) (produce_moves holding_limit) w c
            (with_made c e.0 i e.1) (made_less i) (made_well w c e.0 i e.1 can_at_once)
        by_raw (Some r) is =
            let d = with_used c e.0 r (e.1 * x.raw_count) in
            let one = moves_only holding_limit booked.Used (things.Item r) in
            let two = moves_only holding_limit booked.Made (things.Item i) in
            well_within (both_move one two) (produce_moves holding_limit) w c (with_made d e.0 i e.1) (both_less r i)
            (both_leave_well one two w c d (with_made d e.0 i e.1) (used_well w c e.0 r (e.1 * x.raw_count) (can_use r is)) (made_well w d e.0 i e.1 (can_after r is)))

  -- production that can be done (`CanProduce`) keeps the campaign steady, and books at most 999,999,999 of each item as
  -- made and as used (`LeavesWell`)
  pub produced_well : CanProduce asked w c e
      → LeavesWell IsSteady (produce_moves holding_limit) w c (after_production asked w c e)
  unfolding after_production
  produced_well can =
      let unchanged = well_unchanged (produce_moves holding_limit) w c can.steady in
      by_option (λ d. LeavesWell IsSteady (produce_moves holding_limit) w c d) _ (numbered_item w (get asked e.0)) c unchanged
      (λ f is. let (says, there) = of_numbered w (get asked e.0) f is in item_well can f.0 f.1 says there)

  abbrev IsStill : ℕ → CampaignValue → Type 0
  IsStill k d = get d.units k ≡ get c.units k

  -- the production of a unit leaves all other units as they are
  pub produced_others : (k : ℕ) → k ≢ e.0 → get (after_production asked w c e).units k ≡ get c.units k
  unfolding after_production
  produced_others k apart =
      by_option (IsStill k) _ (numbered_item w (get asked e.0)) c refl (λ (i, x) is.
      let amount = e.1 * x.raw_count in
      made_others w (with_raw_used c e.0 amount x.raw) e.0 i e.1 k apart
      ∙ by_option (IsStill k) (λ r. with_used c e.0 r amount) x.raw c refl (λ r raw. used_others w c e.0 r amount k apart))

-- PRODUCE leaves units for which their own faction wrote none of its orders `os` no worse off
pub produce_keeps_others : (w : WorldValue) (c : CampaignValue) (os : List Task)
    → OthersAreNoWorse os c (after_sharing produce_pots w c os)
produce_keeps_others w c os =
    others_no_worse produce_pots w (λ items. produced_others items w) c (produce_gives_to_wants w c) os

-- ---- what a unit makes it can make

-- an order of PRODUCE without a fault names an item of the world; `h` is what the unit holds
pub names_item : (h : HoldingValue) (item : Option Item) → produce_fault h item ≡ None → is_some item ≡ true
names_item h (Some x) fine = refl
names_item h None fine = absurd (by_men (h.men == 0) fine)
  where
    by_men : (b : Bool) → first_fault ((b, NoMen) ∷ (true, NoSkill) ∷ []) ≡ None → ⊥
    by_men true never = none_some NoMen (sym never)
    by_men false never = none_some NoSkill (sym never)

-- PRODUCE begins in campaign `c`
module _ (w : WorldValue) (c : CampaignValue) (os : List Task) where
  abbrev items : FinMap nat_cmp ℕ
  items = items_by produce_pots w c os

  -- the unit of a pair (unit, share) is in the campaign, and can make at least the share
  abbrev Makes : ℕ × ℕ → Type 0
  Makes e = (u : Unit) × (get c.units e.0 ≡ Some u) × (e.1 ≤ most_makeable w u.holding (get items e.0))

  -- each unit that makes something is there, and makes at most what it can make of the item that its order names
  pub given_can : Every (λ n made. Makes (n, made)) (given_by produce_pots w c os)
  given_can n made is =
      let (u, t, there, own, low, fine, named) = given_is_named produce_pots w c (produce_gives_to_wants w c) os n made is in
      (u, there, by_item u (item_in t.order_value.operands) low fine named)
    where
      by_item : (u : Unit) (s : Option ℕ) → made ≤ most_makeable w u.holding s
          → produce_fault u.holding (item_of w s) ≡ None → ((i : ℕ) → s ≡ Some i → get items n ≡ Some i)
          → made ≤ most_makeable w u.holding (get items n)
      by_item u None low fine named = absurd (false≢true (names_item u.holding None fine))
      by_item u (Some i) low fine named = subst (λ o. made ≤ most_makeable w u.holding o) (sym (named i refl)) low

up_to_most : (h : HoldingValue) (count : ℕ) (raw : Option ℕ) (most : ℕ) → up_to_raw h count raw most ≤ most
up_to_most h count None most = omega arith
up_to_most h count (Some r) most = omega arith

up_to_held : (h : HoldingValue) (count : ℕ) (raw : Option ℕ) (most r : ℕ) → raw ≡ Some r
    → up_to_raw h count raw most ≤ amount_of h.items r / count
up_to_held h count raw most r is =
    subst (λ o. up_to_raw h count o most ≤ amount_of h.items r / count) (sym is) (omega arith)

has_room : (made skilled limit held most : ℕ) → held ≤ limit → made ≤ most → most ≤ min skilled (limit - held)
    → held + made ≤ limit
has_room made skilled limit held most fits low least = omega (arith, fits, low, least)

has_raw : (made count held : ℕ) → made ≤ held / count → made * count ≤ held
has_raw made count held low =
    omega (arith, mul-le-mul_right count low, mul-div-le held count, mul_comm (held / count) count)

raw_in : (items r : ℕ) (o : Option ℕ) → o ≡ Some r → IfSome o (λ k. k < items) → r < items
raw_in items r None is known = none_some r is
raw_in items r (Some k) is known = let same : k ≡ r = cc in subst (λ m. m < items) same known

-- `asked` has by unit the item that its order names
module _ (asked : FinMap nat_cmp ℕ) (w : WorldValue) (c : CampaignValue) (world : IsWorld w) (steady : IsSteady w c) where
  fits_by : (n made : ℕ) (u : Unit) → get c.units n ≡ Some u → made ≤ most_makeable w u.holding (get asked n)
      → (i : ℕ) (x : Item) → get asked n ≡ Some i → slice_get w.items i ≡ Some x → HasRoomAndRaw w u made i x
  fits_by n made u there low i x says is =
      let all : made ≤ most_makeable_of u.holding i x = subst (λ o. made ≤ option_map_or (λ (f : ℕ × Item). most_makeable_of u.holding f.0 f.1) (option_map (λ y. (i, y)) o) 0) is (subst (λ o. made ≤ most_makeable w u.holding o) says low) in
      let skilled = u.holding.men * level_in_any u.holding x.skill in
      let most = min skilled (holding_limit - amount_of u.holding.items i) in
      record {
        known = slice_get_within w.items i x is;
        fits = has_room made skilled holding_limit (amount_of u.holding.items i) (up_to_raw u.holding x.raw_count x.raw most) (amount_within u.holding i (steady.numbers.units n u there).1) all (up_to_most u.holding x.raw_count x.raw most);
        raw_known = λ r raw. raw_in (length w.items) r x.raw raw (world.items i x is).raw;
        raw = λ r raw. has_raw made x.raw_count (amount_of u.holding.items r) (omega (arith, all, up_to_held u.holding x.raw_count x.raw most r raw));
      }

-- ---- all shares can be made in turn

-- the unit of a pair (unit, share) is in the campaign, and has room and raw items for the share of its item
abbrev HasRoomFor : (FinMap nat_cmp ℕ) → WorldValue → CampaignValue → ℕ × ℕ → Type 0
HasRoomFor asked w c e =
    (u : Unit) × (get c.units e.0 ≡ Some u) ×
    ((i : ℕ) (x : Item) → get asked e.0 ≡ Some i → slice_get w.items i ≡ Some x → HasRoomAndRaw w u e.1 i x)

-- `asked` has by unit the item that its order names; shares are pairs (unit, pieces to make)
module _ (asked : FinMap nat_cmp ℕ) (w : WorldValue) where
  abbrev step_moves : BookBound
  step_moves = produce_moves holding_limit

  still : (c d : CampaignValue) (n : ℕ) (es : List (ℕ × ℕ)) → ((k : ℕ) → k ≢ n → get d.units k ≡ get c.units k)
      → AllByRecursion (λ f. n < f.0) es → AllByRecursion (HasRoomFor asked w c) es
      → AllByRecursion (HasRoomFor asked w d) es
  still c d n [] same above all = tt
  still c d n (f ∷ es) same above ((u, there, fits), all) =
      ((u, same f.0 (λ e. absurd (omega (arith, e, above.0))) ∙ there, fits), still c d n es same above.1 all)

  -- in a steady campaign shares can be made in turn, by rising unit numbers, if each unit has room and raw items for
  -- its own and the books have room for all
  pub produce_in_turn : (c : CampaignValue) (es : List (ℕ × ℕ)) → Rise es → IsSteady w c
      → HaveRoom (moved_times (length es) step_moves) c → AllByRecursion (HasRoomFor asked w c) es
      → CanInTurn (CanProduce asked w) (after_production asked w) c es
  produce_in_turn c [] rise steady room all = tt
  produce_in_turn c (e ∷ es) rise steady room ((u, there, fits), all) =
      let can : CanProduce asked w c e = record { unit = u; there = there; fits = fits; steady = steady; room = first_room step_moves c e es room } in
      let well = produced_well asked w c e can in (
        can,
        produce_in_turn (after_production asked w c e) es rise.1 well.leaves_it (later_room step_moves w c (after_production asked w c e) e es well room)
            (still c (after_production asked w c e) e.0 es (produced_others asked w c e) rise.0 all),
      )

-- PRODUCE begins in the steady campaign `c` of a world (`IsWorld`)
module _ (w : WorldValue) (c : CampaignValue) (world : IsWorld w) (steady : IsSteady w c) (os : List Task) where
  abbrev shares : List (ℕ × ℕ)
  shares = entries (given_by produce_pots w c os)

  abbrev named : FinMap nat_cmp ℕ
  named = items_by produce_pots w c os

  each_fits : Every (λ n made. HasRoomFor named w c (n, made)) (given_by produce_pots w c os)
  each_fits n made is =
      let (u, there, low) = given_can w c os n made is in
      (u, there, fits_by named w c world steady n made u there low)

  few : length shares ≤ most_units
  few = omega (arith, few_given produce_pots w c (produce_gives_to_wants w c) os, steady.numbers.few_units)

  -- the production of all units that make something moves each amount of the books by less than 10^14 altogether
  little : IsBoundWithin (moved_times (length shares) (produce_moves holding_limit)) (produce_moves most_moved)
  little e t = steps_within_produce (length shares) holding_limit most_moved (omega (arith, few)) e t

  -- all shares of PRODUCE can be made in turn, if the books have room for the phase
  pub can_share_out : HaveRoom (produce_moves most_moved) c
      → CanInTurn (CanProduce named w) (after_production named w) c shares
  can_share_out room =
      produce_in_turn named w c shares (entries_rise (given_by produce_pots w c os)) steady (room_less (moved_times (length shares) (produce_moves holding_limit)) (produce_moves most_moved) c little room)
      (all_pairs (HasRoomFor named w c) shares (each-from_every (λ n made. HasRoomFor named w c (n, made)) (given_by produce_pots w c os) each_fits))

  -- PRODUCE keeps a steady campaign steady and its books balanced, within the phase's bound (`LeavesWell`), if the
  -- books have room for it
  pub produce_leaves_well : HaveRoom (produce_moves most_moved) c
      → LeavesWell IsSteady (produce_moves most_moved) w c (after_sharing produce_pots w c os)
  unfolding after_sharing
  produce_leaves_well room =
      well_within (moved_times (length shares) (produce_moves holding_limit)) (produce_moves most_moved) w c (fold (after_production named w) c shares) little
      (turns_leave_well (produce_moves holding_limit) w (CanProduce named w) (after_production named w) (produced_well named w) c shares steady (can_share_out room))
