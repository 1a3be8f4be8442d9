-- Laws of using and of making an item: what changes of a campaign, that it stays steady and of the same month, and that
-- its books stay balanced (`LeavesWell`). `n` is the number of unit `u`, `i` that of the item. `limit`, or without it
-- 999,999,999, bounds how much of the item is booked.
use Rattle.std.proofs.Common.{◌≡◌, ◌≢◌, ◌==◌, ℕ, ◌+◌, ◌-◌, ◌≤◌, ◌<◌, Bool, true, false, cond, Some, length, refl, sym, ap, subst, ◌∙◌, arith}
use Rattle.std.specs.Prelude.{ℤ, pos, neg_ℤ, ◌+ℤ◌}
use Rattle.std.specs.Ordering.{nat_cmp, eq_by_cmp}
use Rattle.std.specs.Cmp.{unsigned_ties}
use Rattle.std.specs.FinMap.{get}
use Rattle.std.proofs.lemmas.Int.{ints}
use Rattle.std.proofs.lemmas.Bool.Decides.{nat_tests}
use Rattle.atl_world.specs.Worlds.{WorldValue}
use Rattle.atl_records.specs.declared.books.BooksEntry.{BooksEntry}
use Rattle.atl_records.specs.declared.books.BooksEntry.TheVariants as entries
use Rattle.atl_records.specs.declared.books.Thing.{Thing}
use Rattle.atl_records.specs.declared.books.Thing.TheVariants.{Item, Money, People}
use Rattle.atl_records.specs.declared.records.Unit.{Unit}
use Rattle.atl_records.specs.Books.{IsWithin}
use Rattle.atl_campaign.specs.Good.{IsSteady}
use Rattle.atl_records.specs.Holdings.{HoldingValue, amount_of, with_amount_of}
use Rattle.atl_campaign.specs.Lending.{with_holding_at}
use Rattle.atl_records.specs.Limits.{holding_limit}
use Rattle.atl_campaign.specs.Campaign.{CampaignValue, with_booking, with_item}
use Rattle.atl_records.specs.Amounts.{unit_amount}
use Rattle.atl_campaign.specs.Totals.{total}
use Rattle.atl_records.proofs.BookLaws.{booked-after_booking, booked_for}
use Rattle.atl_campaign.proofs.HavingLaws.{MayHave, may_have}
use Rattle.atl_campaign.proofs.HoldingLaws.{steady-new_holding, total-new_holding}
use Rattle.atl_campaign.proofs.RegionLaws.{get-insert_same, steady-amount, total-booking}
use Rattle.atl_phase.specs.Meaning.{LeavesWell, moves_only}
use Rattle.atl_records.proofs.HoldingLaws.{compared_equal_is_equal, amount_within, every_amount, amount_after_setting}
use Rattle.atl_phase.proofs.MeaningLaws.{same_month_by}
use Rattle.atl_phase.proofs.BookingLaws.{booked-near, within-neg, within-pos}
use Rattle.atl_phase.proofs.ChangeLaws.{changed_held, change_keeps_others}
use Rattle.atl_market.specs.Goods.{with_made, with_used}
use Rattle.atl_market.specs.Making.{CanMake, CanUse}
use Rattle.atl_market.proofs.ThereLaws.{by_unit, unit_there}

total_moves_with_amount : (x y t k a l : ℕ) (z : ℤ) → x ≡ y → y + k ≡ t + a → k ≡ l → pos a ≡ pos l +ℤ z
    → pos x ≡ pos t +ℤ z
total_moves_with_amount x y t k a l z e f g h = omega (arith, ints, e, f, g, h)

total_stays_with_amount : (x y t k : ℕ) → x ≡ y → y + k ≡ t + k → pos x ≡ pos t +ℤ pos 0
total_stays_with_amount x y t k e f = omega (arith, ints, e, f)

-- a campaign in which unit `n`, which is `u`, holds `amount` of item `i`
abbrev pub item_held : CampaignValue → ℕ → Unit → (item amount : ℕ) → CampaignValue
item_held c n u i amount =
    with_holding_at c n (record u.holding { items = with_amount_of u.holding.items i amount }) (Some u)

item_is : (c : CampaignValue) (n : ℕ) (u : Unit) (i amount : ℕ) → get c.units n ≡ Some u
    → with_item c n i amount ≡ item_held c n u i amount
item_is c n u i amount is =
    changed_held (λ h. record h { items = with_amount_of h.items i amount }) c (with_item c n i amount) n refl u is

-- ---- a unit holds another amount of an item, which is booked

-- unit `n`, which is `u`, is set to hold `amount` of item `i`
module _ (w : WorldValue) (c : CampaignValue) (n : ℕ) (u : Unit) (i amount : ℕ) (is : get c.units n ≡ Some u) where
  abbrev more : HoldingValue
  more = record u.holding { items = with_amount_of u.holding.items i amount }

  abbrev with_set : CampaignValue
  with_set = item_held c n u i amount

  may : i < length w.items → amount ≤ holding_limit → MayHave w u.holding → MayHave w more
  may known most old = record {
    limits = record { men = old.limits.men; money = old.limits.money; items = every_amount (λ j a. (1 ≤ a) × (a ≤ holding_limit)) u.holding.items i amount (λ some. (some, most)) old.limits.items };
    name = old.name;
    items = every_amount (λ j a. j < length w.items) u.holding.items i amount (λ some. known) old.items;
    skills = old.skills;
    days = old.days;
  }

  -- `z` is what is booked of the item under entry `e`
  module _ (e : BooksEntry) (z : ℤ) where
    abbrev after : CampaignValue
    after = with_booking with_set e (Item i) z

    -- what is booked is the new amount less the old
    module _ (change : pos amount ≡ pos (amount_of u.holding.items i) +ℤ z) where
      by_test : (j : ℕ) (q : Bool) → eq_by_cmp nat_cmp j i ≡ q → (x y t : ℕ) → x ≡ y
          → y + amount_of u.holding.items j ≡ t + cond q amount (amount_of u.holding.items j)
          → pos x ≡ pos t +ℤ cond (2 + j == 2 + i) z (pos 0)
      by_test j true q x y t a b =
          let j_is : j ≡ i = compared_equal_is_equal i j q in
          let mine : (2 + j == 2 + i) ≡ true = grind (arith, nat_tests) in
          total_moves_with_amount x y t (amount_of u.holding.items j) amount (amount_of u.holding.items i) z a b (ap (amount_of u.holding.items) j_is) change
          ∙ sym (ap (λ p. pos t +ℤ cond p z (pos 0)) mine)
      by_test j false q x y t a b =
          let apart : (j == i) ≡ false = unsigned_ties j i ∙ q in
          let other : (2 + j == 2 + i) ≡ false = grind (arith, nat_tests) in
          total_stays_with_amount x y t (amount_of u.holding.items j) a b
          ∙ sym (ap (λ p. pos t +ℤ cond p z (pos 0)) other)

      total_of : (t : Thing) → total after t ≡ total with_set t
          → total with_set t + unit_amount t u.holding ≡ total c t + unit_amount t more
          → pos (total after t) ≡ pos (total c t) +ℤ booked_for t (Item i) z
      total_of Money a b =
          let other : (0 == 2 + i) ≡ false = grind (arith, nat_tests) in
          total_stays_with_amount (total after Money) (total with_set Money) (total c Money) u.holding.money a b
          ∙ sym (ap (λ p. pos (total c Money) +ℤ cond p z (pos 0)) other)
      total_of People a b =
          let other : (1 == 2 + i) ≡ false = grind (arith, nat_tests) in
          total_stays_with_amount (total after People) (total with_set People) (total c People) u.holding.men a b
          ∙ sym (ap (λ p. pos (total c People) +ℤ cond p z (pos 0)) other)
      total_of (Item j) a b =
          by_test j (eq_by_cmp nat_cmp j i) refl (total after (Item j)) (total with_set (Item j)) (total c (Item j)) a
          (b ∙ ap (λ k. total c (Item j) + k) (amount_after_setting u.holding.items i amount j))

      -- setting a unit's amount of an item of the world to at most 999,999,999, and booking the difference of at most
      -- `limit`, keeps a campaign steady and its books balanced (`LeavesWell`)
      pub set_well : (limit : ℕ) → i < length w.items → amount ≤ holding_limit → IsWithin limit z → IsSteady w c
          → LeavesWell IsSteady (moves_only limit e (Item i)) w c after
      set_well limit known most small steady =
          let has = may known most (may_have w c n u is steady) in
          record {
            leaves_it =
                steady-amount w with_set e (Item i) z (omega (arith, known))
                (steady-new_holding w c n u more is (record { limits = has.limits; name = has.name; items = has.items; skills = has.skills; days = has.days; guard = λ g. g }) steady);
            same_month = same_month_by refl;
            balances = λ old t.
                total_of t (total-booking with_set e (Item i) t z) (total-new_holding w c n u more is t)
                ∙ ap (λ y. y +ℤ booked_for t (Item i) z) (old t) ∙ sym (booked-after_booking c.books e (Item i) z t);
            near = booked-near c.books e (Item i) z limit small;
          }

-- ---- what is used

-- taking `k` off `a`, where `a` has as much, is adding -`k`, as integers (`pos`)
pub taken_off : (a k : ℕ) → k ≤ a → pos (a - k) ≡ pos a +ℤ neg_ℤ (pos k)
taken_off a k l = omega (arith, ints, l)

pub put_to : (a k : ℕ) → pos (a + k) ≡ pos a +ℤ pos k
put_to a k = omega (arith, ints)

-- `k` is how many of item `i` unit `n` uses or makes, and `m` is the number of another unit
module _ (w : WorldValue) (c : CampaignValue) (n i k : ℕ) where
  -- where the unit is there, using `k` of item `i` takes `k` off the unit's amount of it, and books `k` as used
  pub used_is : (u : Unit) → get c.units n ≡ Some u
      → with_used c n i k
      ≡ with_booking (item_held c n u i (amount_of u.holding.items i - k)) entries.Used (Item i) (neg_ℤ (pos k))
  used_is u is =
      unit_there c n _ u is
      ∙ ap (λ d. with_booking d entries.Used (Item i) (neg_ℤ (pos k)))
      (item_is c n u i (amount_of u.holding.items i - k) is)

  -- where the unit is there, making `k` of item `i` adds `k` to the unit's amount of it, and books `k` as made
  pub made_is : (u : Unit) → get c.units n ≡ Some u
      → with_made c n i k
      ≡ with_booking (item_held c n u i (amount_of u.holding.items i + k)) entries.Made (Item i) (pos k)
  made_is u is =
      unit_there c n _ u is
      ∙ ap (λ d. with_booking d entries.Made (Item i) (pos k)) (item_is c n u i (amount_of u.holding.items i + k) is)

  held_within : (u : Unit) → get c.units n ≡ Some u → IsSteady w c → amount_of u.holding.items i ≤ holding_limit
  held_within u is steady = amount_within u.holding i (steady.numbers.units n u is).1

  -- If unit n, which is u, uses k pieces of an item of the world, at most `limit` and at most what it holds, a steady
  -- campaign stays steady and of the same month, and its books balance if they did before. Of the books only the item's
  -- amount under the entry used moves, by at most `limit` (`LeavesWell`).
  pub used_up_to : (limit : ℕ) → k ≤ limit → (u : Unit) → get c.units n ≡ Some u → i < length w.items
      → k ≤ amount_of u.holding.items i → IsSteady w c
      → LeavesWell IsSteady (moves_only limit entries.Used (Item i)) w c (with_used c n i k)
  used_up_to limit most u there known enough steady =
      let a = amount_of u.holding.items i in
      let within = held_within u there steady in
      subst (λ d. LeavesWell IsSteady (moves_only limit entries.Used (Item i)) w c d) (sym (used_is u there))
      (set_well w c n u i (a - k) there entries.Used (neg_ℤ (pos k)) (taken_off a k enough) limit known (omega (arith, within)) (within-neg k limit most) steady)

  -- a use that can be made (`CanUse`) keeps a campaign steady, and books only the item, as used (`LeavesWell`)
  pub used_well : CanUse w c n i k
      → LeavesWell IsSteady (moves_only holding_limit entries.Used (Item i)) w c (with_used c n i k)
  used_well can =
      let within = held_within can.unit can.there can.steady in
      used_up_to holding_limit (omega (arith, within, can.enough)) can.unit can.there can.known can.enough can.steady

  -- making that can be done (`CanMake`) keeps a campaign steady, and books only the item, as made (`LeavesWell`)
  pub made_well : CanMake w c n i k
      → LeavesWell IsSteady (moves_only holding_limit entries.Made (Item i)) w c (with_made c n i k)
  made_well can =
      let u = can.unit in
      let a = amount_of u.holding.items i in
      subst (λ d. LeavesWell IsSteady (moves_only holding_limit entries.Made (Item i)) w c d) (sym (made_is u can.there))
      (set_well w c n u i (a + k) can.there entries.Made (pos k) (put_to a k) holding_limit can.known can.fits (within-pos k holding_limit (omega (arith, can.fits))) can.steady)

  -- after using `k` of item `i` unit `n` holds so much less of it, and is otherwise as it was
  pub used_unit : (u : Unit) → get c.units n ≡ Some u
      → get (with_used c n i k).units n
      ≡ Some (record u { holding = record u.holding { items = with_amount_of u.holding.items i (amount_of u.holding.items i - k) } })
  used_unit u is =
      ap (λ (d : CampaignValue). get d.units n) (used_is u is)
      ∙ get-insert_same c.units n
      (record u { holding = record u.holding { items = with_amount_of u.holding.items i (amount_of u.holding.items i - k) } })

  -- after making `k` of item `i` unit `n` holds so much more of it, and is otherwise as it was
  pub made_unit : (u : Unit) → get c.units n ≡ Some u
      → get (with_made c n i k).units n
      ≡ Some (record u { holding = record u.holding { items = with_amount_of u.holding.items i (amount_of u.holding.items i + k) } })
  made_unit u is =
      ap (λ (d : CampaignValue). get d.units n) (made_is u is)
      ∙ get-insert_same c.units n
      (record u { holding = record u.holding { items = with_amount_of u.holding.items i (amount_of u.holding.items i + k) } })

  item_others : (amount m : ℕ) → m ≢ n → get (with_item c n i amount).units m ≡ get c.units m
  item_others amount m apart =
      change_keeps_others
      (λ u. record u { holding = record u.holding { items = with_amount_of u.holding.items i amount } }) c n m apart

  pub used_others : (m : ℕ) → m ≢ n → get (with_used c n i k).units m ≡ get c.units m
  used_others m apart =
      by_unit c n (λ (d : CampaignValue). get d.units m ≡ get c.units m) _ refl
      (λ u is. item_others (amount_of u.holding.items i - k) m apart)

  pub made_others : (m : ℕ) → m ≢ n → get (with_made c n i k).units m ≡ get c.units m
  made_others m apart =
      by_unit c n (λ (d : CampaignValue). get d.units m ≡ get c.units m) _ refl
      (λ u is. item_others (amount_of u.holding.items i + k) m apart)

-- what a unit holds (`h`), less `k` of item `r`, has no more of any item `i` than before
pub no_more : (h : HoldingValue) (r i k : ℕ)
    → amount_of (with_amount_of h.items r (amount_of h.items r - k)) i ≤ amount_of h.items i
no_more h r i k =
    subst (λ a. a ≤ amount_of h.items i) (sym (amount_after_setting h.items r (amount_of h.items r - k) i))
    (by_test (eq_by_cmp nat_cmp i r) refl)
  where
    less : (a b k : ℕ) → b ≡ a → a - k ≤ b
    less a b k e = omega (arith, e)

    by_test : (q : Bool) → eq_by_cmp nat_cmp i r ≡ q
        → cond q (amount_of h.items r - k) (amount_of h.items i) ≤ amount_of h.items i
    by_test true is =
        less (amount_of h.items r) (amount_of h.items i) k (ap (amount_of h.items) (compared_equal_is_equal r i is))
    by_test false is = omega arith
