-- Laws of GIVE and PAY: the campaign stays early, its books balanced, and no unit but the giver is worse off. A unit is
-- no worse off (`IsNoWorse`) with the same faction, region, structure, name and guard flag, and no fewer men, no less
-- money, items or days. A unit may have (`MayHave`) what is within the limits and of the world, under a name that keeps
-- the name rule.
use Rattle.std.proofs.Common.{◌≡◌, ◌≢◌, ◌==◌, ℕ, ◌+◌, ◌-◌, ◌≤◌, ◌<◌, Bool, true, false, cond, not, [], ◌∷◌, length, Option, Some, None, refl, sym, ap, subst, ◌∙◌, arith}
use Rattle.std.specs.Prelude.{⊤, IfSome, nat_lt}
use Rattle.std.specs.Ordering.{nat_cmp, eq_by_cmp}
use Rattle.std.specs.FinMap.{get}
use Rattle.atl_world.specs.Worlds.{WorldValue}
use Rattle.atl_lines.specs.declared.order.Operands.TheVariants as operands
use Rattle.atl_orders.specs.Bounds.{AreOperandsOf}
use Rattle.atl_lines.specs.Orders.{OperandsValue}
use Rattle.atl_records.specs.declared.books.Thing.{Thing}
use Rattle.atl_records.specs.declared.books.Thing.TheVariants as things
use Rattle.atl_records.specs.declared.event.EventFault.TheVariants.{NoRoom, NotEnough, NotHere}
use Rattle.atl_records.specs.declared.event.Outcome.TheVariants.{Done}
use Rattle.atl_records.specs.declared.records.Unit.{Unit}
use Rattle.atl_campaign.specs.Good.{IsEarly}
use Rattle.atl_records.specs.Holdings.{HoldingValue, IsHolding, amount_of, with_amount_of}
use Rattle.atl_campaign.specs.Lending.{with_holding_at}
use Rattle.atl_records.specs.Limits.{holding_limit}
use Rattle.atl_campaign.specs.Campaign.{CampaignValue}
use Rattle.atl_records.specs.Amounts.{unit_amount}
use Rattle.atl_phase.specs.NoWorse.{IsNoWorse}
use Rattle.atl_phase.specs.PhaseOrders.{unit_of}
use Rattle.atl_phase.specs.OrderEffects.{IsOwnOrder}
use Rattle.atl_phase.specs.Bounds.{IsOrderly, nothing_remaining}
use Rattle.atl_phase.specs.Unbooked.{moves_nothing}
use Rattle.atl_phase.proofs.OutcomeLaws.{none_fits, not_less}
use Rattle.atl_records.proofs.HoldingLaws.{compared_equal_is_equal, amount_within, every_amount, amount_after_setting}
use Rattle.atl_campaign.proofs.HavingLaws.{MayHave, may_have}
use Rattle.atl_instant.specs.Give.{give, give_effect, give_fault, give_step, give_to, held_of, with_held_of}
use Rattle.atl_instant.specs.declared.give.Gift.{Gift}
use Rattle.atl_instant.specs.declared.give.Gift.TheVariants.{Item, Money}
use Rattle.atl_instant.proofs.EffectLaws.{OrderKeeps, StepKeeps, keeps_all, moved_cases, orderly_by, others-moved, steps-moved}

-- the giver (u) holds n of the gift, and the receiver (v) has room for n more: what holds where a gift to another unit
-- has no fault
record CanGive (gift : Gift) (n : ℕ) (u v : Unit) : Type 0 where
  pub enough : n ≤ held_of gift u.holding
  pub room : held_of gift v.holding + n ≤ holding_limit

can_give : (gift : Gift) (n : ℕ) (u v : Unit) → give_fault gift n false u (Some v) ≡ None → CanGive gift n u v
can_give gift n u v is =
    let little = nat_lt (held_of gift u.holding) n in
    let full = nat_lt holding_limit (held_of gift v.holding + n) in
    let one = none_fits (not (v.region == u.region)) NotHere ((little, NotEnough) ∷ (full, NoRoom) ∷ []) is in
    let two = none_fits little NotEnough ((full, NoRoom) ∷ []) one.1 in
    record { enough = not_less (held_of gift u.holding) n two.0; room = not_less holding_limit (held_of gift v.holding + n) (none_fits full NoRoom [] two.1).0 }

-- a unit that holds h, which is within the limits of a unit (`IsHolding`), holds at most 999,999,999 of the gift
pub held_within : (gift : Gift) (h : HoldingValue) → IsHolding h → held_of gift h ≤ holding_limit
held_within Money h is = is.money
held_within (Item i) h is = amount_within h i is

-- ---- what both hold

-- the gift is money, or an item of the world
abbrev pub IsKnown : WorldValue → Gift → Type 0
IsKnown w Money = ⊤
IsKnown w (Item i) = i < length w.items

-- A unit that may have what it holds, h, may also have (`MayHave`) any amount of the gift up to 999,999,999. For this
-- the gift is money, or an item of the world (`IsKnown`).
pub may_have_of : (w : WorldValue) (h : HoldingValue) (gift : Gift) (amount : ℕ) → IsKnown w gift
    → amount ≤ holding_limit → MayHave w h → MayHave w (with_held_of gift h amount)
may_have_of w h Money amount known most may = record {
  limits = record { men = may.limits.men; money = most; items = may.limits.items };
  name = may.name;
  items = may.items;
  skills = may.skills;
  days = may.days;
}
may_have_of w h (Item i) amount known most may = record {
  limits = record { men = may.limits.men; money = may.limits.money; items = every_amount (λ j a. (1 ≤ a) × (a ≤ holding_limit)) h.items i amount (λ some. (some, most)) may.limits.items };
  name = may.name;
  items = every_amount (λ j a. j < length w.items) h.items i amount (λ some. known) may.items;
  skills = may.skills;
  days = may.days;
}

gift_leaves_flag_and_men : (gift : Gift) (h : HoldingValue) (amount : ℕ)
    → ((with_held_of gift h amount).guard ≡ h.guard) × ((with_held_of gift h amount).men ≡ h.men)
gift_leaves_flag_and_men Money h amount = (refl, refl)
gift_leaves_flag_and_men (Item i) h amount = (refl, refl)

-- giver (who holds h) and receiver (k) together hold as much of each thing after a gift of n as before, if the giver
-- has what it gives
pub gift_keeps_sum : (gift : Gift) (n : ℕ) (h k : HoldingValue) → n ≤ held_of gift h → (t : Thing)
    → unit_amount t (with_held_of gift h (held_of gift h - n)) + unit_amount t (with_held_of gift k (held_of gift k + n))
    ≡ unit_amount t h + unit_amount t k
gift_keeps_sum Money n h k l things.Money = omega (arith, l)
gift_keeps_sum Money n h k l things.People = refl
gift_keeps_sum Money n h k l (things.Item j) = refl
gift_keeps_sum (Item i) n h k l things.Money = refl
gift_keeps_sum (Item i) n h k l things.People = refl
gift_keeps_sum (Item i) n h k l (things.Item j) =
    let a = amount_of h.items i in
    let b = amount_of k.items i in
    let less = amount_after_setting h.items i (a - n) j in
    let more = amount_after_setting k.items i (b + n) j in
    ap (λ x. x + amount_of (with_amount_of k.items i (b + n)) j) less
    ∙ ap (λ x. cond (eq_by_cmp nat_cmp j i) (a - n) (amount_of h.items j) + x) more
    ∙ by_test (eq_by_cmp nat_cmp j i) refl
  where
    sum : (a b n : ℕ) → n ≤ a → (a - n) + (b + n) ≡ a + b
    sum a b n l = omega arith

    by_test : (q : Bool) → eq_by_cmp nat_cmp j i ≡ q
        → cond q (amount_of h.items i - n) (amount_of h.items j) + cond q (amount_of k.items i + n) (amount_of k.items j)
        ≡ amount_of h.items j + amount_of k.items j
    by_test true is =
        sum (amount_of h.items i) (amount_of k.items i) n l
        ∙ ap (λ x. amount_of h.items x + amount_of k.items x) (sym (compared_equal_is_equal i j is))
    by_test false is = refl

-- the receiver of a gift is no worse off with n more of it
pub gift_receiver_no_worse : (gift : Gift) (n : ℕ) (v : Unit)
    → IsNoWorse v (record v { holding = with_held_of gift v.holding (held_of gift v.holding + n) })
gift_receiver_no_worse Money n v =
    record { faction = refl; region = refl; structure = refl; name = refl; guard = refl; men = omega arith; money = omega arith; items = λ i. omega arith; days = λ s. omega arith }
gift_receiver_no_worse (Item i) n v =
    record { faction = refl; region = refl; structure = refl; name = refl; guard = refl; men = omega arith; money = omega arith; items = λ j. more j; days = λ s. omega arith }
  where
    here : (x y n : ℕ) → x ≡ y → x ≤ y + n
    here x y n is = omega arith

    by_test : (j : ℕ) (q : Bool) → eq_by_cmp nat_cmp j i ≡ q
        → amount_of v.holding.items j ≤ cond q (amount_of v.holding.items i + n) (amount_of v.holding.items j)
    by_test j true is =
        here (amount_of v.holding.items j) (amount_of v.holding.items i) n
        (ap (amount_of v.holding.items) (compared_equal_is_equal i j is))
    by_test j false is = omega arith

    more : (j : ℕ)
        → amount_of v.holding.items j ≤ amount_of (with_amount_of v.holding.items i (amount_of v.holding.items i + n)) j
    more j =
        subst (λ x. amount_of v.holding.items j ≤ x)
        (sym (amount_after_setting v.holding.items i (amount_of v.holding.items i + n) j))
        (by_test j (eq_by_cmp nat_cmp j i) refl)

-- ---- one order

-- unit `from` (u) of campaign c gives n of the gift to unit `to`; if the order fits the world (`fit`), the gift is
-- money, or an item of the world (`known`)
module _ {fit : Type 0} (w : WorldValue) (c : CampaignValue) (from to : ℕ) (gift : Gift) (n : ℕ) (u : Unit) (giver : get c.units from ≡ Some u) (known : fit → IsKnown w gift) where
  moved_kept : (v : Unit) → get c.units to ≡ Some v → to ≢ from → CanGive gift n u v
      → OrderKeeps IsEarly fit w c from u.faction (with_holding_at (with_holding_at c from (with_held_of gift u.holding (held_of gift u.holding - n)) (Some u)) to (with_held_of gift v.holding (held_of gift v.holding + n)) (Some v))
  moved_kept v receiver apart can =
      let left = held_of gift u.holding - n in
      let more = held_of gift v.holding + n in
      record {
        well = λ early fits.
            let least = held_within gift u.holding (early.steady.numbers.units from u giver).1 in
            steps-moved c from to u v (with_held_of gift u.holding left) (with_held_of gift v.holding more) giver receiver apart w
            (may_have_of w u.holding gift left (known fits) (omega (arith, least)) (may_have w c from u giver early.steady)) (λ g. sym (gift_leaves_flag_and_men gift u.holding left).0 ∙ g)
            (may_have_of w v.holding gift more (known fits) can.room (may_have w c to v receiver early.steady)) (λ g. sym (gift_leaves_flag_and_men gift v.holding more).0 ∙ g)
            (gift_keeps_sum gift n u.holding v.holding can.enough) early;
        others =
            others-moved c from to u v (with_held_of gift u.holding left) (with_held_of gift v.holding more) giver receiver apart u.faction
            (record { better = gift_receiver_no_worse gift n v; men = λ other. (gift_leaves_flag_and_men gift v.holding more).1 });
      }

  gift_kept : OrderKeeps IsEarly fit w c from u.faction (give from to gift n c u).0
  unfolding give
  gift_kept = by_receiver (get c.units to) refl
    where
      by_receiver : (o : Option Unit) → get c.units to ≡ o
          → OrderKeeps IsEarly fit w c from u.faction (give_to c from to gift n u o).0
      by_receiver None is = keeps_all w c from u.faction
      by_receiver (Some v) receiver =
          moved_cases (OrderKeeps IsEarly fit w c from u.faction) c from to u v (with_held_of gift u.holding (held_of gift u.holding - n)) (with_held_of gift v.holding (held_of gift v.holding + n))
          (λ itself. give_fault gift n itself u (Some v)) (Done n) (keeps_all w c from u.faction) (λ apart none. moved_kept v receiver apart (can_give gift n u v none))

-- ---- the phase

-- Each order of GIVE or PAY for a unit of its writer's faction leaves other units no worse off, and those of other
-- factions exactly their men. If it can be read with the world, it keeps an early campaign early, its month and its
-- balance, and books nothing (`StepKeeps`).
pub give_keeps : StepKeeps IsEarly give_step
give_keeps w a c t x own = by_operands t.order_value.operands
  where
    by_operands : (o : OperandsValue)
        → IfSome (give_effect a t.faction t.unit o) (λ effect. OrderKeeps IsEarly (AreOperandsOf w o) w c t.unit x.faction (effect c x).0)
    by_operands (operands.UnitAndGoods to n item) =
        gift_kept w c t.unit (unit_of a t.faction to) (Item item) n x own.there (λ fit. fit.2)
    by_operands (operands.UnitAndNumber to n) =
        gift_kept w c t.unit (unit_of a t.faction to) Money n x own.there (λ fit. tt)
    by_operands other = tt

-- In an early campaign an order of GIVE or PAY for a unit of its writer's faction leaves every other unit no worse off.
-- If it can be read with the world, the campaign stays early, in its month and in balance, and nothing is booked.
pub give_orderly : IsOrderly give_step IsEarly nothing_remaining moves_nothing IsOwnOrder IsNoWorse
give_orderly = orderly_by give_keeps (λ w a t n f own other. absurd (other own))
