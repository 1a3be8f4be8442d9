-- Laws of TRANSFER: the campaign stays early, its books balanced, and no unit but the sender is worse off. A unit is no
-- worse off (`IsNoWorse`) with the same faction, region, structure, name and guard flag, and no fewer men, no less
-- money, items or days. A unit may have (`MayHave`) what is within the limits and of the world, under a name that keeps
-- the name rule.
use Rattle.std.proofs.Common.{◌≡◌, ◌≢◌, ◌==◌, ℕ, ◌+◌, ◌-◌, ◌*◌, ◌/◌, ◌≤◌, ◌<◌, Bool, true, false, not, [], ◌∷◌, ◌++◌, ◌⊎◌, length, Option, Some, None, refl, sym, subst, inl, inr, arith}
use Rattle.std.specs.Prelude.{IfSome, nat_lt, unwrap_or}
use Rattle.std.proofs.lemmas.Bool.Decides.{nat_tests}
use Rattle.std.proofs.lemmas.Bool.{cases_lt}
use Rattle.std.proofs.Math.Nat.{div-le_of_le-mul, le-div_iff_mul-le, mul-le-mul_right, mul-add}
use Rattle.std.specs.Ordering.{nat_cmp}
use Rattle.std.specs.FinMap.{FinMap, get, keys}
use Rattle.atl_world.specs.Worlds.{WorldValue}
use Rattle.atl_world.proofs.GeneralLaws.{is_equal}
use Rattle.atl_lines.specs.declared.order.Operands.TheVariants as operands
use Rattle.atl_orders.specs.Bounds.{AreOperandsOf}
use Rattle.atl_lines.specs.Orders.{OperandsValue}
use Rattle.atl_records.specs.declared.books.Thing.{Thing}
use Rattle.atl_records.specs.declared.books.Thing.TheVariants as things
use Rattle.atl_records.specs.declared.event.EventFault.TheVariants.{NoRoom, NotEnough, NotHere, NotYours}
use Rattle.atl_records.specs.declared.event.Outcome.TheVariants.{Done}
use Rattle.atl_records.specs.declared.records.Unit.{Unit}
use Rattle.atl_world.specs.Every.{Every}
use Rattle.atl_campaign.specs.Good.{IsEarly}
use Rattle.atl_records.specs.Holdings.{HoldingValue, amount_of}
use Rattle.atl_campaign.specs.Lending.{with_holding_at}
use Rattle.atl_records.specs.Limits.{men_limit, most_days}
use Rattle.atl_campaign.specs.Campaign.{CampaignValue}
use Rattle.atl_records.specs.Amounts.{unit_amount}
use Rattle.atl_phase.specs.NoWorse.{IsNoWorse}
use Rattle.atl_phase.specs.PhaseOrders.{unit_of}
use Rattle.atl_phase.specs.OrderEffects.{IsOwnOrder}
use Rattle.atl_phase.specs.Bounds.{IsOrderly, nothing_remaining}
use Rattle.atl_phase.specs.Unbooked.{moves_nothing}
use Rattle.atl_phase.proofs.OutcomeLaws.{none_fits, not_apart, not_less}
use Rattle.atl_campaign.proofs.HavingLaws.{MayHave, may_have}
use Rattle.atl_instant.specs.Transfer.{days_going, going_of, raised_of, staying_of, transfer, transfer_effect, transfer_fault, transfer_step, transfer_to, after_sending, after_receiving}
use Rattle.atl_instant.proofs.AmountsForLaws.{each_said}
use Rattle.atl_instant.proofs.DaysLaws.{days_go_with_men, none_go}
use Rattle.atl_instant.proofs.EffectLaws.{OrderKeeps, StepKeeps, keeps_all, moved_cases, orderly_by, others-moved, steps-moved}

-- sender (u) and receiver (v) are of one faction, the sender has n men, and the receiver room for n more: what holds
-- where a transfer to another unit has no fault
record CanSend (n : ℕ) (u v : Unit) : Type 0 where
  pub own : v.faction ≡ u.faction
  pub enough : n ≤ u.holding.men
  pub room : v.holding.men + n ≤ men_limit

can_send : (n : ℕ) (u v : Unit) → transfer_fault n false u (Some v) ≡ None → CanSend n u v
can_send n u v is =
    let other = not (v.faction == u.faction) in
    let little = nat_lt u.holding.men n in
    let full = nat_lt men_limit (v.holding.men + n) in
    let one = none_fits (not (v.region == u.region)) NotHere ((other, NotYours) ∷ (little, NotEnough) ∷ (full, NoRoom) ∷ []) is in
    let two = none_fits other NotYours ((little, NotEnough) ∷ (full, NoRoom) ∷ []) one.1 in
    let three = none_fits little NotEnough ((full, NoRoom) ∷ []) two.1 in
    record {
      own = not_apart v.faction u.faction two.0;
      enough = not_less u.holding.men n three.0;
      room = not_less men_limit (v.holding.men + n) (none_fits full NoRoom [] three.1).0;
    }

-- ---- days

-- if each skill that a map `all` lists has from 1 to `most` days, every skill has at most `most`; one not listed has 0
pub days_within : (all : FinMap nat_cmp ℕ) (most skill : ℕ) → Every (λ s days. (1 ≤ days) × (days ≤ most)) all
    → amount_of all skill ≤ most
days_within all most skill each = by_option (get all skill) refl
  where
    by_option : (o : Option ℕ) → get all skill ≡ o → unwrap_or o 0 ≤ most
    by_option None e = omega arith
    by_option (Some days) e = (each skill days e).1

-- if `men` men have together at most 450 days for each, so have the n of them who go, with the days that go with them
pub going_most : (n men days : ℕ) → days ≤ most_days * men → days_going n men days ≤ most_days * n
going_most n men days most =
    div-le_of_le-mul men (subst (λ x. days * n ≤ x) (turned most_days men n) (mul-le-mul_right n most))
  where
    turned : (k m l : ℕ) → (k * m) * l ≡ m * (k * l)
    turned k m l = grind arith

-- if s + n men have at most k days each, and n of them go with their part, at most k days for each of the s others stay
rest_within : (k s n d : ℕ) → 0 < s + n → d ≤ k * (s + n) → d - d * n / (s + n) ≤ k * s
rest_within k s n d some most = elim (cases_lt (k * s) d) [
  | inl more ↦
      let y = d - k * s in
      let whole : k * (s + n) ≡ k * s + k * n = mul-add k s n in
      let is : d ≡ k * s + y = omega arith in
      let few : y ≤ k * n = omega arith in
      let times : y * (s + n) ≤ d * n = subst (λ x. y * (s + n) ≤ x * n) (sym is) (scaled y few) in
      let least : y ≤ d * n / (s + n) = (le-div_iff_mul-le some).1 times in
      omega (arith, least)
  | inr within ↦ let few : d ≤ k * s = within in omega (arith, few)
]
  where
    turned : (k s n y : ℕ) → (k * s + y) * n ≡ (k * n) * s + y * n
    turned k s n y = grind arith

    sum : (a b c : ℕ) → a ≤ b → a + c ≤ b + c
    sum a b c l = omega arith

    scaled : (y : ℕ) → y ≤ k * n → y * (s + n) ≤ (k * s + y) * n
    scaled y few = rw (turned k s n y, mul-add y s n) (sum (y * s) ((k * n) * s) (y * n) (mul-le-mul_right s few))

-- Suppose that `men` men have together at least one day, and at most 450 for each. Then the days that stay as n of them
-- go are at most 450 for each who stays.
pub staying_days_within : (n men days : ℕ) → n ≤ men → 1 ≤ days → days ≤ most_days * men
    → days - days_going n men days ≤ most_days * (men - n)
staying_days_within n men days fewer some most =
    let whole : (men - n) + n ≡ men = omega arith in
    let men_there : 0 < men = some_men men days some most in
    subst (λ m. days - days * n / m ≤ most_days * (men - n)) whole (rest_within most_days (men - n) n days (omega arith) (subst (λ m. days ≤ most_days * m) (sym whole) most))
  where
    some_men : (men days : ℕ) → 1 ≤ days → days ≤ most_days * men → 0 < men
    some_men men days some most = omega arith

-- ---- what both may hold

known_skill : (w : WorldValue) (h : HoldingValue) (s : ℕ) → MayHave w h → 1 ≤ amount_of h.days s → s < length w.skills
known_skill w h s may some = by_option (get h.days s) refl some
  where
    by_option : (o : Option ℕ) → get h.days s ≡ o → 1 ≤ unwrap_or o 0 → s < length w.skills
    by_option None there l = absurd (omega (arith, l))
    by_option (Some d) there l = may.skills s d there

days_may : (w : WorldValue) (h : HoldingValue) (s : ℕ) → MayHave w h → amount_of h.days s ≤ most_days * h.men
days_may w h s may = days_within h.days (most_days * h.men) s may.days

-- a unit with at least n men, which holds h, may have (`MayHave`) what it holds after n of them went, if it may have
-- what it holds before
pub may_have_fewer : (w : WorldValue) (n : ℕ) (h : HoldingValue) → n ≤ h.men → MayHave w h
    → MayHave w (after_sending n h)
may_have_fewer w n h fewer may = record {
  limits = record { men = omega (arith, may.limits.men); money = may.limits.money; items = may.limits.items };
  name = may.name;
  items = may.items;
  skills = λ s d there. let (some, is) = each_said (staying_of n h) (keys h.days) s d there in known_skill w h s may (had (amount_of h.days s) (going_of n h s) d is some);
  days = λ s d there.
      let (some, is) = each_said (staying_of n h) (keys h.days) s d there in
      (some, subst (λ x. x ≤ most_days * (h.men - n)) (sym is) (staying_days_within n h.men (amount_of h.days s) fewer (had (amount_of h.days s) (going_of n h s) d is some) (days_may w h s may)));
}
  where
    had : (a g d : ℕ) → d ≡ a - g → 1 ≤ d → 1 ≤ a
    had a g d is some = omega (arith, is, some)

-- A unit that holds h may have (`MayHave`) what it holds after n men of another unit, which holds `other`, came. For
-- this both may have what they hold before, and there is room for the men.
pub may_have_more : (w : WorldValue) (n : ℕ) (other h : HoldingValue) → h.men + n ≤ men_limit → MayHave w other
    → MayHave w h → MayHave w (after_receiving n other h)
may_have_more w n other h room from may = record {
  limits = record { men = room; money = may.limits.money; items = may.limits.items };
  name = may.name;
  items = may.items;
  skills = λ s d there. let (some, is) = each_said (raised_of n other h) (keys h.days ++ keys other.days) s d there in known s (some_of (amount_of h.days s) (going_of n other s) d is some);
  days = λ s d there.
      let (some, is) = each_said (raised_of n other h) (keys h.days ++ keys other.days) s d there in
      (some, subst (λ x. x ≤ most_days * (h.men + n)) (sym is) (sum_of_days_within most_days h.men n (amount_of h.days s) (going_of n other s) (days_may w h s may) (going_most n other.men (amount_of other.days s) (days_may w other s from))));
}
  where
    some_of : (a g d : ℕ) → d ≡ a + g → 1 ≤ d → (1 ≤ a) ⊎ (1 ≤ g)
    some_of a g d is some = elim (cases_lt 0 a) [
      | inl l ↦ inl (omega (arith, l))
      | inr l ↦ inr (omega (arith, l, is, some))
    ]

    came : (s : ℕ) → 1 ≤ going_of n other s → (b : Bool) → (amount_of other.days s == 0) ≡ b
        → 1 ≤ amount_of other.days s
    came s some true none = let zero = none_go n other s (is_equal (amount_of other.days s) 0 none) in absurd (omega (arith, some, zero))
    came s some false there = grind (arith, nat_tests)

    known : (s : ℕ) → (1 ≤ amount_of h.days s) ⊎ (1 ≤ going_of n other s) → s < length w.skills
    known s (inl some) = known_skill w h s may some
    known s (inr some) = known_skill w other s from (came s some (amount_of other.days s == 0) refl)

    sum_of_days_within : (k m n a b : ℕ) → a ≤ k * m → b ≤ k * n → a + b ≤ k * (m + n)
    sum_of_days_within k m n a b f g = rw (mul-add k m n) (omega (arith, f, g))

-- sender (who holds h) and receiver (k) together hold as much of each thing after n men went as before, if the sender
-- had at least n men
pub transfer_keeps_sum : (n : ℕ) (h k : HoldingValue) → n ≤ h.men → (t : Thing)
    → unit_amount t (after_sending n h) + unit_amount t (after_receiving n h k) ≡ unit_amount t h + unit_amount t k
transfer_keeps_sum n h k l things.Money = refl
transfer_keeps_sum n h k l things.People = omega (arith, l)
transfer_keeps_sum n h k l (things.Item i) = refl

-- ---- no worse off

-- a unit is no worse off after it received n men of another unit with their days
pub men_receiver_no_worse : (n : ℕ) (other : HoldingValue) (v : Unit)
    → IsNoWorse v (record v { holding = after_receiving n other v.holding })
men_receiver_no_worse n other v = record {
  faction = refl;
  region = refl;
  structure = refl;
  name = refl;
  guard = refl;
  men = omega arith;
  money = omega arith;
  items = λ i. omega arith;
  days = λ s. subst (λ x. amount_of v.holding.days s ≤ x) (sym (days_go_with_men n other v.holding s).come) (omega arith);
}

-- ---- one order

-- unit `from` (u) of campaign c sends n men to unit `to`; `fit` says that the order fits the world
module _ {fit : Type 0} (w : WorldValue) (c : CampaignValue) (from to n : ℕ) (u : Unit) (sender : get c.units from ≡ Some u) where
  moved_kept : (v : Unit) → get c.units to ≡ Some v → to ≢ from → CanSend n u v
      → OrderKeeps IsEarly fit w c from u.faction (with_holding_at (with_holding_at c from (after_sending n u.holding) (Some u)) to (after_receiving n u.holding v.holding) (Some v))
  moved_kept v receiver apart can = record {
    well = λ early fits.
        let from_may = may_have w c from u sender early.steady in
        steps-moved c from to u v (after_sending n u.holding) (after_receiving n u.holding v.holding) sender receiver apart w (may_have_fewer w n u.holding can.enough from_may) (λ g. g)
        (may_have_more w n u.holding v.holding can.room from_may (may_have w c to v receiver early.steady)) (λ g. g) (transfer_keeps_sum n u.holding v.holding can.enough) early;
    others =
        others-moved c from to u v (after_sending n u.holding) (after_receiving n u.holding v.holding) sender receiver apart u.faction
        (record { better = men_receiver_no_worse n u.holding v; men = λ other. absurd (other (sym can.own)) });
  }

  transfer_kept : OrderKeeps IsEarly fit w c from u.faction (transfer from to n c u).0
  unfolding transfer
  transfer_kept = by_receiver (get c.units to) refl
    where
      by_receiver : (o : Option Unit) → get c.units to ≡ o
          → OrderKeeps IsEarly fit w c from u.faction (transfer_to c from to n u o).0
      by_receiver None is = keeps_all w c from u.faction
      by_receiver (Some v) receiver =
          moved_cases (OrderKeeps IsEarly fit w c from u.faction) c from to u v (after_sending n u.holding) (after_receiving n u.holding v.holding)
          (λ itself. transfer_fault n itself u (Some v)) (Done n) (keeps_all w c from u.faction) (λ apart none. moved_kept v receiver apart (can_send n u v none))

-- ---- the phase

-- Each order of TRANSFER for a unit of its writer's faction leaves other units no worse off, and those of other
-- factions exactly their men. If it can be read with the world, it keeps an early campaign early, its month and its
-- balance, and books nothing (`StepKeeps`).
pub transfer_keeps : StepKeeps IsEarly transfer_step
transfer_keeps w a c t x own = by_operands t.order_value.operands
  where
    by_operands : (o : OperandsValue)
        → IfSome (transfer_effect a t.faction t.unit o) (λ effect. OrderKeeps IsEarly (AreOperandsOf w o) w c t.unit x.faction (effect c x).0)
    by_operands (operands.UnitAndNumber to n) = transfer_kept w c t.unit (unit_of a t.faction to) n x own.there
    by_operands other = tt

-- In an early campaign a TRANSFER for a unit of its writer's faction leaves every other unit no worse off. If it can be
-- read with the world, the campaign stays early, in its month and in balance, and nothing is booked.
pub transfer_orderly : IsOrderly transfer_step IsEarly nothing_remaining moves_nothing IsOwnOrder IsNoWorse
transfer_orderly = orderly_by transfer_keeps (λ w a t n f own other. absurd (other own))
