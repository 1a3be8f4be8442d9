-- Laws of the effect of one order that books nothing: what it keeps, above all where something goes from one unit to
-- another. Further laws say what follows for a phase that carries out such orders one by one. A unit is no worse off
-- (`IsNoWorse`) with the same faction, region, structure, name and guard flag, and no fewer men, no less money, items
-- or days. A unit may have (`MayHave`) what is within the limits and of the world, under a name that keeps the name
-- rule. In the laws an order makes campaign d of c, and `holds` is a condition that orders keep true.
use Rattle.std.proofs.Common.{◌≡◌, ◌≢◌, ◌==◌, ℕ, ◌+◌, Bool, true, false, Option, Some, None, refl, sym, ap, subst, ◌∙◌, inl, inr, arith}
use Rattle.std.specs.Prelude.{IfSome, if◌then◌else◌}
use Rattle.std.proofs.lemmas.Bool.{cases_eq}
use Rattle.std.proofs.lemmas.Bool.Decides.{nat_tests}
use Rattle.std.proofs.lemmas.Option.{IfSome_then}
use Rattle.std.specs.FinMap.{get}
use Rattle.atl_world.specs.Worlds.{WorldValue}
use Rattle.atl_orders.specs.Bounds.{AreOperandsOf}
use Rattle.atl_records.specs.declared.books.Thing.{Thing}
use Rattle.atl_records.specs.declared.event.EventFault.{EventFault}
use Rattle.atl_records.specs.declared.event.Outcome.{Outcome}
use Rattle.atl_records.specs.declared.records.Unit.{Unit}
use Rattle.atl_campaign.specs.Good.{IsEarly}
use Rattle.atl_records.specs.Holdings.{HoldingValue}
use Rattle.atl_campaign.specs.Lending.{with_holding_at}
use Rattle.atl_campaign.specs.Campaign.{CampaignValue}
use Rattle.atl_records.specs.Amounts.{unit_amount}
use Rattle.atl_campaign.specs.Totals.{total}
use Rattle.atl_world.proofs.EveryLaws.{get-insert_other}
use Rattle.atl_campaign.proofs.HoldingLaws.{total-new_holding}
use Rattle.atl_campaign.proofs.RegionLaws.{get-insert_same}
use Rattle.atl_phase.specs.Meaning.{Condition}
use Rattle.atl_phase.specs.Month.{Aliases}
use Rattle.atl_phase.specs.NoWorse.{IsNoWorse}
use Rattle.atl_phase.specs.OrderEffects.{Affects, IsOwnOrder, IsStillThere, OrderEffect, OrderMeaning}
use Rattle.atl_phase.specs.Outcomes.{fault_or}
use Rattle.atl_phase.specs.PhaseOrders.{Task}
use Rattle.atl_phase.specs.Bounds.{IsOrderly, IsUnitOf, StepsWell, nothing_remaining}
use Rattle.atl_phase.specs.Unbooked.{moves_nothing}
use Rattle.atl_campaign.proofs.HavingLaws.{MayHave, early-having}
use Rattle.atl_phase.proofs.MeaningLaws.{same_month_by}
use Rattle.atl_phase.proofs.NoWorseLaws.{no_worse}
use Rattle.atl_phase.proofs.OrderEffectLaws.{no_worse_is_relation, well_same}
use Rattle.atl_phase.proofs.UnbookedLaws.{other_unit, unbooked_well}
use Rattle.atl_phase.proofs.UnmailedLaws.{LeavesOthersMen}

-- ---- what an order keeps

-- a unit is no worse off after an order of faction f, and has exactly as many men as before if it isn't of that faction
pub record IsLeftAlone (f : ℕ) (before after : Unit) : Type 0 where
  pub better : IsNoWorse before after
  pub men : f ≢ before.faction → after.holding.men ≡ before.holding.men

-- What an order of faction f for unit n keeps, as it makes campaign d of c; `fit` says that the order fits the world.
pub record OrderKeeps (holds : Condition) (fit : Type 0) (w : WorldValue) (c : CampaignValue) (n f : ℕ) (d : CampaignValue) : Type 0 where
  -- if `holds` is true of c and the order fits, `holds` is true of d, month and balance stay, and nothing is booked
  pub well : holds w c → fit → StepsWell holds nothing_remaining w c d
  -- each unit but n is still there, and left alone (`IsLeftAlone`)
  pub others : (k : ℕ) (v : Unit) → get c.units k ≡ Some v → k ≢ n → IsStillThere (IsLeftAlone f) d k v

-- an order of faction f for unit n, which makes campaign d of c; `holds` is what it keeps true, if it fits the world
-- (`fit`)
module _ {holds : Condition} {fit : Type 0} (w : WorldValue) (c : CampaignValue) (n f : ℕ) where
  -- if an order changes no unit but n, and keeps `holds`, month, books and balance where it fits, it leaves the other
  -- units alone besides (`OrderKeeps`)
  pub keeps_others : (d : CampaignValue) → (holds w c → fit → StepsWell holds nothing_remaining w c d)
      → ((k : ℕ) → k ≢ n → get d.units k ≡ get c.units k) → OrderKeeps holds fit w c n f d
  keeps_others d well stay = record {
    well = well;
    others = λ k v there apart. record { unit = v; there = stay k apart ∙ there; is_unaffected = record { better = no_worse v; men = λ other. refl } };
  }

  -- an order that changes nothing leaves all units alone, and keeps `holds`, month, books and balance (`OrderKeeps`)
  pub keeps_all : OrderKeeps holds fit w c n f c
  keeps_all = keeps_others c (λ h fits. well_same w c h) (λ k apart. refl)

  -- an order, with a fault or without, keeps `holds`, month, books and the other units (`OrderKeeps`), if its effect
  -- without a fault, campaign d and outcome o, does
  pub keeps_unless : (fault : Option EventFault) (d : CampaignValue) (o : Outcome)
      → (fault ≡ None → OrderKeeps holds fit w c n f d) → OrderKeeps holds fit w c n f (fault_or c fault (d, o)).0
  keeps_unless (Some fault) d o keeps = keeps_all
  keeps_unless None d o keeps = keeps refl

-- The effect that `step` gives each order for a unit of its writer's faction keeps the other units (`OrderKeeps`). If
-- the operands of the order fit the world, and `holds` is true before, it also keeps `holds`, month, books and balance.
abbrev pub StepKeeps : Condition → OrderMeaning → Type 0
StepKeeps holds step =
    (w : WorldValue) (a : Aliases) (c : CampaignValue) (t : Task) (x : Unit) → IsUnitOf c t x → IfSome (step w a t)
    (λ effect. OrderKeeps holds (AreOperandsOf w t.order_value.operands) w c t.unit x.faction (effect c x).0)

-- a phase is orderly (`IsOrderly`), if each order for a unit of its writer's faction keeps `holds`, month, books and
-- the other units (`StepKeeps`), and the phase passes over a unit's own order that doesn't affect the unit
pub orderly_by : {holds : Condition} {step : OrderMeaning} {affects : Affects} → StepKeeps holds step
    → ((w : WorldValue) (a : Aliases) (t : Task) (n f : ℕ) → IsOwnOrder t n f → (affects t n f → ⊥) → step w a t ≡ None)
    → IsOrderly step holds nothing_remaining moves_nothing affects IsNoWorse
orderly_by {holds} {step} keeps passed = record {
  well = λ w a c t x h fit own. IfSome_then (step w a t) (keeps w a c t x own) (λ effect kept. kept.well h fit.operands);
  unaffected_is_relation = no_worse_is_relation;
  is_unaffected = λ w a c t x h own n u there other. by_step w c t x own n u there (step w a t) (keeps w a c t x own) (λ mine. passed w a t n u.faction mine other);
  bounded = λ w c h e t. omega arith;
}
  where
    by_step : (w : WorldValue) (c : CampaignValue) (t : Task) (x : Unit) → IsUnitOf c t x → (n : ℕ) (u : Unit)
        → get c.units n ≡ Some u
        → (o : Option OrderEffect)
        → IfSome o (λ effect. OrderKeeps holds (AreOperandsOf w t.order_value.operands) w c t.unit x.faction (effect c x).0)
        → (IsOwnOrder t n u.faction → o ≡ None) → IfSome o (λ effect. IsStillThere IsNoWorse (effect c x).0 n u)
    by_step w c t x own n u there None kept passes = tt
    by_step w c t x own n u there (Some effect) kept passes =
        let one = kept.others n u there (other_unit c t x n u own there (λ mine. let none : Some effect ≡ None = passes mine in cc)) in
        record { unit = one.unit; there = one.there; is_unaffected = one.is_unaffected.better }

-- the orders of a phase leave units of other factions their men (`LeavesOthersMen`), if each keeps the other units
-- (`OrderKeeps`)
pub leaves_men : (holds : Condition) (step : OrderMeaning) → StepKeeps holds step → LeavesOthersMen step
leaves_men holds step keeps w a c t x own =
    IfSome_then (step w a t) (keeps w a c t x own) (λ effect kept k v there other.
    let one = kept.others k v there (other_unit c t x k v own there (λ mine. other mine.faction)) in
    record { unit = one.unit; there = one.there; is_unaffected = record { faction = one.is_unaffected.better.faction; men = one.is_unaffected.men (λ same. other (sym own.faction ∙ same)) } })

-- ---- two units, of which one gives and the other gets

-- unit `from` (u) of campaign c gives something to another unit, `to` (v); afterwards u holds h, and v holds k
module _ (c : CampaignValue) (from to : ℕ) (u v : Unit) (h k : HoldingValue) (giver : get c.units from ≡ Some u) (receiver : get c.units to ≡ Some v) (apart : to ≢ from) where
  -- the campaign after the giver has given, and before the receiver has got
  abbrev between : CampaignValue
  between = with_holding_at c from h (Some u)

  -- the campaign in which the giver holds h and the receiver holds k
  abbrev pub moved : CampaignValue
  moved = with_holding_at between to k (Some v)

  receiver_still : get between.units to ≡ Some v
  receiver_still = get-insert_other c.units from to (record u { holding = h }) apart ∙ receiver

  -- Campaign d is c with x, which is h, as what the giver holds. If d has the receiver (v), campaign e is d with y,
  -- which is k, as what the receiver holds. Then e is the campaign `moved`, since `to` isn't `from`.
  pub moved_is : (d e : CampaignValue) (x y : HoldingValue) → x ≡ h → y ≡ k → d ≡ with_holding_at c from x (Some u)
      → (get d.units to ≡ Some v → e ≡ with_holding_at d to y (Some v)) → e ≡ (if to == from then c else moved)
  moved_is d e x y x_is y_is first second =
      let other : (to == from) ≡ false = grind (arith, nat_tests) in
      let made : d ≡ between = first ∙ ap (λ z. with_holding_at c from z (Some u)) x_is in
      rw (second (ap (λ (s : CampaignValue). get s.units to) made ∙ receiver_still), y_is, made, other) refl

  -- giver and receiver together hold as much of each thing with h and k as they held before
  abbrev pub BothHold : Type 0
  BothHold = (t : Thing) → unit_amount t h + unit_amount t k ≡ unit_amount t u.holding + unit_amount t v.holding

  total-moved : WorldValue → BothHold → (t : Thing) → total moved t ≡ total c t
  total-moved w both t =
      sum (total moved t) (total between t) (total c t) (unit_amount t u.holding) (unit_amount t v.holding) (unit_amount t h) (unit_amount t k) (total-new_holding w between to v k receiver_still t) (total-new_holding w c from u h giver t) (both t)
    where
      sum : (a b x p q r s : ℕ) → a + q ≡ b + s → b + p ≡ x + r → r + s ≡ p + q → a ≡ x
      sum a b x p q r s e f g = omega arith

  -- A move from giver to receiver keeps an early campaign early, its month and its balance, and books nothing
  -- (`StepsWell`). For this both may have what they then hold (`MayHave`), and together they hold as much as before.
  -- Neither has its guard flag newly set.
  pub steps-moved : (w : WorldValue) → MayHave w h → (h.guard ≡ true → u.holding.guard ≡ true) → MayHave w k
      → (k.guard ≡ true → v.holding.guard ≡ true) → BothHold → IsEarly w c
      → StepsWell IsEarly nothing_remaining w c moved
  steps-moved w less less_flag more more_flag both early =
      unbooked_well w c moved (early-having w between to v k receiver_still more more_flag (early-having w c from u h giver less less_flag early))
      (same_month_by refl) refl (total-moved w both)

  -- after a move from giver to receiver by an order of faction f each unit but the giver is left alone (`IsLeftAlone`),
  -- if the receiver is
  pub others-moved : (f : ℕ) → IsLeftAlone f v (record v { holding = k }) → (n : ℕ) (x : Unit) → get c.units n ≡ Some x
      → n ≢ from → IsStillThere (IsLeftAlone f) moved n x
  others-moved f is_unaffected n x there other = elim (cases_eq n to) [
    | inl same ↦
        let one : Some v ≡ Some x = sym receiver ∙ ap (get c.units) (sym same) ∙ there in
        let unit : v ≡ x = cc in
        record { unit = record v { holding = k }; there = ap (get moved.units) same ∙ get-insert_same between.units to (record v { holding = k }); is_unaffected = subst (λ y. IsLeftAlone f y (record v { holding = k })) unit is_unaffected }
    | inr away ↦
        record { unit = x; there = get-insert_other between.units to n (record v { holding = k }) away ∙ get-insert_other c.units from n (record u { holding = h }) other ∙ there; is_unaffected = record { better = no_worse x; men = λ apart. refl } }
  ]

-- P holds of the campaign after an order that moves something from unit `from` (u) to `to` (v), if P holds of c before.
-- Where no fault applies and `from` isn't `to`, P must also hold of the campaign in which u holds h, and v holds k.
-- The function `fault` gives the order's fault, by whether `to` is `from` itself; without one the outcome is `o`.
pub moved_cases : (P : CampaignValue → Type 0) (c : CampaignValue) (from to : ℕ) (u v : Unit) (h k : HoldingValue) (fault : Bool → Option EventFault) (o : Outcome)
    → P c
    → (to ≢ from → fault false ≡ None → P (with_holding_at (with_holding_at c from h (Some u)) to k (Some v)))
    → P (fault_or c (fault (to == from)) (if to == from then c else with_holding_at (with_holding_at c from h (Some u)) to k (Some v), o)).0
moved_cases P c from to u v h k fault o same move = by_test (to == from) refl
  where
    by_fault : (b : Bool) → (to == from) ≡ b → (x : Option EventFault) → fault b ≡ x
        → P (fault_or c x (if b then c else with_holding_at (with_holding_at c from h (Some u)) to k (Some v), o)).0
    by_fault b is (Some x) none = same
    by_fault true is None none = same
    by_fault false is None none = let apart : to ≢ from = grind (arith, nat_tests) in move apart none

    by_test : (b : Bool) → (to == from) ≡ b
        → P (fault_or c (fault b) (if b then c else with_holding_at (with_holding_at c from h (Some u)) to k (Some v), o)).0
    by_test b is = by_fault b is (fault b) refl
