-- Laws of a unit with another name or guard flag, and of GUARD 1: the campaign stays steady, and the guards of each
-- region stay of one faction. A unit is no worse off (`IsNoWorse`) with the same faction, region, structure, name and
-- guard flag, and no fewer men, no less money, items or days. A unit may have (`MayHave`) what is within the limits and
-- of the world, under a name that keeps the name rule. In the laws campaign c is before a change, and d after it.
use Rattle.std.proofs.Common.{◌≡◌, ◌==◌, ℕ, ◌+◌, Bool, true, false, not, ◌&&◌, ◌||◌, List, [], ◌∷◌, Some, None, refl, sym, ap, subst, ◌∙◌, inl, inr, arith}
use Rattle.std.specs.Prelude.{IfSome, IsTrue, nat_lt}
use Rattle.std.specs.List.{list_any}
use Rattle.std.proofs.lemmas.Bool.Decides.{nat_tests}
use Rattle.std.specs.FinMap.{get, insert}
use Rattle.atl_world.specs.Names.{name_ok}
use Rattle.atl_world.specs.Worlds.{WorldValue}
use Rattle.atl_lines.specs.declared.order.Operands.TheVariants as operands
use Rattle.atl_orders.specs.Bounds.{AreOperandsOf}
use Rattle.atl_lines.specs.Orders.{OperandsValue}
use Rattle.atl_campaign.specs.Covers.{MarksChanges}
use Rattle.atl_records.specs.declared.books.Thing.{Thing}
use Rattle.atl_records.specs.declared.books.Thing.TheVariants.{Item, Money, People}
use Rattle.atl_records.specs.declared.event.EventFault.TheVariants.{Guarded, NoMen}
use Rattle.atl_records.specs.declared.event.Outcome.TheVariants.{Done}
use Rattle.atl_records.specs.declared.records.Unit.{Unit}
use Rattle.atl_world.specs.Every.{Every}
use Rattle.atl_campaign.specs.Good.{AreOfOneFaction, IsSteady, guards}
use Rattle.atl_records.specs.Holdings.{HoldingValue}
use Rattle.atl_campaign.specs.Lending.{with_holding_at}
use Rattle.atl_campaign.specs.Marking.{mark_unit_row}
use Rattle.atl_campaign.specs.Campaign.{MarkedCampaign, CampaignValue, numbers_in_region, with_guard}
use Rattle.atl_records.specs.Amounts.{unit_amount}
use Rattle.atl_campaign.specs.Totals.{total}
use Rattle.atl_world.proofs.EveryLaws.{every-insert}
use Rattle.atl_campaign.proofs.HoldingLaws.{marks-unit_row, total-new_holding}
use Rattle.atl_campaign.proofs.NumberListLaws.{IsListed, passing_listed}
use Rattle.atl_phase.specs.NoWorse.{IsNoWorse}
use Rattle.atl_phase.specs.Bounds.{IsOrderly, StepsWell, nothing_remaining}
use Rattle.atl_phase.specs.Unbooked.{moves_nothing}
use Rattle.atl_phase.proofs.MeaningLaws.{same_month_by}
use Rattle.atl_campaign.proofs.HavingLaws.{MayHave, may_have, steady-having}
use Rattle.atl_phase.proofs.OutcomeLaws.{none_fits, not_apart}
use Rattle.atl_phase.proofs.ChangeLaws.{changed_held, change_keeps_others}
use Rattle.atl_phase.proofs.MarkLaws.{marks_by}
use Rattle.atl_phase.proofs.UnbookedLaws.{stays_well}
use Rattle.atl_instant.specs.Guard.{guard, guard_affects, guard_effect, guard_fault, guard_step, guards_against, is_guarded_against}
use Rattle.atl_instant.proofs.EffectLaws.{OrderKeeps, StepKeeps, keeps_others, keeps_unless, orderly_by}

-- ---- other guards of the region

each_fails_test : (p : ℕ → Bool) (ns : List ℕ) → list_any p ns ≡ false → (k : ℕ) → IsListed k ns → p k ≡ false
each_fails_test p [] is k listed = absurd listed
each_fails_test p (n ∷ ns) is k listed = by_test (p n) refl is (λ e h. each_fails_test p ns e k h) listed
  where
    by_test : (b : Bool) → p n ≡ b → (b || list_any p ns) ≡ false
        → (list_any p ns ≡ false → IsListed k ns → p k ≡ false) → IsListed k (n ∷ ns) → p k ≡ false
    by_test true t e rest h = cc
    by_test false t e rest (inl same) = ap p same ∙ t
    by_test false t e rest (inr h) = rest e h

-- if no faction but the given one guards a region, each unit that guards the region is of the given faction
pub own_guards : (c : CampaignValue) (region faction : ℕ) → is_guarded_against c region faction ≡ false
    → Every (λ m v. guards v ≡ true → v.region ≡ region → v.faction ≡ faction) c.units
own_guards c region faction none m v there guarding here =
    let inside : (v.region == region) ≡ true = grind (arith, nat_tests) in
    let listed = passing_listed (λ (x : Unit). x.region == region) c.units m v there inside in
    let no : guards_against faction (get c.units m) ≡ false = each_fails_test (λ n. guards_against faction (get c.units n)) (numbers_in_region region c.units) none m listed in
    not_apart v.faction faction (second (guards v) (not (v.faction == faction)) guarding (sym (ap (guards_against faction) there) ∙ no))
  where
    second : (a b : Bool) → a ≡ true → (a && b) ≡ false → b ≡ false
    second true b t e = e
    second false b t e = cc

-- ---- a unit with another name and guard flag

-- unit n (u) of campaign c, and the guard flag and name (its bytes) that the unit gets
module _ (w : WorldValue) (c : CampaignValue) (n : ℕ) (u : Unit) (is : get c.units n ≡ Some u) (name : List ℕ) (flag : Bool) where
  -- what unit n holds, with the name `name` and the guard flag `flag` in place of its own
  abbrev pub labelled : HoldingValue
  labelled = record u.holding { name = name; guard = flag }

  -- in a steady campaign a unit may have another guard flag, and another name that follows the name rule (`MayHave`)
  pub may_label : IsTrue (name_ok name) → IsSteady w c → MayHave w labelled
  may_label ok steady =
      let may = may_have w c n u is steady in
      record { limits = record { men = may.limits.men; money = may.limits.money; items = may.limits.items }; name = ok; items = may.items; skills = may.skills; days = may.days }

  -- the total of each thing is the same when unit n has another name and guard flag
  pub total-labelled : (t : Thing) → total (with_holding_at c n labelled (Some u)) t ≡ total c t
  total-labelled t =
      equal_by_sums (total (with_holding_at c n labelled (Some u)) t) (total c t) (unit_amount t u.holding)
      (unit_amount t labelled) (total-new_holding w c n u labelled is t) (held_same t)
    where
      held_same : (s : Thing) → unit_amount s labelled ≡ unit_amount s u.holding
      held_same Money = refl
      held_same People = refl
      held_same (Item i) = refl

      equal_by_sums : (a b x y : ℕ) → a + x ≡ b + y → y ≡ x → a ≡ b
      equal_by_sums a b x y e f = omega arith

-- ---- the campaign after the flag is set

-- if GUARD 1 has no fault for a unit, the unit has men, and no other faction guards its region
pub can_guard : (c : CampaignValue) (u : Unit) → guard_fault c u ≡ None
    → (is_guarded_against c u.region u.faction ≡ false) × (nat_lt 0 u.holding.men ≡ true)
can_guard c u none =
    let one = none_fits (u.holding.men == 0) NoMen ((is_guarded_against c u.region u.faction, Guarded) ∷ []) none in
    let two = none_fits (is_guarded_against c u.region u.faction) Guarded [] one.1 in
    (two.0, has_men u.holding.men one.0)
  where
    has_men : (n : ℕ) → (n == 0) ≡ false → nat_lt 0 n ≡ true
    has_men n some = grind (arith, nat_tests)

-- unit n (u) of campaign c, which begins to guard its region
module _ (c : CampaignValue) (n : ℕ) (u : Unit) (is : get c.units n ≡ Some u) where
  -- unit n with its guard flag set
  abbrev pub guarding : Unit
  guarding = record u { holding = record u.holding { guard = true } }

  -- the campaign in which unit n has its guard flag set
  abbrev pub flagged : CampaignValue
  flagged = record c { units = insert c.units n guarding }

  -- two units that both guard one region are of one faction
  abbrev Agree : Unit → Unit → Type 0
  Agree x y = guards x ≡ true → guards y ≡ true → x.region ≡ y.region → x.faction ≡ y.faction

  guards_kept : is_guarded_against c u.region u.faction ≡ false → AreOfOneFaction guards c
      → AreOfOneFaction guards flagged
  guards_kept none old =
      let own = own_guards c u.region u.faction none in
      every-insert (λ k x. Every (λ m y. Agree x y) flagged.units) c.units n guarding
      (every-insert (λ m y. Agree guarding y) c.units n guarding (λ g k same. refl) (λ m y there g k same. sym (own m y there k (sym same))))
      (λ k x here. every-insert (λ m y. Agree x y) c.units n guarding (λ g h same. own k x here g same) (old k x here))

  -- setting the guard flag of unit n (`with_guard`) makes the campaign `flagged`
  pub flagged_is : with_guard c n true ≡ flagged
  flagged_is = changed_held (λ h. record h { guard = true }) c (with_guard c n true) n refl u is

  -- setting the guard flag keeps a steady campaign steady, its month and its balance, and books nothing (`StepsWell`),
  -- if no other faction guards the region
  flag_steps_well : (w : WorldValue) → is_guarded_against c u.region u.faction ≡ false → IsSteady w c
      → StepsWell IsSteady nothing_remaining w c (with_guard c n true)
  flag_steps_well w none steady =
      let may = may_label w c n u is u.holding.name true (steady.names.units n u is) steady in
      subst (StepsWell IsSteady nothing_remaining w c) (sym flagged_is)
      (stays_well IsSteady w c flagged (steady-having w c n u guarding.holding is may (guards_kept none steady.guarded) steady) (same_month_by refl) refl (total-labelled w c n u is u.holding.name true))

-- setting or clearing the guard flag of unit n, with its row marked, marks all changes and loses no mark
pub flag_marks : (c d : MarkedCampaign) (n : ℕ) (flag : Bool) → d.value ≡ with_guard c.value n flag
    → d.marks ≡ mark_unit_row c n → MarksChanges c d
flag_marks c d n flag what marks =
    marks_by c d (record { value = with_guard c.value n flag; marks = mark_unit_row c n }) what marks (marks-unit_row (λ u. record u { holding = record u.holding { guard = flag } }) (λ u. refl) c n)

guard_kept : {fit : Type 0} (w : WorldValue) (c : CampaignValue) (n : ℕ) (u : Unit) → get c.units n ≡ Some u
    → OrderKeeps IsSteady fit w c n u.faction (guard n c u).0
unfolding guard
guard_kept w c n u is =
    keeps_unless w c n u.faction (guard_fault c u) (with_guard c n true) (Done 0) (λ none.
    keeps_others w c n u.faction (with_guard c n true) (λ steady fits. flag_steps_well c n u is w (can_guard c u none).0 steady) (change_keeps_others (λ (x : Unit). record x { holding = record x.holding { guard = true } }) c n))

-- ---- the phase

-- Each order of GUARD 1 for a unit of its writer's faction leaves other units no worse off, and those of other factions
-- exactly their men. If it can be read with the world, it keeps a steady campaign steady, its month and its balance,
-- and books nothing (`StepKeeps`).
pub guard_keeps : StepKeeps IsSteady guard_step
guard_keeps w a c t x own = by_operands t.order_value.operands
  where
    by_operands : (o : OperandsValue)
        → IfSome (guard_effect t.unit o) (λ effect. OrderKeeps IsSteady (AreOperandsOf w o) w c t.unit x.faction (effect c x).0)
    by_operands (operands.Flag true) = guard_kept w c t.unit x own.there
    by_operands other = tt

-- In a steady campaign a GUARD 1 for a unit of its writer's faction leaves every other unit no worse off. If it can be
-- read with the world, the campaign stays steady, in its month and in balance, and nothing is booked.
pub guard_orderly : IsOrderly guard_step IsSteady nothing_remaining moves_nothing guard_affects IsNoWorse
guard_orderly =
    orderly_by guard_keeps (λ w a t n f own other. passed t.unit t.order_value.operands (λ sets. other (own, sets)))
  where
    passed : (n : ℕ) (o : OperandsValue) → (o ≡ operands.Flag true → ⊥) → guard_effect n o ≡ None
    passed n (operands.Flag true) other = absurd (other refl)
    passed n o other = refl
