-- Laws of STUDY: the campaign stays steady, the fee is booked, and a unit without an own order of STUDY (one from its
-- faction) is unchanged. In the laws s is the skill that unit n (u) studies, and `taught` is how many of its men were
-- taught this month, or has this by unit.
use Rattle.std.proofs.Common.{◌≡◌, ◌≢◌, ◌==◌, ℕ, ◌+◌, ◌-◌, ◌*◌, ◌≤◌, ◌<◌, Bool, false, cond, [], ◌∷◌, length, Option, Some, None, refl, sym, ap, subst, ◌∙◌, arith}
use Rattle.std.specs.Prelude.{pos, neg_ℤ, ◌+ℤ◌, IfSome, nat_lt}
use Rattle.std.specs.FinMap.{get}
use Rattle.std.proofs.lemmas.Int.{ints}
use Rattle.std.proofs.lemmas.Bool.Decides.{nat_tests}
use Rattle.atl_world.specs.Worlds.{WorldValue}
use Rattle.atl_world.specs.Sums.{sum_over}
use Rattle.atl_world.proofs.SumLaws.{sum_over-insert_known}
use Rattle.atl_world.specs.ByNumber.{fee_of}
use Rattle.atl_orders.specs.Bounds.{AreOperandsOf}
use Rattle.atl_lines.specs.declared.order.Operands.TheVariants as operands
use Rattle.atl_lines.specs.Orders.{OperandsValue}
use Rattle.atl_records.specs.Books.{amount_in, thing_index}
use Rattle.atl_records.specs.declared.books.BooksEntry.{BooksEntry}
use Rattle.atl_records.specs.declared.books.BooksEntry.TheVariants.{Study}
use Rattle.atl_records.specs.declared.books.Thing.{Thing}
use Rattle.atl_records.specs.declared.books.Thing.TheVariants.{Item, Money, People}
use Rattle.atl_records.specs.declared.event.EventFault.{EventFault}
use Rattle.atl_records.specs.declared.event.EventFault.TheVariants.{NoFee, NoMen}
use Rattle.atl_records.specs.declared.event.Outcome.TheVariants.{Done}
use Rattle.atl_records.specs.declared.records.Unit.{Unit}
use Rattle.atl_campaign.specs.Good.{IsSteady}
use Rattle.atl_records.specs.Holdings.{HoldingValue, amount_of}
use Rattle.atl_campaign.specs.Lending.{with_holding_at}
use Rattle.atl_records.specs.Limits.{most_days}
use Rattle.atl_campaign.specs.Campaign.{CampaignValue}
use Rattle.atl_records.specs.Amounts.{unit_amount}
use Rattle.atl_campaign.specs.Totals.{Balances, total}
use Rattle.atl_records.proofs.BookLaws.{booked-after_booking}
use Rattle.atl_world.proofs.EveryLaws.{get-insert_other}
use Rattle.atl_campaign.proofs.HavingLaws.{may_have}
use Rattle.atl_campaign.proofs.HoldingLaws.{MayHaveWithoutNewGuard, steady-new_holding, total-new_holding}
use Rattle.atl_campaign.proofs.RegionLaws.{steady-amount, total-booking}
use Rattle.atl_phase.specs.Meaning.{moves_only}
use Rattle.atl_phase.specs.Bounds.{HasRoom, HaveRoom, IsOrderly, IsUnaffectedRelation, StepsWell, UsesBound}
use Rattle.atl_phase.specs.Outcomes.{fault_or}
use Rattle.atl_phase.specs.OrderEffects.{IsOwnOrder, IsStillThere, OrderEffect}
use Rattle.atl_records.proofs.HoldingLaws.{every_amount}
use Rattle.atl_phase.proofs.MeaningLaws.{same_month_by}
use Rattle.atl_phase.proofs.BookingLaws.{booked-near, within-neg}
use Rattle.atl_phase.proofs.OutcomeLaws.{none_fits, not_less}
use Rattle.atl_phase.proofs.HeldLaws.{all_held_within}
use Rattle.atl_phase.proofs.OrderEffectLaws.{bound_used_near, well_same}
use Rattle.atl_phase.proofs.UnbookedLaws.{other_unit}
use Rattle.atl_phase.specs.NoWorse.{IsUnchanged}
use Rattle.atl_action.specs.Study.{after_study, days_after, is_helpful, study, study_effect, study_fault, study_moves, study_step, with_study}
use Rattle.atl_action.specs.Bounds.{study_remaining}
use Rattle.atl_teaching.specs.Teach.{TaughtMen}

-- ---- a unit that pays, and reaches a number of days

-- Unit `n` of the steady campaign `c` is `u`. It pays `cost`, for which it has the money, and then has `days` of `s`.
module _ (w : WorldValue) (c : CampaignValue) (n : ℕ) (u : Unit) (s cost days : ℕ) (is : get c.units n ≡ Some u) (steady : IsSteady w c) (payable : cost ≤ u.holding.money) where
  abbrev learned : HoldingValue
  learned = with_study u.holding s cost days

  -- the campaign in which the unit paid and has its days, before the cost is booked
  abbrev paid : CampaignValue
  paid = with_holding_at c n learned (Some u)

  abbrev after : CampaignValue
  after = after_study c n u s cost days

  may_hold : s < length w.skills → days ≤ most_days * u.holding.men → MayHaveWithoutNewGuard w u learned
  may_hold known most =
      let old = may_have w c n u is steady in
      record {
        limits = record { men = old.limits.men; money = omega (arith, old.limits.money); items = old.limits.items };
        name = old.name;
        items = old.items;
        skills = every_amount (λ t d. t < length w.skills) u.holding.days s days (λ some. known) old.skills;
        days = every_amount (λ t d. (1 ≤ d) × (d ≤ most_days * u.holding.men)) u.holding.days s days (λ some. (some, most)) old.days;
        guard = λ g. g;
      }

  steady_after : s < length w.skills → days ≤ most_days * u.holding.men → IsSteady w after
  steady_after known most =
      steady-amount w paid Study Money (neg_ℤ (pos cost)) (omega arith)
      (steady-new_holding w c n u learned is (may_hold known most) steady)

  -- the total of each thing changes from b to a by what is booked, as the unit pays: money falls by the cost, and every
  -- other thing stays
  owed : (t : Thing) (a b : ℕ) → a + unit_amount t u.holding ≡ b + unit_amount t learned
      → pos a ≡ pos b +ℤ cond (thing_index t == 0) (neg_ℤ (pos cost)) (pos 0)
  owed Money a b e = omega (arith, ints, e, payable)
  owed People a b e = omega (arith, ints, e)
  owed (Item i) a b e = let other : (2 + i == 0) ≡ false = grind (arith, nat_tests) in grind (arith, ints)

  balanced : Balances c → Balances after
  balanced old t =
      let sum : total after t + unit_amount t u.holding ≡ total c t + unit_amount t learned =
      ap (λ k. k + unit_amount t u.holding) (total-booking paid Study Money t (neg_ℤ (pos cost))) ∙ total-new_holding w c n u learned is t in
      owed t (total after t) (total c t) sum
      ∙ ap (λ z. z +ℤ cond (thing_index t == 0) (neg_ℤ (pos cost)) (pos 0)) (old t)
      ∙ sym (booked-after_booking c.books Study Money (neg_ℤ (pos cost)) t)

  less : sum_over (λ (x : Unit). x.holding.money) after.units + cost ≡ sum_over (λ (x : Unit). x.holding.money) c.units
  less =
      let money = λ (x : Unit). x.holding.money in
      total_falls_by_cost (sum_over money after.units) (sum_over money c.units) u.holding.money (sum_over-insert_known money c.units n u (record u { holding = learned }) is) payable
    where
      total_falls_by_cost : (a b m : ℕ) → a + m ≡ b + (m - cost) → cost ≤ m → a + cost ≡ b
      total_falls_by_cost a b m e l = omega (arith, e, l)

  -- books with room for the money of all units under study have room for what unit `n` pays
  pub cost_room : HaveRoom (study_remaining c) c → HasRoom cost (amount_in c.books Study Money)
  cost_room room =
      let all : HasRoom (sum_over (λ (x : Unit). x.holding.money) c.units) (amount_in c.books Study Money) = room Study Money in
      record { above = omega (arith, ints, all.above, less); below = omega (arith, ints, all.below, less) }

  uses_bound : (e : BooksEntry) (t : Thing)
      → UsesBound (study_remaining c e t) (study_remaining after e t) (amount_in c.books e t) (amount_in after.books e t)
  uses_bound e t =
      bound_used_near (moves_only cost Study Money e t) (study_remaining c e t) (study_remaining after e t) (amount_in c.books e t) (amount_in after.books e t)
      (let fallen = less in grind arith)
      (booked-near c.books Study Money (neg_ℤ (pos cost)) cost (within-neg cost cost (omega arith)) e t)

  studied_well : s < length w.skills → days ≤ most_days * u.holding.men → StepsWell IsSteady study_remaining w c after
  studied_well known most = record {
    holds_still = steady_after known most;
    same_month = same_month_by refl;
    balances = balanced;
    uses_bound = uses_bound;
  }

-- ---- an order

-- after a month of study a unit has at most 450 days of the skill for each man
pub days_most : (men old taught : ℕ) (helped : Bool) → days_after men old taught helped ≤ most_days * men
days_most men old taught helped = omega arith

-- a unit whose STUDY has no fault has the money for the cost
pub payable_fee : (h : HoldingValue) (cost : ℕ) → study_fault h cost ≡ None → cost ≤ h.money
payable_fee h cost e =
    let poor = (nat_lt h.money cost, NoFee) ∷ [] in
    let one = none_fits (h.men == 0) NoMen poor e in
    let two = none_fits (nat_lt h.money cost) NoFee [] one.1 in
    not_less h.money cost two.0

-- P holds of the campaign after an order of STUDY, if it holds of the campaign before, and of the one in which the unit
-- paid the fee and has `days` of the skill. For the latter the unit has the money for the fee, and `days` are at most
-- 450 for each man.
pub study_cases : (P : CampaignValue → Type 0) (w : WorldValue) (taught : ℕ) (c : CampaignValue) (n s : ℕ) (u : Unit)
    → P c
    → ((days : ℕ) → fee_of w s * u.holding.men ≤ u.holding.money → days ≤ most_days * u.holding.men → P (after_study c n u s (fee_of w s * u.holding.men) days))
    → P (study w taught n s c u).0
unfolding study
study_cases P w taught c n s u same learned =
    let old = amount_of u.holding.days s in
    let helped = is_helpful w s (get c.structures u.structure) in
    by_fault (days_after u.holding.men old taught helped) (days_after u.holding.men old taught helped - old) (days_most u.holding.men old taught helped) (study_fault u.holding (fee_of w s * u.holding.men)) refl
  where
    by_fault : (days done : ℕ) → days ≤ most_days * u.holding.men → (o : Option EventFault)
        → study_fault u.holding (fee_of w s * u.holding.men) ≡ o
        → P (fault_or c o (after_study c n u s (fee_of w s * u.holding.men) days, Done done)).0
    by_fault days done most (Some fault) e = same
    by_fault days done most None e = learned days (payable_fee u.holding (fee_of w s * u.holding.men) e) most

study_well : (w : WorldValue) (taught : ℕ) (c : CampaignValue) (n s : ℕ) (u : Unit) → get c.units n ≡ Some u
    → IsSteady w c → s < length w.skills → StepsWell IsSteady study_remaining w c (study w taught n s c u).0
study_well w taught c n s u is steady known =
    study_cases (λ d. StepsWell IsSteady study_remaining w c d) w taught c n s u (well_same w c steady)
    (λ days payable most. studied_well w c n u s (fee_of w s * u.holding.men) days is steady payable known most)

-- STUDY for unit `n` leaves each other unit unchanged
pub study_stays : (w : WorldValue) (taught : ℕ) (c : CampaignValue) (n s : ℕ) (u : Unit) (k : ℕ) → k ≢ n
    → get (study w taught n s c u).0.units k ≡ get c.units k
study_stays w taught c n s u k apart =
    study_cases (λ d. get d.units k ≡ get c.units k) w taught c n s u refl
    (λ days payable most. get-insert_other c.units n k (record u { holding = with_study u.holding s (fee_of w s * u.holding.men) days }) apart)

-- A condition P holds of the effect of an order of STUDY for unit n with operands o, if it has one. This supposes that
-- P holds of the effect of STUDY for the skill that they name, if they name one.
pub of_each_skill : (P : OrderEffect → Type 0) (w : WorldValue) (taught : TaughtMen) (n : ℕ) (o : OperandsValue)
    → ((s : ℕ) → o ≡ operands.Skill s → P (study w (taught n) n s)) → IfSome (study_effect w taught n o) P
of_each_skill P w taught n (operands.Skill s) each = each s refl
of_each_skill P w taught n other each = tt

-- ---- the phase

unchanged_is_unaffected_relation : IsUnaffectedRelation IsUnchanged
unchanged_is_unaffected_relation =
    record { same = λ u. refl; transitive = λ u v x one two. two ∙ one; faction = λ u v same. ap (λ (x : Unit). x.faction) same }

money_most : (w : WorldValue) (c : CampaignValue) → IsSteady w c → (e : BooksEntry) (t : Thing)
    → study_remaining c e t ≤ study_moves e t
money_most w c steady e t = let most = all_held_within w c steady Money in grind arith

-- In a steady campaign a STUDY for a unit of its writer's faction changes no other unit. If it can be read with the
-- world, the campaign stays steady, with the same month, reports and set of factions. Balanced books stay balanced, and
-- no more is booked than the unit pays. All units together can't pay more than the phase may book.
pub study_orderly : (taught : TaughtMen)
    → IsOrderly (study_step taught) IsSteady study_remaining study_moves IsOwnOrder IsUnchanged
study_orderly taught = record {
  well = λ w a c t x steady fit own.
      of_each_skill (λ effect. StepsWell IsSteady study_remaining w c (effect c x).0) w taught t.unit t.order_value.operands
      (λ s is. study_well w (taught t.unit) c t.unit s x own.there steady (subst (AreOperandsOf w) is fit.operands));
  unaffected_is_relation = unchanged_is_unaffected_relation;
  is_unaffected = λ w a c t x steady own k v there apart.
      of_each_skill (λ effect. IsStillThere IsUnchanged (effect c x).0 k v) w taught t.unit t.order_value.operands
      (λ s is. record { unit = v; there = study_stays w (taught t.unit) c t.unit s x k (other_unit c t x k v own there apart) ∙ there; is_unaffected = refl });
  bounded = money_most;
}
