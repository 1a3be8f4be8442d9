-- Laws of STUDY: after the phase a unit is as its own order of STUDY alone makes it. An own order is one that the
-- faction of the unit wrote.
use Rattle.std.proofs.Common.{◌≡◌, ◌≢◌, ◌==◌, ℕ, suc, zero, ◌-◌, ◌*◌, ◌<◌, true, false, List, [], ◌∷◌, length, Option, Some, None, refl, sym, ap, subst, ◌∙◌, arith, rules}
use Rattle.std.specs.Prelude.{fold, if◌then◌else◌}
use Rattle.std.proofs.lemmas.Option.{same_Some}
use Rattle.std.specs.List.{AllByRecursion, IsDistinct, slice_index_or}
use Rattle.std.proofs.lemmas.List.Elements.{All-contains, All-from_recursion}
use Rattle.std.specs.FinMap.{get}
use Rattle.atl_world.specs.Worlds.{WorldValue}
use Rattle.atl_world.specs.ByNumber.{fee_of}
use Rattle.atl_world.proofs.GeneralLaws.{equal_itself}
use Rattle.atl_lines.specs.declared.order.Operands.TheVariants as operands
use Rattle.atl_world.specs.declared.verb.Verb.{Verb}
use Rattle.atl_world.specs.declared.verb.Verb.TheVariants as verbs
use Rattle.atl_lines.specs.Orders.{OrderValue, order_of}
use Rattle.atl_records.specs.declared.event.EventFault.{EventFault}
use Rattle.atl_records.specs.declared.event.Outcome.{Outcome}
use Rattle.atl_records.specs.declared.event.Outcome.TheVariants.{Done}
use Rattle.atl_records.specs.declared.records.Structure.{Structure}
use Rattle.atl_records.specs.declared.records.Unit.{Unit}
use Rattle.atl_records.specs.Holdings.{amount_of}
use Rattle.atl_campaign.specs.Campaign.{CampaignValue}
use Rattle.atl_campaign.proofs.RegionLaws.{get-insert_same}
use Rattle.atl_phase.specs.Month.{MonthValue}
use Rattle.atl_phase.specs.Outcomes.{fault_or}
use Rattle.atl_phase.specs.PhaseOrders.{Task, orders_of}
use Rattle.atl_phase.specs.OneOrder.{share_slot}
use Rattle.atl_phase.specs.OrderEffects.{OrderEffect, effect_on, faction_effect, meaning_by_orders, of_faction, one_order, order_result}
use Rattle.atl_phase.specs.declared.phase_order.Arrangement.TheVariants.{ByUnit}
use Rattle.atl_phase.proofs.OneOrderLaws.{one_order_counts}
use Rattle.atl_phase.proofs.OrderEffectLaws.{ordered_cases}
use Rattle.atl_phase.proofs.PhaseOrderLaws.{orders_have_verbs}
use Rattle.atl_teaching.specs.Learners.{is_studying, learners, study_tasks}
use Rattle.atl_action.specs.Study.{after_study, days_after, is_helpful, study, study_effect, study_fault, study_step, with_study}
use Rattle.atl_action.specs.StudyAlone.{UnitsStudyAsBegun}
use Rattle.atl_teaching.specs.Teach.{TaughtMen, after_lessons}
use Rattle.atl_action.proofs.StudyLaws.{of_each_skill, study_cases, study_stays}
use Rattle.atl_action.proofs.UnmailedLearnLaws.{all_lessons_add_no_starved}

-- ---- an order reads its own unit and the structures

-- unit `n` is `u` in both campaigns, and studies skill `s`; `taught` is how many of its men were taught this month
module _ (w : WorldValue) (taught n s : ℕ) (c d : CampaignValue) (u : Unit) (in_c : get c.units n ≡ Some u) (in_d : get d.units n ≡ Some u) (structures : d.structures ≡ c.structures) where
  abbrev cost : ℕ
  cost = fee_of w s * u.holding.men

  abbrev days_in : CampaignValue → ℕ
  days_in b =
      days_after u.holding.men (amount_of u.holding.days s) taught (is_helpful w s (get b.structures u.structure))

  same_days : days_in d ≡ days_in c
  same_days =
      ap (λ (o : Option Structure). days_after u.holding.men (amount_of u.holding.days s) taught (is_helpful w s o))
      (ap (λ m. get m u.structure) structures)

  abbrev after_paying_with_days : ℕ → Unit
  after_paying_with_days days = record u { holding = with_study u.holding s cost days }

  -- an order of STUDY changes a unit alike in two campaigns in which the unit and the structures are the same
  study_alike : get (study w taught n s d u).0.units n ≡ get (study w taught n s c u).0.units n
  unfolding study
  study_alike =
      by_fault (study_fault u.holding cost) (Done (days_in d - amount_of u.holding.days s))
      (Done (days_in c - amount_of u.holding.days s))
    where
      by_fault : (o : Option EventFault) (x y : Outcome)
          → get (fault_or d o (after_study d n u s cost (days_in d), x)).0.units n
          ≡ get (fault_or c o (after_study c n u s cost (days_in c), y)).0.units n
      by_fault (Some fault) x y = in_d ∙ sym in_c
      by_fault None x y =
          get-insert_same d.units n (after_paying_with_days (days_in d))
          ∙ ap (λ k. Some (after_paying_with_days k)) same_days
          ∙ sym (get-insert_same c.units n (after_paying_with_days (days_in c)))

-- ---- all orders

abbrev Studies : Task → Type 0
Studies t = is_studying t.order_value.verb ≡ true

is_study : (verb : Verb) → is_studying verb ≡ true → verb ≡ verbs.Study
is_study verbs.Study is = refl
is_study verb is = cc

-- two orders of STUDY for one unit from one faction share a slot
both_own : (t o : Task) → share_slot t o ≡ false → Studies t → Studies o → t.unit ≡ o.unit → t.faction ≡ o.faction → ⊥
both_own t o never t_studies o_studies unit faction =
    grind (rules, never, ap (λ j. j == o.unit) unit ∙ equal_itself o.unit, ap (λ j. j == o.faction) faction ∙ equal_itself o.faction, is_study t.order_value.verb t_studies, is_study o.order_value.verb o_studies)

-- `taught` has by unit how many of its men were taught this month. `u` is unit `n` as the phase begins.
module _ (w : WorldValue) (taught : TaughtMen) (n : ℕ) (u : Unit) where
  abbrev step : CampaignValue × MonthValue → Task → CampaignValue × MonthValue
  step = one_order (study_step taught) w

  -- the order isn't for unit n, or the faction of unit n didn't write it
  abbrev IsOther : Task → Type 0
  IsOther t = t.unit ≡ n → t.faction ≡ u.faction → ⊥

  structures_stay : (d : CampaignValue) (l : MonthValue) (t : Task) → (step (d, l) t).0.structures ≡ d.structures
  structures_stay d l t =
      ordered_cases (λ b. b.structures ≡ d.structures) (study_step taught w l.aliases t) d t refl
      (λ x own. of_each_skill (λ effect. (effect d x).0.structures ≡ d.structures) w taught t.unit t.order_value.operands
      (λ s says. study_cases (λ b. b.structures ≡ d.structures) w (taught t.unit) d t.unit s x refl (λ days payable most. refl)))

  one_stays : (d : CampaignValue) (l : MonthValue) (t : Task) (v : Unit) → get d.units n ≡ Some v
      → v.faction ≡ u.faction → IsOther t → get (step (d, l) t).0.units n ≡ Some v
  one_stays d l t v there own other =
      ordered_cases (λ b. get b.units n ≡ Some v) (study_step taught w l.aliases t) d t there
      (λ x its. of_each_skill (λ effect. get (effect d x).0.units n ≡ Some v) w taught t.unit t.order_value.operands (λ s says.
      let apart : n ≢ t.unit = (λ same. other (sym same) (sym its.faction ∙ ap (λ (y : Unit). y.faction) (same_Some x v (sym its.there ∙ ap (get d.units) (sym same) ∙ there)) ∙ own)) in
      study_stays w (taught t.unit) d t.unit s x n apart ∙ there))

  all_stay : (ts : List Task) (p : CampaignValue × MonthValue) (v : Unit) → get p.0.units n ≡ Some v
      → v.faction ≡ u.faction → AllByRecursion IsOther ts → get (fold step p ts).0.units n ≡ Some v
  all_stay [] p v there own others = there
  all_stay (t ∷ ts) p v there own others =
      all_stay ts (step p t) v (one_stays p.0 p.1 t v there own others.0) own others.1

  -- `order` is the own order of unit `n`: its faction wrote it, and it says to study `skill`
  module _ (skill : ℕ) (order : Task) (for_unit : order.unit ≡ n) (own : order.faction ≡ u.faction) (says : order.order_value ≡ order_of verbs.Study (operands.Skill skill)) where
    studies : Studies order
    studies = ap (λ (o : OrderValue). is_studying o.verb) says

    apart : (t : Task) → share_slot t order ≡ false → Studies t → IsOther t
    apart t never other unit faction = both_own t order never other studies (unit ∙ sym for_unit) (faction ∙ sym own)

    all_apart : (ts : List Task) → AllByRecursion (λ t. share_slot order t ≡ false) ts → AllByRecursion Studies ts
        → AllByRecursion IsOther ts
    all_apart [] all others = tt
    all_apart (t ∷ ts) all others = (one_apart, all_apart ts all.1 others.1)
      where
        one_apart : IsOther t
        one_apart unit faction = both_own order t all.0 studies others.0 (for_unit ∙ sym unit) (own ∙ sym faction)

    abbrev effect : OrderEffect
    effect = study w (taught n) n skill

    own_study : (d : CampaignValue) (l : MonthValue) → get d.units n ≡ Some u → (step (d, l) order).0 ≡ (effect d u).0
    own_study d l there =
        ap (λ (o : OrderValue). (order_result (study_effect w taught order.unit o.operands) d order.faction order.unit).0) says
        ∙ ap (λ k. (faction_effect (study w (taught k) k skill) d order.faction k).0) for_unit
        ∙ ap (λ f. (faction_effect effect d f n).0) own
        ∙ ap (λ o. (effect_on effect d o).0) (ap (of_faction u.faction) there ∙ ap (λ b. if b then Some u else None) (equal_itself u.faction))

    -- `c` is the campaign as the phase begins
    module _ (c : CampaignValue) (begun : get c.units n ≡ Some u) where
      after_it : (v : Unit) × (get (effect c u).0.units n ≡ Some v) × (v.faction ≡ u.faction)
      after_it =
          study_cases (λ d. (v : Unit) × (get d.units n ≡ Some v) × (v.faction ≡ u.faction)) w (taught n) c n skill u (u, begun, refl)
          (λ days payable most.
          let v : Unit = record u { holding = with_study u.holding skill (fee_of w skill * u.holding.men) days } in
          (v, get-insert_same c.units n v, refl))

      -- After some orders of STUDY unit n is as its own order alone makes it. This supposes that its own order is one
      -- of them, and that no two of them share a slot.
      alone : (ts : List Task) (p : CampaignValue × MonthValue) → get p.0.units n ≡ Some u
          → p.0.structures ≡ c.structures → IsDistinct share_slot ts → AllByRecursion Studies ts
          → (k : ℕ) → k < length ts → slice_index_or ts k order ≡ order
          → get (fold step p ts).0.units n ≡ get (effect c u).0.units n
      unfolding IsDistinct
      alone [] p there structures distinct all k low at = absurd (omega (arith, low))
      alone (t ∷ ts) p there structures distinct all zero low at =
          let (v, is, faction) = after_it in
          let now : get (step p t).0.units n ≡ get (effect c u).0.units n =
          ap (λ o. get (step p o).0.units n) at ∙ ap (λ (d : CampaignValue). get d.units n) (own_study p.0 p.1 there) ∙ study_alike w (taught n) n skill c p.0 u begun there structures in
          all_stay ts (step p t) v (now ∙ is) faction (all_apart ts (subst (λ o. AllByRecursion (λ y. share_slot o y ≡ false) ts) at distinct.0) all.1)
          ∙ sym is
      alone (t ∷ ts) p there structures distinct all (suc k) low at =
          let never : share_slot t order ≡ false = All-contains (λ y. share_slot t y ≡ false) ts order (All-from_recursion (λ y. share_slot t y ≡ false) ts distinct.0) (k, omega (arith, low), at) in
          alone ts (step p t) (one_stays p.0 p.1 t u there refl (apart t never all.0)) (structures_stay p.0 p.1 t ∙ structures) distinct.1 all.1 k (omega (arith, low)) at

-- ---- the phase

-- if the mailings can be read with the world, after the phase a unit is what its own order of STUDY alone makes of it
-- in the campaign as the phase began
pub units_study_as_begun : UnitsStudyAsBegun
unfolding meaning_by_orders
units_study_as_begun w c m fit n skill u there own =
    let lessons = after_lessons c (learners w c m) m in
    let unchanged = all_lessons_add_no_starved c (learners w c m) m in
    let one : CampaignValue × MonthValue → Task → CampaignValue × MonthValue = one_order (study_step lessons.0) w in
    let list : orders_of is_studying ByUnit lessons.1.aliases lessons.1.readings ≡ study_tasks m =
    ap (λ r. orders_of is_studying ByUnit lessons.1.aliases r) unchanged.readings ∙ ap (λ a. orders_of is_studying ByUnit a m.readings) unchanged.aliases in
    let (k, low, at) = own.counts in
    ap (λ ts. get (fold one (c, lessons.1) ts).0.units n) list
    ∙ alone w lessons.0 n u skill own.order own.for_unit own.own own.says c there (study_tasks m) (c, lessons.1) there refl (one_order_counts w is_studying ByUnit m.aliases m.readings fit) (orders_have_verbs is_studying ByUnit m.aliases m.readings) k low at
