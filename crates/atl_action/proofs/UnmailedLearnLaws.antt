-- Laws of the phase of TEACH and STUDY, which keeps the mailings and takes back no Starved event. If it keeps what
-- `learn_keeps` says, each unit of a faction without a mailing is still there after it (`LeavesUnmailed`). It has its
-- faction and name, no less of any item, and its men less the starved whom the phase's Starved events report: none.
use Rattle.std.proofs.Common.{◌≡◌, ◌∷◌, [], List, ◌-◌, ◌*◌, ℕ, Some, None, refl, ap, subst, ◌∙◌, arith}
use Rattle.std.specs.Prelude.{fold}
use Rattle.std.specs.FinMap.{get}
use Rattle.atl_world.specs.Worlds.{WorldValue}
use Rattle.atl_world.specs.ByNumber.{fee_of}
use Rattle.atl_records.specs.declared.event.Outcome.TheVariants.{Done}
use Rattle.atl_records.specs.declared.records.Unit.{Unit}
use Rattle.atl_records.specs.Holdings.{amount_of}
use Rattle.atl_campaign.specs.Campaign.{CampaignValue}
use Rattle.atl_phase.specs.Month.{MonthValue}
use Rattle.atl_phase.specs.PhaseOrders.{Task, orders_of}
use Rattle.atl_phase.specs.OrderEffects.{meaning_by_orders}
use Rattle.atl_phase.specs.Unmailed.{IsLessBy, starved_in}
use Rattle.atl_phase.specs.declared.phase_order.Arrangement.TheVariants.{ByUnit}
use Rattle.atl_phase.proofs.UnmailedLaws.{HasItsItems, HaveTheirMen, LeavesUnmailed, OthersHaveMen, LeavesOthersMen, carried_leaves, men_put, men_unless, others_men, own_faction, order_event_starves_none, unmailed_keep_items}
use Rattle.atl_phase.specs.NoWorse.{IsUnchanged}
use Rattle.atl_teaching.specs.Learners.{Learning, is_studying, learners}
use Rattle.atl_action.specs.Study.{after_study, days_after, is_helpful, learn_keeps, learn_meaning, study, study_fault, study_step, with_study}
use Rattle.atl_action.proofs.StudyLaws.{of_each_skill}
use Rattle.atl_teaching.specs.Teach.{TaughtMen, after_lessons, is_teaching, teach, teach_order}

-- ---- TEACH adds its events and changes nothing else of the month

-- Month `after` has the readings and aliases of month `before`, and its events report as many starved men of each unit.
pub record AddsNoStarved (before after : MonthValue) : Type 0 where
  pub readings : after.readings ≡ before.readings
  pub aliases : after.aliases ≡ before.aliases
  pub starved : (n : ℕ) → starved_in after.events n ≡ starved_in before.events n

lesson_adds_no_starved : (c : CampaignValue) (learning : Learning) (p : TaughtMen × MonthValue) (t : Task)
    → AddsNoStarved p.1 (teach_order c learning p t).1
lesson_adds_no_starved c learning (taught, m) t = record {
  readings = refl;
  aliases = refl;
  starved = λ n. order_event_starves_none m.events t (teach c m.aliases learning taught t).1 n;
}

lessons_add_no_starved : (c : CampaignValue) (learning : Learning) (p : TaughtMen × MonthValue) (ts : List Task)
    → AddsNoStarved p.1 (fold (teach_order c learning) p ts).1
lessons_add_no_starved c learning p [] = record { readings = refl; aliases = refl; starved = λ n. refl }
lessons_add_no_starved c learning p (t ∷ ts) =
    let one = lesson_adds_no_starved c learning p t in
    let rest = lessons_add_no_starved c learning (teach_order c learning p t) ts in
    record { readings = rest.readings ∙ one.readings; aliases = rest.aliases ∙ one.aliases; starved = λ n. rest.starved n ∙ one.starved n }

-- the orders of TEACH keep the readings and aliases of a month, and none of their events reports starved men
pub all_lessons_add_no_starved : (c : CampaignValue) (learning : Learning) (m : MonthValue)
    → AddsNoStarved m (after_lessons c learning m).1
unfolding after_lessons
all_lessons_add_no_starved c learning m =
    lessons_add_no_starved c learning ((λ n. 0), m) (orders_of is_teaching ByUnit m.aliases m.readings)

-- ---- STUDY

study_men : (w : WorldValue) (taught : ℕ) (c : CampaignValue) (n s : ℕ) (u : Unit) → get c.units n ≡ Some u
    → HaveTheirMen c (study w taught n s c u).0
unfolding study
study_men w taught c n s u is =
    let cost = fee_of w s * u.holding.men in
    let old = amount_of u.holding.days s in
    let days = days_after u.holding.men old taught (is_helpful w s (get c.structures u.structure)) in
    men_unless c (after_study c n u s cost days) (Done (days - old)) (study_fault u.holding cost)
    (men_put c (after_study c n u s cost days) n u (record u { holding = with_study u.holding s cost days }) is (record { faction = refl; men = refl }) refl)

study_leaves_men : (taught : TaughtMen) → LeavesOthersMen (study_step taught)
study_leaves_men taught w a c t x own =
    of_each_skill (λ effect. OthersHaveMen t.faction c (effect c x).0) w taught t.unit t.order_value.operands
    (λ s is. others_men t.faction c (study w (taught t.unit) t.unit s c x).0 (study_men w (taught t.unit) c t.unit s x own.there))

items_of_unchanged : (u v : Unit) → IsUnchanged u v → HasItsItems u v
items_of_unchanged u v same =
    record { name = ap (λ (x : Unit). x.holding.name) same; items = λ i. omega (arith, ap (λ (x : Unit). amount_of x.holding.items i) same) }

all_study : (taught : TaughtMen) → LeavesUnmailed (meaning_by_orders (study_step taught) is_studying) learn_keeps
all_study taught =
    carried_leaves (study_step taught) is_studying (study_leaves_men taught)
    (unmailed_keep_items is_studying own_faction items_of_unchanged)

-- ---- both

-- TEACH and STUDY leave units of factions without a mailing their names and items, and their men less the starved
pub learn_leaves : LeavesUnmailed learn_meaning learn_keeps
learn_leaves = record {
  readings = λ w c m. let lessons = after_lessons c (learners w c m) m in (all_study lessons.0).readings w c lessons.1 ∙ (all_lessons_add_no_starved c (learners w c m) m).readings;
  starved_reported = λ w c m n.
      let lessons = after_lessons c (learners w c m) m in
      omega (arith, (all_study lessons.0).starved_reported w c lessons.1 n, (all_lessons_add_no_starved c (learners w c m) m).starved n);
  left = λ w c m keeps n u there none.
      let lessons = after_lessons c (learners w c m) m in
      let same = all_lessons_add_no_starved c (learners w c m) m in
      let kept : learn_keeps w lessons.1 c (learn_meaning w c m).0 = alike w c (learn_meaning w c m).0 m lessons.1 same.readings same.aliases keeps in
      let unread : get lessons.1.readings u.faction ≡ None = ap (λ r. get r u.faction) same.readings ∙ none in
      let one = (all_study lessons.0).left w c lessons.1 kept n u there unread in
      record { unit = one.unit; there = one.there; is_unaffected = subst (λ k. IsLessBy (starved_in (learn_meaning w c m).1.events n - k) u one.unit) (same.starved n) one.is_unaffected };
}
  where
    alike : (w : WorldValue) (c d : CampaignValue) (m l : MonthValue) → l.readings ≡ m.readings → l.aliases ≡ m.aliases
        → learn_keeps w m c d → learn_keeps w l c d
    alike w c d m l readings aliases h = rw (readings, aliases) h
