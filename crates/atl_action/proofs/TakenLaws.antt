-- Laws of the events of MOVE, SAIL, TEACH and STUDY: each phase gives an event to each of its orders. `Gives` says
-- which reports a phase adds for order t, where `counts` says whether t counts in its mailing. It supposes that the
-- mailings can be read with the world, and says that the phase keeps mailings and aliases. A report is what an event
-- says of its order. Operands have the shape of a verb (`Fits`) if they are of the form that the verb takes.
use Rattle.std.proofs.Common.{◌≡◌, ◌&&◌, ◌++◌, true, map, filter, is_some, refl, ap, ◌∙◌, append_assoc}
use Rattle.std.proofs.lemmas.List.{map-append}
use Rattle.std.proofs.lemmas.List.Elements.{filter-append}
use Rattle.atl_lines.specs.declared.order.Operands.TheVariants as operands
use Rattle.atl_world.specs.declared.verb.Verb.{Verb}
use Rattle.atl_world.specs.declared.verb.Verb.TheVariants as verbs
use Rattle.atl_lines.specs.Orders.{OperandsValue}
use Rattle.atl_world.specs.declared.direction.Direction.{Direction}
use Rattle.atl_campaign.specs.Campaign.{CampaignValue}
use Rattle.atl_phase.specs.declared.phase_order.Arrangement.TheVariants.{ByUnit}
use Rattle.atl_phase.specs.Month.{MonthValue}
use Rattle.atl_phase.specs.PhaseOrders.{order_counts, orders_by_unit, tasks_of}
use Rattle.atl_phase.specs.Reports.{is_from, report_for, report_of}
use Rattle.atl_phase.proofs.EventLaws.{Fits, Gives, TakesThose, all_orders, fold_adds, fold_keeps, gives_by_orders, report_if, report_in_phase, reports_at}
use Rattle.atl_teaching.specs.Learners.{Learning, is_studying, learners}
use Rattle.atl_action.specs.Sail.{is_sailing, sail, sail_spec, sail_step}
use Rattle.atl_action.specs.Study.{learn_spec, study_effect, study_step}
use Rattle.atl_teaching.specs.Teach.{TaughtMen, after_lessons, is_teaching, teach_order}
use Rattle.atl_action.specs.Walk.{by_direction, is_walking, walk, walk_spec, walk_step}

-- ---- MOVE and SAIL

walk_takes : TakesThose walk_step is_walking all_orders
walk_takes w a t of_phase fit = by_verb t.order_value.verb t.order_value.operands of_phase fit.shape
  where
    by_verb : (v : Verb) (o : OperandsValue) → is_walking v ≡ true → Fits v o
        → is_some (by_direction (walk w t.unit) o) ≡ true
    by_verb verbs.Move (operands.Direction d) of_phase fits = refl
    by_verb verbs.Move o of_phase fits = cc
    by_verb v o of_phase fits = cc

-- the phase gives one event to each order of MOVE that counts, and none to any other order (`Gives`)
pub walk_gives : Gives (λ counts t. report_if (is_walking t.order_value.verb && counts && true) t) walk_spec.meaning
walk_gives = gives_by_orders walk_step is_walking all_orders walk_takes

sail_takes : TakesThose sail_step is_sailing all_orders
sail_takes w a t of_phase fit = by_verb t.order_value.verb t.order_value.operands of_phase fit.shape
  where
    by_verb : (v : Verb) (o : OperandsValue) → is_sailing v ≡ true → Fits v o
        → is_some (by_direction (sail w t.unit) o) ≡ true
    by_verb verbs.Sail (operands.Direction d) of_phase fits = refl
    by_verb verbs.Sail o of_phase fits = cc
    by_verb v o of_phase fits = cc

-- the phase gives one event to each order of SAIL that counts, and none to any other order (`Gives`)
pub sail_gives : Gives (λ counts t. report_if (is_sailing t.order_value.verb && counts && true) t) sail_spec.meaning
sail_gives = gives_by_orders sail_step is_sailing all_orders sail_takes

-- ---- TEACH and STUDY

-- operands with the shape of a verb that passes the test `is_studying` have the shape of STUDY, the only such verb
pub study_shape : (v : Verb) (o : OperandsValue) → is_studying v ≡ true → Fits v o → Fits verbs.Study o
study_shape verbs.Study o of_phase fits = fits
study_shape v o of_phase fits = cc

study_takes : (taught : TaughtMen) → TakesThose (study_step taught) is_studying all_orders
study_takes taught w a t of_phase fit = by_verb t.order_value.verb t.order_value.operands of_phase fit.shape
  where
    by_verb : (v : Verb) (o : OperandsValue) → is_studying v ≡ true → Fits v o
        → is_some (study_effect w taught t.unit o) ≡ true
    by_verb verbs.Study (operands.Skill s) of_phase fits = refl
    by_verb verbs.Study o of_phase fits = cc
    by_verb v o of_phase fits = cc

-- `learning` has by unit the skill that it learns
module _ (c : CampaignValue) (learning : Learning) (m : MonthValue) where
  lessons_keep_readings : (after_lessons c learning m).1.readings ≡ m.readings
  unfolding after_lessons
  lessons_keep_readings =
      fold_keeps (λ x. x.readings) (teach_order c learning) (λ p t. refl) (orders_by_unit is_teaching m) ((λ n. 0), m)

  lessons_keep_aliases : (after_lessons c learning m).1.aliases ≡ m.aliases
  unfolding after_lessons
  lessons_keep_aliases =
      fold_keeps (λ x. x.aliases) (teach_order c learning) (λ p t. refl) (orders_by_unit is_teaching m) ((λ n. 0), m)

  lessons_add : map report_of (after_lessons c learning m).1.events
      ≡ map report_of m.events ++ map report_for (orders_by_unit is_teaching m)
  unfolding after_lessons
  lessons_add =
      fold_adds (teach_order c learning) (λ p t. map-append report_of p.1.events _) (orders_by_unit is_teaching m)
      ((λ n. 0), m)

-- the phase gives one event to each order of TEACH and of STUDY that counts, and none to any other order (`Gives`)
pub learn_gives : Gives (λ counts t. report_if (is_teaching t.order_value.verb && counts) t ++ report_if (is_studying t.order_value.verb && counts && true) t) learn_spec.meaning
learn_gives = record {
  events = λ w c m aliases readings ea er fit t there.
      let learning = learners w c m in
      let lessons = after_lessons c learning m in
      let counts = order_counts (tasks_of aliases t.faction there.reading) t in
      let studied = report_if (is_studying t.order_value.verb && counts && true) t in
      let study = gives_by_orders (study_step lessons.0) is_studying all_orders (study_takes lessons.0) in
      study.events w c lessons.1 aliases readings (lessons_keep_aliases c learning m ∙ ea) (lessons_keep_readings c learning m ∙ er) fit t there
      ∙ ap (λ rs. rs ++ studied) (ap (filter (is_from t.faction t.line)) (lessons_add c learning m)
      ∙ filter-append (is_from t.faction t.line) (map report_of m.events) (map report_for (orders_by_unit is_teaching m))
      ∙ ap (λ rs. reports_at t.faction t.line m ++ rs) (report_in_phase w m aliases readings ea er fit t there is_teaching ByUnit))
      ∙ append_assoc (reports_at t.faction t.line m) (report_if (is_teaching t.order_value.verb && counts) t) studied;
  readings = λ w c m.
      let lessons = after_lessons c (learners w c m) m in
      (gives_by_orders (study_step lessons.0) is_studying all_orders (study_takes lessons.0)).readings w c lessons.1 ∙ lessons_keep_readings c (learners w c m) m;
  aliases = λ w c m.
      let lessons = after_lessons c (learners w c m) m in
      (gives_by_orders (study_step lessons.0) is_studying all_orders (study_takes lessons.0)).aliases w c lessons.1 ∙ lessons_keep_aliases c (learners w c m) m;
}
