-- Laws of the events of phases: a phase gives one event to each of its orders that it doesn't pass over. What a phase
-- adds for an order is said by the reports of its events that are of the order's faction and on its line. A report is
-- what an event says of its order: faction, unit, line and verb. `there` says that order t is in the mailing of its
-- faction, and `is_of` which verbs a phase has. `readings` has what was read of each faction's mailing, by faction, and
-- `aliases` the units that FORM made, by faction and then by alias.
use Rattle.std.proofs.Common.{◌≡◌, ◌&&◌, ℕ, Bool, true, false, cond, List, [], ◌∷◌, ◌++◌, map, filter, is_some, Option, Some, None, refl, sym, ap, ap₂, subst, ◌∙◌, append_assoc}
use Rattle.std.proofs.lemmas.List.{append-nil, map-append}
use Rattle.std.proofs.lemmas.List.Elements.{filter-append, recursion_from_All}
use Rattle.std.specs.FinMap.{FinMap}
use Rattle.std.specs.List.{AllByRecursion, fold}
use Rattle.std.specs.Ordering.{nat_cmp}
use Rattle.atl_world.specs.Worlds.{WorldValue}
use Rattle.atl_orders.specs.Bounds.{IsOrderOf, shape_of}
use Rattle.atl_orders.specs.Mailing.{Reading}
use Rattle.atl_lines.specs.Orders.{OperandsValue}
use Rattle.atl_world.specs.Verbs.{row_of}
use Rattle.atl_world.specs.declared.verb.Verb.{Verb}
use Rattle.atl_records.specs.declared.event.Event.{Event}
use Rattle.atl_records.specs.declared.event.Outcome.{Outcome}
use Rattle.atl_campaign.specs.Campaign.{CampaignValue}
use Rattle.atl_phase.specs.declared.phase_order.Arrangement.{Arrangement}
use Rattle.atl_phase.specs.declared.phase_order.Arrangement.TheVariants.{ByUnit}
use Rattle.atl_phase.specs.Fit.{AreFit}
use Rattle.atl_phase.specs.Meaning.{Meaning, then_also}
use Rattle.atl_phase.specs.Month.{Aliases, MonthValue, with_events}
use Rattle.atl_phase.specs.OrderEffects.{OrderEffect, OrderMeaning, event_for, meaning_by_orders, one_order, order_result, with_event_of}
use Rattle.atl_phase.specs.PhaseOrders.{IsInMailing, Task, order_counts, orders_by_unit, orders_of, tasks_of}
use Rattle.atl_phase.specs.Reports.{Report, is_from, report_for, report_of}
use Rattle.atl_phase.proofs.OrderEffectLaws.{orders_fit}
use Rattle.atl_phase.proofs.PhaseOrderLaws.{orders_have_verbs}
use Rattle.atl_phase.proofs.PickedLaws.{filter-map}
use Rattle.atl_phase.proofs.ReportLaws.{in_turn, is_at, one_in_phase}

-- the reports of the events of a month that are of a faction and on a line
abbrev pub reports_at : (faction line : ℕ) → MonthValue → List Report
reports_at faction line m = filter (is_from faction line) (map report_of m.events)

-- ---- what a phase adds

-- What a phase adds to the events of an order's faction and line: events with the reports `added`, given whether the
-- order counts in its mailing, and the order. The phase keeps the mailings and the aliases.
pub record Gives (added : Bool → Task → List Report) (meaning : Meaning) : Type 0 where
  -- If the mailings can be read with the world, the reports of an order's faction and line are, after the phase, those
  -- from before, and then `added`. For this the order is in its faction's mailing, its unit by the month's aliases.
  pub events : (w : WorldValue) (c : CampaignValue) (m : MonthValue) (aliases : Aliases) (readings : FinMap nat_cmp Reading)
      → m.aliases ≡ aliases → m.readings ≡ readings → AreFit w readings
      → (t : Task) (there : IsInMailing aliases readings t)
      → reports_at t.faction t.line (meaning w c m).1 ≡ reports_at t.faction t.line m ++ added (order_counts (tasks_of aliases t.faction there.reading) t) t
  pub readings : (w : WorldValue) (c : CampaignValue) (m : MonthValue) → (meaning w c m).1.readings ≡ m.readings
  pub aliases : (w : WorldValue) (c : CampaignValue) (m : MonthValue) → (meaning w c m).1.aliases ≡ m.aliases

-- the report of an order, if the test holds, and else none
abbrev pub report_if : Bool → Task → List Report
report_if b t = cond b (report_for t ∷ []) []

-- where `first` adds a and `second` adds b to an order's events (`Gives`), both in turn add a and then b
pub gives_both : {a b : Bool → Task → List Report} {first second : Meaning} → Gives a first → Gives b second
    → Gives (λ counts t. a counts t ++ b counts t) (then_also first second)
gives_both {a} {b} {first} {second} one two = record {
  events = λ w c m aliases readings ea er fit t there.
      let mid = first w c m in
      let counts = order_counts (tasks_of aliases t.faction there.reading) t in
      two.events w mid.0 mid.1 aliases readings (one.aliases w c m ∙ ea) (one.readings w c m ∙ er) fit t there
      ∙ ap (λ rs. rs ++ b counts t) (one.events w c m aliases readings ea er fit t there)
      ∙ append_assoc (reports_at t.faction t.line m) (a counts t) (b counts t);
  readings = λ w c m. two.readings w (first w c m).0 (first w c m).1 ∙ one.readings w c m;
  aliases = λ w c m. two.aliases w (first w c m).0 (first w c m).1 ∙ one.aliases w c m;
}

-- ---- events that are added

-- the reports at a faction and line after some events are added: those before, and those among the added ones
pub reports_after : (faction line : ℕ) (m : MonthValue) (events : List Event)
    → reports_at faction line (with_events m events)
    ≡ reports_at faction line m ++ filter (is_from faction line) (map report_of events)
reports_after faction line m events =
    ap (filter (is_from faction line)) (map-append report_of m.events events)
    ∙ filter-append (is_from faction line) (map report_of m.events) (map report_of events)

-- the reports of the orders `ts` at a faction and line are those of the orders that are of the faction and on the line
pub reports_of_orders : (aliases : Aliases) (faction line : ℕ) (ts : List Task)
    → filter (is_from faction line) (map report_for ts) ≡ map report_for (filter (is_at aliases faction line) ts)
reports_of_orders aliases faction line ts = filter-map (is_from faction line) report_for ts

-- a list that has order t if the test `b` holds, and else no order, gives the report of t if it holds, and else none
pub one_reported : (t : Task) (b : Bool) → map report_for (cond b (t ∷ []) []) ≡ report_if b t
one_reported t true = refl
one_reported t false = refl

-- Take the reports of a phase's orders, sorted as `a` says, that are of order t's faction and on its line. There is
-- just that of t, if t has a verb of the phase and counts in its mailing (`order_counts`); otherwise there is none. For
-- this t is in the mailing of its faction, and the mailings can be read with the world.
pub report_in_phase : (w : WorldValue) (m : MonthValue) (aliases : Aliases) (readings : FinMap nat_cmp Reading)
    → m.aliases ≡ aliases → m.readings ≡ readings → AreFit w readings
    → (t : Task) (there : IsInMailing aliases readings t) (is_of : Verb → Bool) (a : Arrangement)
    → filter (is_from t.faction t.line) (map report_for (orders_of is_of a m.aliases m.readings)) ≡ report_if (is_of t.order_value.verb && order_counts (tasks_of aliases t.faction there.reading) t) t
report_in_phase w m aliases readings ea er fit t there is_of a =
    reports_of_orders aliases t.faction t.line (orders_of is_of a m.aliases m.readings)
    ∙ ap₂ (λ x y. map report_for (filter (is_at aliases t.faction t.line) (orders_of is_of a x y))) ea er
    ∙ ap (map report_for) (one_in_phase w aliases readings fit t there is_of a)
    ∙ one_reported t (is_of t.order_value.verb && order_counts (tasks_of aliases t.faction there.reading) t)

-- the reports of the events made for the orders `ts`, whatever came of them (`outcome`), are those of the orders
pub reports_made : (outcome : Task → Outcome) (ts : List Task)
    → map report_of (map (λ t. event_for t (outcome t)) ts) ≡ map report_for ts
reports_made outcome [] = refl
reports_made outcome (t ∷ ts) = ap (λ rs. report_for t ∷ rs) (reports_made outcome ts)

-- ---- orders in turn

-- X is what orders carried out in turn change besides the month, such as the campaign. Below, `step` carries out one
-- order: it makes of the X and the month before it those after it. Such an X with a month is p.
module _ {X : Type 0} where
  -- what `part` gives of the month stays the same over the orders `ts`, carried out from p on, if it does so over each
  pub fold_keeps : {A : Type 0} (part : MonthValue → A) (step : X × MonthValue → Task → X × MonthValue)
      → ((p : X × MonthValue) (t : Task) → part (step p t).1 ≡ part p.1) → (ts : List Task) (p : X × MonthValue)
      → part (fold step p ts).1 ≡ part p.1
  fold_keeps part step keeps [] p = refl
  fold_keeps part step keeps (t ∷ ts) p = fold_keeps part step keeps ts (step p t) ∙ keeps p t

  -- the orders `ts`, carried out in turn from p on, add an event for each, in their order, if each adds its event
  pub fold_adds : (step : X × MonthValue → Task → X × MonthValue)
      → ((p : X × MonthValue) (t : Task) → map report_of (step p t).1.events ≡ map report_of p.1.events ++ report_for t ∷ [])
      → (ts : List Task) (p : X × MonthValue)
      → map report_of (fold step p ts).1.events ≡ map report_of p.1.events ++ map report_for ts
  fold_adds step adds [] p = sym (append-nil (map report_of p.1.events))
  fold_adds step adds (t ∷ ts) p =
      fold_adds step adds ts (step p t) ∙ ap (λ rs. rs ++ map report_for ts) (adds p t)
      ∙ append_assoc (map report_of p.1.events) (report_for t ∷ []) (map report_for ts)

-- ---- a phase that carries its orders out one by one

-- of the orders that have a verb of the phase (`is_of`) and can be read with the world, `step` passes over (None) just
-- those that don't pass the test `takes`
abbrev pub TakesThose : OrderMeaning → (Verb → Bool) → (Task → Bool) → Type 0
TakesThose step is_of takes =
    (w : WorldValue) (a : Aliases) (t : Task) → is_of t.order_value.verb ≡ true → IsOrderOf w t.order_value → is_some
    (step w a t) ≡ takes t

-- the operands have the shape that the order table gives the verb
abbrev pub Fits : Verb → OperandsValue → Type 0
Fits v o = shape_of o ≡ (row_of v).shape

-- the test of a step that passes over none of its orders
abbrev pub all_orders : Task → Bool
all_orders t = true

-- a phase with the verbs that pass `is_of`. Of its orders `step` takes just those that pass `takes`, and passes over
-- the others (`takes_those`).
module _ (step : OrderMeaning) (is_of : Verb → Bool) (takes : Task → Bool) (takes_those : TakesThose step is_of takes) where
  -- an order adds its event, if the phase doesn't pass it over
  one_event : (c : CampaignValue) (m : MonthValue) (t : Task) (o : Option OrderEffect)
      → map report_of (with_event_of m t (order_result o c t.faction t.unit).1).events
      ≡ map report_of m.events ++ report_if (is_some o) t
  one_event c m t None = sym (append-nil (map report_of m.events))
  one_event c m t (Some effect) = map-append report_of m.events _

  kept : (m : MonthValue) (t : Task) (o : Option Outcome)
      → ((with_event_of m t o).readings ≡ m.readings) × ((with_event_of m t o).aliases ≡ m.aliases)
  kept m t None = (refl, refl)
  kept m t (Some outcome) = (refl, refl)

  in_front : (t : Task) (ts : List Task) (b : Bool)
      → report_if b t ++ map report_for ts ≡ map report_for (cond b (t ∷ ts) ts)
  in_front t ts true = refl
  in_front t ts false = refl

  -- orders carried out in turn add an event for each that isn't passed over, in their order
  all_events : (w : WorldValue) (aliases : Aliases) (ts : List Task) (c : CampaignValue) (m : MonthValue)
      → m.aliases ≡ aliases → AllByRecursion (λ t. is_some (step w aliases t) ≡ takes t) ts
      → map report_of (fold (one_order step w) (c, m) ts).1.events ≡ map report_of m.events ++ map report_for (filter takes ts)
  all_events w aliases [] c m ea all = sym (append-nil (map report_of m.events))
  all_events w aliases (t ∷ ts) c m ea all =
      let one = order_result (step w m.aliases t) c t.faction t.unit in
      let rest = filter takes ts in
      let taken : is_some (step w m.aliases t) ≡ takes t = ap (λ a. is_some (step w a t)) ea ∙ all.0 in
      all_events w aliases ts one.0 (with_event_of m t one.1) ((kept m t one.1).1 ∙ ea) all.1
      ∙ ap (λ rs. rs ++ map report_for rest) (one_event c m t (step w m.aliases t))
      ∙ append_assoc (map report_of m.events) (report_if (is_some (step w m.aliases t)) t) (map report_for rest)
      ∙ ap (λ rs. map report_of m.events ++ rs) (ap (λ b. report_if b t ++ map report_for rest) taken ∙ in_front t rest (takes t))

  -- each order of the phase is taken just if it passes the test
  all_taken : (w : WorldValue) (m : MonthValue) → AreFit w m.readings
      → AllByRecursion (λ t. is_some (step w m.aliases t) ≡ takes t) (orders_by_unit is_of m)
  all_taken w m fit =
      both (orders_by_unit is_of m) (orders_have_verbs is_of ByUnit m.aliases m.readings)
      (recursion_from_All (λ t. IsOrderOf w t.order_value) (orders_by_unit is_of m) (orders_fit w m.aliases m.readings fit is_of))
    where
      -- for `all_taken`: each of some orders is, if it has a verb of the phase and says what it is
      both : (ts : List Task) → AllByRecursion (λ t. is_of t.order_value.verb ≡ true) ts
          → AllByRecursion (λ t. IsOrderOf w t.order_value) ts
          → AllByRecursion (λ t. is_some (step w m.aliases t) ≡ takes t) ts
      both [] verbs says = tt
      both (t ∷ ts) verbs says = (takes_those w m.aliases t verbs.0 says.0, both ts verbs.1 says.1)

  -- If the mailings can be read with the world, a phase that carries its orders out one by one gives one event to each
  -- order of its verbs that counts and isn't passed over. It gives none to any other order (`Gives`).
  pub gives_by_orders : Gives (λ counts t. report_if (is_of t.order_value.verb && counts && takes t) t) (meaning_by_orders step is_of)
  unfolding meaning_by_orders
  gives_by_orders = record {
    events = λ w c m aliases readings ea er fit t there.
        let ts = orders_by_unit is_of m in
        let counts = order_counts (tasks_of aliases t.faction there.reading) t in
        ap (filter (is_from t.faction t.line)) (all_events w m.aliases ts c m refl (all_taken w m (subst (AreFit w) (sym er) fit)))
        ∙ filter-append (is_from t.faction t.line) (map report_of m.events) (map report_for (filter takes ts))
        ∙ ap (λ rs. reports_at t.faction t.line m ++ rs) (reports_of_orders aliases t.faction t.line (filter takes ts) ∙ ap (map report_for) (in_turn takes (is_at aliases t.faction t.line) ts)
        ∙ ap₂ (λ x y. map report_for (filter takes (filter (is_at aliases t.faction t.line) (orders_of is_of ByUnit x y)))) ea er
        ∙ ap (λ us. map report_for (filter takes us)) (one_in_phase w aliases readings fit t there is_of ByUnit) ∙ taken_one t (is_of t.order_value.verb && counts));
    readings = λ w c m. fold_keeps (λ x. x.readings) (one_order step w) (λ p t. (kept p.1 t (order_result (step w p.1.aliases t) p.0 t.faction t.unit).1).0) (orders_by_unit is_of m) (c, m);
    aliases = λ w c m. fold_keeps (λ x. x.aliases) (one_order step w) (λ p t. (kept p.1 t (order_result (step w p.1.aliases t) p.0 t.faction t.unit).1).1) (orders_by_unit is_of m) (c, m);
  }
    where
      -- for `gives_by_orders`: of one order, or of none, the report of the order is left if it passes the test
      taken_one : (t : Task) (b : Bool)
          → map report_for (filter takes (cond b (t ∷ []) [])) ≡ report_if (b && takes t) t
      taken_one t true =
          elim (takes t) as (λ b. map report_for (cond b (t ∷ []) []) ≡ report_if b t) [ true ↦ refl | false ↦ refl ]
      taken_one t false = refl
