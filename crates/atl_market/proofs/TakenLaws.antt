-- Laws of the events of BUILD and of the phases with pots: each gives an event to each of its orders. Each law
-- (`Gives`) says what the phase adds to the events of the faction and line of an order `t` of a mailing. It adds one
-- event, that of `t`, if `t` is an order of the phase and counts in its mailing (`counts`), and else none. This
-- supposes that the mailings can be read with the world (`AreFit`). It says nothing of outcomes. The phase keeps the
-- mailings and the aliases, which are mailings' numbers for units that FORM makes.
use Rattle.std.proofs.Common.{◌≡◌, ◌==◌, ◌&&◌, ◌++◌, ◌<◌, ℕ, zero, suc, Bool, true, false, cond, List, [], ◌∷◌, length, map, filter, is_some, Some, None, refl, sym, ap, ap₂, subst, ◌∙◌, arith}
use Rattle.std.specs.Cmp.Lexicographic.{slice_cmp}
use Rattle.std.specs.FinMap.{entries, from_entries, values}
use Rattle.std.specs.List.{IsDistinct, slice_get}
use Rattle.std.specs.Option.{option_map}
use Rattle.std.specs.Ordering.{nat_cmp}
use Rattle.std.proofs.lemmas.List.{append-nil}
use Rattle.std.proofs.lemmas.List.Elements.{filter-append}
use Rattle.atl_lines.specs.declared.order.Operands.TheVariants as operands
use Rattle.atl_world.specs.declared.verb.Verb.{Verb}
use Rattle.atl_world.specs.declared.verb.Verb.TheVariants as verbs
use Rattle.atl_orders.specs.Bounds.{AreOperandsOf}
use Rattle.atl_lines.specs.Orders.{OperandsValue}
use Rattle.atl_records.specs.declared.records.Unit.{Unit}
use Rattle.atl_world.proofs.EveryLaws.{other_number}
use Rattle.atl_campaign.specs.Campaign.{CampaignValue}
use Rattle.atl_phase.specs.declared.phase_order.Arrangement.TheVariants.{ByUnit}
use Rattle.atl_phase.specs.Month.{Aliases, MonthValue}
use Rattle.atl_phase.specs.PhaseOrders.{Task, is_month_long, key_of, order_counts, orders_by_unit, orders_of, tasks_of}
use Rattle.atl_phase.specs.Reports.{is_from, report_for}
use Rattle.atl_phase.proofs.EventLaws.{Fits, Gives, TakesThose, all_orders, gives_by_orders, one_reported, report_if, report_in_phase, reports_after, reports_at, reports_made, reports_of_orders}
use Rattle.atl_phase.proofs.PickedLaws.{sorted-passing}
use Rattle.atl_phase.proofs.ReportLaws.{alone, in_turn, is_at, line_of_order, one_in_phase, second_false}
use Rattle.atl_market.specs.Build.{build_effect, build_spec, build_step, is_building}
use Rattle.atl_market.specs.PotPhase.{PotMeaning, events_by, given_by, outcome_of, pots_by_orders, unit_for}
use Rattle.atl_market.specs.Produce.{is_produce, produce_spec}
use Rattle.atl_market.specs.Recruit.{is_recruit, recruit_spec}
use Rattle.atl_market.specs.Tax.{is_tax, tax_spec}
use Rattle.atl_market.specs.Trade.{buy_spec, is_trade, sell_spec}
use Rattle.atl_market.specs.declared.trade.Trade.TheVariants.{Buy, Sell}
use Rattle.atl_market.specs.Work.{idle_task, idle_work, is_idle, is_work, work_orders, work_pots, work_spec, written_work}
use Rattle.atl_market.proofs.WorkOrderLaws.{all_are, have_same_key, month_long_keys_differ, work_apart}

-- ---- BUILD

build_takes : TakesThose build_step is_building all_orders
build_takes w a t of_phase fit = by_verb t.order_value.verb t.order_value.operands of_phase fit.shape fit.operands
  where
    is_there : {A B : Type 0} (f : A → B) (xs : List A) (i : ℕ) → i < length xs
        → is_some (option_map f (slice_get xs i)) ≡ true
    is_there f [] i inside = absurd (omega (arith, inside))
    is_there f (x ∷ xs) zero inside = refl
    is_there f (x ∷ xs) (suc i) inside = is_there f xs i (omega (arith, inside))

    -- operands of the shape of BUILD, with a kind of the world or none, have an effect
    by_verb : (v : Verb) (o : OperandsValue) → is_building v ≡ true → Fits v o → AreOperandsOf w o
        → is_some (build_effect w t.unit o) ≡ true
    by_verb verbs.Build (operands.Kind None) of_phase fits within = refl
    by_verb verbs.Build (operands.Kind (Some kind)) of_phase fits within = is_there _ w.kinds kind within
    by_verb verbs.Build o of_phase fits within = cc
    by_verb v o of_phase fits within = cc

-- the phase gives one event to each order of BUILD that counts, and none to any other order of a mailing (`Gives`)
pub build_gives : Gives (λ counts t. report_if (is_building t.order_value.verb && counts && true) t) build_spec.meaning
build_gives = gives_by_orders build_step is_building all_orders build_takes

-- ---- phases with pots

-- a phase with pots gives an event to each order of its verbs
pots_give : (p : PotMeaning) (is_of : Verb → Bool)
    → Gives (λ counts t. report_if (is_of t.order_value.verb && counts) t) (pots_by_orders p is_of)
unfolding events_by
pots_give p is_of = record {
  events = λ w c m aliases readings ea er fit t there.
      let ts = orders_by_unit is_of m in
      reports_after t.faction t.line m (events_by p w c ts)
      ∙ ap (λ rs. reports_at t.faction t.line m ++ filter (is_from t.faction t.line) rs) (reports_made (λ u. outcome_of p w c (given_by p w c ts) u (unit_for p w c u)) ts)
      ∙ ap (λ rs. reports_at t.faction t.line m ++ rs) (report_in_phase w m aliases readings ea er fit t there is_of ByUnit);
  readings = λ w c m. refl;
  aliases = λ w c m. refl;
}

-- whether a verb is SELL
abbrev pub is_selling : Verb → Bool
is_selling = is_trade Sell

-- whether a verb is BUY
abbrev pub is_buying : Verb → Bool
is_buying = is_trade Buy

-- the phase gives one event to each order of SELL that counts, and none to any other order of a mailing (`Gives`)
pub sell_gives : Gives (λ counts t. report_if (is_selling t.order_value.verb && counts) t) sell_spec.meaning
sell_gives = pots_give _ is_selling

-- the phase gives one event to each order of BUY that counts, and none to any other order of a mailing (`Gives`)
pub buy_gives : Gives (λ counts t. report_if (is_buying t.order_value.verb && counts) t) buy_spec.meaning
buy_gives = pots_give _ is_buying

-- the phase gives one event to each order of TAX that counts, and none to any other order of a mailing (`Gives`)
pub tax_gives : Gives (λ counts t. report_if (is_tax t.order_value.verb && counts) t) tax_spec.meaning
tax_gives = pots_give _ is_tax

-- the phase gives one event to each order of RECRUIT that counts, and none to any other order of a mailing (`Gives`)
pub recruit_gives : Gives (λ counts t. report_if (is_recruit t.order_value.verb && counts) t) recruit_spec.meaning
recruit_gives = pots_give _ is_recruit

-- the phase gives one event to each order of PRODUCE that counts, and none to any other order of a mailing (`Gives`)
pub produce_gives : Gives (λ counts t. report_if (is_produce t.order_value.verb && counts) t) produce_spec.meaning
produce_gives = pots_give _ is_produce

-- ---- WORK

-- a line of a faction's mailing: lines count from 1 (`low`), and the orders of WORK for units without one are on line 0
module _ (c : CampaignValue) (aliases : Aliases) (faction line : ℕ) (low : 0 < line) where
  -- whether an order is of the faction and on the line
  abbrev at : Task → Bool
  at = is_at aliases faction line

  -- no unit works on the line without an order
  none_idle : (es : List (ℕ × Unit)) → filter at (map (λ e. idle_task e.0 e.1.faction) es) ≡ []
  none_idle [] = refl
  none_idle (e ∷ es) =
      let rest = filter at (map (λ e. idle_task e.0 e.1.faction) es) in
      ap (λ b. cond b (idle_task e.0 e.1.faction ∷ rest) rest) (second_false (e.1.faction == faction) (0 == line) (other_number 0 line (λ same. absurd (omega (arith, low, same)))))
      ∙ none_idle es

  -- the orders of WORK on the line are the written ones there
  work_left : (m : MonthValue)
      → filter at (work_orders c m)
      ≡ values (from_entries {R = slice_cmp nat_cmp} (map (λ u. (key_of ByUnit u, u)) (filter (λ u. is_work u.order_value.verb) (filter at (orders_by_unit is_month_long m)))))
  unfolding work_orders
  work_left m =
      let ts = orders_by_unit is_month_long m in
      sym (sorted-passing ByUnit at (written_work ts ++ idle_work c ts) (subst (IsDistinct have_same_key) (all_are c ts) (work_apart c ts (month_long_keys_differ m))))
      ∙ ap (λ us. values (from_entries {R = slice_cmp nat_cmp} (map (λ u. (key_of ByUnit u, u)) us)))
      (filter-append at (written_work ts) (idle_work c ts) ∙ ap₂ (λ us vs. us ++ vs) (in_turn (λ u. is_work u.order_value.verb) at ts) (none_idle (filter (is_idle ts) (entries c.units))) ∙ append-nil _)

-- the phase gives one event to each order of WORK that counts, and none to any other order of a mailing (`Gives`)
pub work_gives : Gives (λ counts t. report_if (is_work t.order_value.verb && (is_month_long t.order_value.verb && counts)) t) work_spec.meaning
unfolding events_by
work_gives = record {
  events = λ w c m aliases readings ea er fit t there.
      let ts = work_orders c m in
      let passing = λ (u : Task). is_work u.order_value.verb in
      let month_long = is_month_long t.order_value.verb && order_counts (tasks_of aliases t.faction there.reading) t in
      let sorted = λ (us : List Task). values (from_entries {R = slice_cmp nat_cmp} (map (λ u. (key_of ByUnit u, u)) us)) in
      reports_after t.faction t.line m (events_by work_pots w c ts)
      ∙ ap (λ rs. reports_at t.faction t.line m ++ filter (is_from t.faction t.line) rs) (reports_made (λ u. outcome_of work_pots w c (given_by work_pots w c ts) u (unit_for work_pots w c u)) ts)
      ∙ ap (λ rs. reports_at t.faction t.line m ++ rs) (reports_of_orders aliases t.faction t.line ts
      ∙ ap (map report_for) (work_left c aliases t.faction t.line (line_of_order w aliases readings fit t there) m
      ∙ ap₂ (λ x y. sorted (filter passing (filter (is_at aliases t.faction t.line) (orders_of is_month_long ByUnit x y)))) ea er
      ∙ ap (λ us. sorted (filter passing us)) (one_in_phase w aliases readings fit t there is_month_long ByUnit)
      ∙ ap sorted (passing_one t month_long) ∙ alone t ByUnit (is_work t.order_value.verb && month_long))
      ∙ one_reported t (is_work t.order_value.verb && month_long));
  readings = λ w c m. refl;
  aliases = λ w c m. refl;
}
  where
    -- of one order, or of none, the order is left if it is one of WORK
    passing_one : (t : Task) (b : Bool)
        → filter (λ u. is_work u.order_value.verb) (cond b (t ∷ []) [])
        ≡ cond (is_work t.order_value.verb && b) (t ∷ []) []
    passing_one t true =
        elim (is_work t.order_value.verb) as (λ x. cond x (t ∷ []) [] ≡ cond (x && true) (t ∷ []) [])
        [ true ↦ refl | false ↦ refl ]
    passing_one t false =
        elim (is_work t.order_value.verb) as (λ x. [] ≡ cond (x && false) (t ∷ []) []) [ true ↦ refl | false ↦ refl ]
