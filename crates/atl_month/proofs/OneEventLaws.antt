-- The law that each order that counts has exactly one event in the month: its phase gives it one, and no other phase
-- does. `t` is an order, `v` its verb, and `counts` tells whether it counts. What a phase adds for an order are the
-- reports of the events that it makes of the order's faction and on its line (`Gives`).
use Rattle.std.proofs.Common.{◌≡◌, ◌==◌, ◌&&◌, ◌++◌, ◌<◌, ℕ, Bool, true, false, not, cond, List, [], ◌∷◌, map, filter, refl, sym, ap, ◌∙◌, arith}
use Rattle.std.proofs.lemmas.List.{append-nil}
use Rattle.std.specs.FinMap.{FinMap, empty}
use Rattle.std.specs.Ordering.{nat_cmp}
use Rattle.atl_world.specs.Worlds.{WorldValue}
use Rattle.atl_world.specs.declared.verb.Verb.{Verb}
use Rattle.atl_world.specs.declared.verb.Verb.TheVariants as verbs
use Rattle.atl_orders.specs.Mailing.{Reading}
use Rattle.atl_lines.specs.Orders.{OperandsValue}
use Rattle.atl_world.proofs.EveryLaws.{other_number}
use Rattle.atl_campaign.specs.Campaign.{CampaignValue}
use Rattle.atl_phase.specs.Fit.{AreFit}
use Rattle.atl_phase.specs.Meaning.{Meaning, then_also}
use Rattle.atl_phase.specs.Month.{Aliases, MonthValue}
use Rattle.atl_phase.specs.PhaseOrders.{IsInMailing, Task, is_month_long, order_counts, tasks_of, unit_of}
use Rattle.atl_phase.specs.PhaseSpecs.{meaning_of}
use Rattle.atl_phase.specs.Reports.{Report, is_from, report_for, report_of}
use Rattle.atl_phase.proofs.EventLaws.{Gives, gives_both, report_if, reports_after, reports_at}
use Rattle.atl_phase.proofs.ReportLaws.{line_of_order, second_false}
use Rattle.atl_instant.specs.Form.{form_meaning, is_forming}
use Rattle.atl_instant.specs.Give.{give_spec, is_giving}
use Rattle.atl_instant.specs.Guard.{is_guarding}
use Rattle.atl_instant.specs.Name.{is_naming, name_spec}
use Rattle.atl_instant.specs.Place.{is_placing, place_spec}
use Rattle.atl_instant.specs.Quit.{is_quitting}
use Rattle.atl_instant.specs.Transfer.{is_transferring, transfer_spec}
use Rattle.atl_instant.proofs.TakenLaws.{form_gives, form_keeps_readings, give_gives, guard_gives, name_gives, names, place_gives, quit_gives, sets_guard, transfer_gives}
use Rattle.atl_teaching.specs.Learners.{is_studying}
use Rattle.atl_action.specs.Sail.{is_sailing}
use Rattle.atl_teaching.specs.Teach.{is_teaching}
use Rattle.atl_action.specs.Walk.{is_walking}
use Rattle.atl_action.proofs.TakenLaws.{learn_gives, sail_gives, walk_gives}
use Rattle.atl_market.specs.Build.{is_building}
use Rattle.atl_market.specs.Produce.{is_produce}
use Rattle.atl_market.specs.Recruit.{is_recruit, recruit_spec}
use Rattle.atl_market.specs.Tax.{is_tax, tax_spec}
use Rattle.atl_market.specs.Trade.{buy_spec, sell_spec}
use Rattle.atl_market.specs.Work.{is_work}
use Rattle.atl_market.proofs.TakenLaws.{build_gives, buy_gives, is_buying, is_selling, produce_gives, recruit_gives, sell_gives, tax_gives, work_gives}
use Rattle.atl_month.specs.Month.{last_phases, later_phases, month_meaning, new_month}
use Rattle.atl_month.specs.OneEvent.{EachOrderHasOneEvent, aliases_for}
use Rattle.atl_upkeep.specs.Season.{season_spec}
use Rattle.atl_upkeep.specs.Sweep.{sweep_spec}
use Rattle.atl_upkeep.specs.Upkeep.{starved_event, starves, upkeep_results, upkeep_spec}
use Rattle.atl_shares.specs.declared.upkeep_sharing.UpkeepResult.{UpkeepResult}

-- ---- the phases without orders

nothing_given : (meaning : Meaning) → ((w : WorldValue) (c : CampaignValue) (m : MonthValue) → (meaning w c m).1 ≡ m)
    → Gives (λ counts t. []) meaning
nothing_given meaning same = record {
  events = λ w c m aliases readings ea er fit t there. ap (reports_at t.faction t.line) (same w c m) ∙ sym (append-nil (reports_at t.faction t.line m));
  readings = λ w c m. ap (λ x. x.readings) (same w c m);
  aliases = λ w c m. ap (λ x. x.aliases) (same w c m);
}

none_starved : (faction line : ℕ) → 0 < line → (list : List UpkeepResult)
    → filter (is_from faction line) (map report_of (map starved_event list)) ≡ []
none_starved faction line low [] = refl
none_starved faction line low (s ∷ list) =
    let rest = filter (is_from faction line) (map report_of (map starved_event list)) in
    ap (λ b. cond b (report_of (starved_event s) ∷ rest) rest) (second_false (s.faction == faction) (0 == line) (other_number 0 line (λ same. absurd (omega (arith, low, same)))))
    ∙ none_starved faction line low list

upkeep_gives : Gives (λ counts t. []) upkeep_spec.meaning
upkeep_gives = record {
  events = λ w c m aliases readings ea er fit t there.
      reports_after t.faction t.line m (map starved_event (filter starves (upkeep_results w c)))
      ∙ ap (λ rs. reports_at t.faction t.line m ++ rs) (none_starved t.faction t.line (line_of_order w aliases readings fit t there) (filter starves (upkeep_results w c)));
  readings = λ w c m. refl;
  aliases = λ w c m. refl;
}

-- ---- the phases after FORM

-- What the phases from NAME to TRANSFER add for an order, by its verb, by whether NAME's phase carries it out, and by
-- whether it counts.
abbrev goods_added : Verb → (named counts : Bool) → Task → List Report
goods_added v named counts t =
    report_if (is_naming v && counts && named) t ++ (report_if (is_placing v && counts && true) t
    ++ (report_if (is_giving v && counts && true) t ++ report_if (is_transferring v && counts && true) t))

-- what the phases from SELL to RECRUIT add
abbrev pots_added : Verb → Bool → Task → List Report
pots_added v counts t =
    report_if (is_selling v && counts) t ++ (report_if (is_buying v && counts) t
    ++ (report_if (is_tax v && counts) t ++ report_if (is_recruit v && counts) t))

-- what the phases from GUARD 1 to PRODUCE add, also by whether it is GUARD 1
abbrev later_added : Verb → (guards counts : Bool) → Task → List Report
later_added v guards counts t =
    report_if (is_guarding v && counts && guards) t ++ (report_if (is_quitting v && counts && true) t
    ++ (report_if (is_walking v && counts && true) t ++ (report_if (is_sailing v && counts && true) t
    ++ (report_if (is_building v && counts && true) t
    ++ ((report_if (is_teaching v && counts) t ++ report_if (is_studying v && counts && true) t)
    ++ report_if (is_produce v && counts) t)))))

-- what WORK and the phases after it add
abbrev last_added : Verb → Bool → Task → List Report
last_added v counts t = report_if (is_work v && (is_month_long v && counts)) t ++ ([] ++ ([] ++ []))

-- what all phases after FORM add
abbrev all_added : Verb → (named guards counts : Bool) → Task → List Report
all_added v named guards counts t =
    ((goods_added v named counts t ++ pots_added v counts t) ++ later_added v guards counts t) ++ last_added v counts t

-- what all phases after FORM add for an order, by whether it counts
abbrev added_for : Bool → Task → List Report
added_for counts t =
    all_added t.order_value.verb (names t.order_value.verb t.order_value.operands) (sets_guard t.order_value.operands)
    counts t

-- the phases from NAME to TRANSFER
abbrev goods_meaning : Meaning
goods_meaning = meaning_of (name_spec ∷ place_spec ∷ give_spec ∷ transfer_spec ∷ [])

-- the phases from SELL to RECRUIT
abbrev pots_meaning : Meaning
pots_meaning = meaning_of (sell_spec ∷ buy_spec ∷ tax_spec ∷ recruit_spec ∷ [])

-- all phases after FORM
abbrev rest_meaning : Meaning
rest_meaning =
    then_also (then_also (then_also goods_meaning pots_meaning) (meaning_of later_phases)) (meaning_of last_phases)

-- the phases after FORM add what `all_added` says
rest_gives : Gives added_for rest_meaning
rest_gives =
    gives_both (gives_both (gives_both goods pots) later) last
  where
    goods : Gives (λ counts t. goods_added t.order_value.verb (names t.order_value.verb t.order_value.operands) counts t) goods_meaning
    goods = gives_both name_gives (gives_both place_gives (gives_both give_gives transfer_gives))

    pots : Gives (λ counts t. pots_added t.order_value.verb counts t) pots_meaning
    pots = gives_both sell_gives (gives_both buy_gives (gives_both tax_gives recruit_gives))

    later : Gives (λ counts t. later_added t.order_value.verb (sets_guard t.order_value.operands) counts t) (meaning_of later_phases)
    later =
        gives_both guard_gives
        (gives_both quit_gives (gives_both walk_gives (gives_both sail_gives (gives_both build_gives (gives_both learn_gives produce_gives)))))

    last : Gives (λ counts t. last_added t.order_value.verb counts t) (meaning_of last_phases)
    last =
        gives_both work_gives
        (gives_both upkeep_gives (gives_both (nothing_given season_spec.meaning (λ w c m. refl)) (nothing_given sweep_spec.meaning (λ w c m. refl))))

-- ---- one event

-- FORM adds the event of an order of FORM, and the other phases that of an order of another verb
one_added : (v : Verb) (o : OperandsValue) (x y : Bool) (t u : Task)
    → report_if (is_forming v && x) t ++ all_added v (names v o) (sets_guard o) y u
    ≡ cond (is_forming v) (report_if x t) (report_if y u)
one_added verbs.Form o true y t u = refl
one_added verbs.Form o false y t u = refl
one_added verbs.Guard o x y t u = by_flag (sets_guard o) y
  where
    -- an order of GUARD is of one of its two phases
    by_flag : (guards y : Bool) → all_added verbs.Guard (not guards) guards y u ≡ report_if y u
    by_flag true true = refl
    by_flag true false = refl
    by_flag false true = refl
    by_flag false false = refl
one_added v o x true t u = refl
one_added v o x false t u = refl

-- `readings` has by faction its mailing as read, which fits the world (`fit`), and `words` are the words of the dice
-- for the month
module _ (w : WorldValue) (c : CampaignValue) (readings : FinMap nat_cmp Reading) (words : List ℕ) (fit : AreFit w readings) where
  -- the month as its first phase begins
  abbrev before : MonthValue
  before = new_month readings words

  -- the campaign and the month after FORM
  abbrev formed : CampaignValue × MonthValue
  formed = form_meaning w c before

  -- the month after all phases
  abbrev after : MonthValue
  after = (month_meaning w c before).1

  -- `t` is an order of a mailing, whose unit is found by the aliases `by`
  module _ (t : Task) {by : Aliases} (there : IsInMailing by readings t) where
    -- the order with its unit by some aliases
    abbrev read_by : Aliases → Task
    read_by aliases = record t { unit = unit_of aliases t.faction there.entry.target }

    -- the order, with its unit by some aliases, is in the mailing as it is read with these
    abbrev there_by : (aliases : Aliases) → IsInMailing aliases readings (read_by aliases)
    there_by aliases =
        record { reading = there.reading; entry = there.entry; of_faction = there.of_faction; at_index = there.at_index; for_unit = refl; on_line = there.on_line; says = there.says }

    -- whether the order counts, with the units of its mailing by some aliases
    abbrev counts_by : Aliases → Bool
    counts_by aliases = order_counts (tasks_of aliases t.faction there.reading) (read_by aliases)

    -- the phases after FORM keep the aliases that FORM made
    made : formed.1.aliases ≡ after.aliases
    made = sym (rest_gives.aliases w formed.0 formed.1)

    -- the month has what FORM adds for the order, and then what the other phases add
    all_reports : reports_at t.faction t.line after
        ≡ report_if (is_forming t.order_value.verb && counts_by empty) (read_by empty) ++ added_for (counts_by after.aliases) (read_by after.aliases)
    all_reports =
        rest_gives.events w formed.0 formed.1 after.aliases readings made (form_keeps_readings w c before) fit (read_by after.aliases) (there_by after.aliases)
        ∙ ap (λ rs. rs ++ added_for (counts_by after.aliases) (read_by after.aliases))
        (form_gives w c before readings refl fit (read_by empty) (there_by empty))

    -- an order that counts as it is read by these aliases has its report
    own_report : order_counts (tasks_of by t.faction there.reading) t ≡ true
        → report_if (counts_by by) (read_by by) ≡ report_for t ∷ []
    own_report counts =
        let same : read_by by ≡ t = λ i. record t { unit = there.for_unit i } in
        ap (λ u. report_if (order_counts (tasks_of by t.faction there.reading) u) u) same
        ∙ ap (λ b. report_if b t) counts

  -- an order that counts as the phase of its verb reads it has its report
  report_of_verb : (t : Task) (v : Verb) (there : IsInMailing (aliases_for v after.aliases) readings t)
      → order_counts (tasks_of (aliases_for v after.aliases) t.faction there.reading) t ≡ true
      → cond (is_forming v) (report_if (counts_by t there empty) (read_by t there empty)) (report_if (counts_by t there after.aliases) (read_by t there after.aliases)) ≡ report_for t ∷ []
  report_of_verb t verbs.Form there counts = own_report t there counts
  report_of_verb t v there counts = own_report t there counts

-- each order that counts has exactly one event in the month, if the mailings can be read with the world
pub each_order_has_one_event : EachOrderHasOneEvent
each_order_has_one_event w c readings words fit t counted =
    let v = t.order_value.verb in
    let there = counted.there in
    let made = (month_meaning w c (new_month readings words)).1.aliases in
    all_reports w c readings words fit t there
    ∙ one_added v t.order_value.operands (counts_by w c readings words fit t there empty) (counts_by w c readings words fit t there made) (read_by w c readings words fit t there empty) (read_by w c readings words fit t there made)
    ∙ report_of_verb w c readings words fit t v there counted.counts
