-- STUDY, which follows TEACH: units pay the fee and gain days of a skill. See docs/RULES.md, "Learning".
use Rattle.std.specs.Prelude.{◌+◌, ◌-◌, ◌*◌, ◌==◌, ◌&&◌, ℕ, pos, neg_ℤ, min, nat_lt, Bool, false, [], ◌∷◌, Option, Some, None, if◌then◌else◌}
use Rattle.std.specs.List.{slice_get}
use Rattle.std.specs.Option.{option_map_or}
use Rattle.std.specs.FinMap.{get}
use Rattle.atl_world.specs.Worlds.{WorldValue}
use Rattle.atl_world.specs.declared.world.Kind.{Kind}
use Rattle.atl_world.specs.ByNumber.{fee_of, size_of}
use Rattle.atl_lines.specs.declared.order.Operands.TheVariants as operands
use Rattle.atl_lines.specs.Orders.{OperandsValue}
use Rattle.atl_records.specs.declared.books.BooksEntry.TheVariants.{Study}
use Rattle.atl_records.specs.declared.books.Thing.TheVariants.{Money}
use Rattle.atl_records.specs.declared.event.EventFault.{EventFault}
use Rattle.atl_records.specs.declared.event.EventFault.TheVariants.{NoFee, NoMen}
use Rattle.atl_records.specs.declared.event.Outcome.TheVariants.{Done}
use Rattle.atl_records.specs.declared.records.Structure.{Structure}
use Rattle.atl_records.specs.declared.records.Unit.{Unit}
use Rattle.atl_records.specs.Holdings.{HoldingValue, amount_of, with_amount_of}
use Rattle.atl_campaign.specs.Lending.{with_holding_at}
use Rattle.atl_records.specs.Limits.{most_days}
use Rattle.atl_campaign.specs.Campaign.{CampaignValue, with_booking}
use Rattle.atl_phase.specs.Meaning.{BookBound, Frame, Meaning, most_moved, moves_only}
use Rattle.atl_phase.specs.Outcomes.{fault_or, first_fault}
use Rattle.atl_phase.specs.OrderEffects.{IsOwnOrder, OrderEffect, OrderMeaning, meaning_by_orders, others_unaffected}
use Rattle.atl_phase.specs.NoWorse.{IsUnchanged}
use Rattle.atl_teaching.specs.Learners.{is_studying, learners}
use Rattle.atl_teaching.specs.Limits.{helped_days, month_days, taught_days}
use Rattle.atl_teaching.specs.Teach.{TaughtMen, after_lessons}
use Rattle.atl_phase.specs.PhaseSpecs.{PhaseSpec, books_money}

-- ---- days

-- whether a kind of structure helps the study of a skill
abbrev pub helps : (skill : ℕ) → Kind → Bool
helps s kind = option_map_or (λ helped. helped == s) kind.helps false

-- whether a structure is there, is complete, and is of a kind that helps the study of a skill
abbrev pub is_helpful : WorldValue → (skill : ℕ) → Option Structure → Bool
is_helpful w s structure =
    option_map_or (λ b. b.done == size_of w b.kind && option_map_or (helps s) (slice_get w.kinds b.kind) false) structure false

-- The days of a skill that a unit has after a month of study, at most 450 for each man. They are its `old` days, 30 for
-- each man, 30 for each of the `taught` men and, if `helped`, 10 for each man.
abbrev pub days_after : (men old taught : ℕ) → (helped : Bool) → ℕ
days_after men old taught helped =
    min (old + month_days * men + taught_days * taught + (if helped then helped_days * men else 0)) (most_days * men)

-- ---- STUDY, for a unit of which some men were taught

-- why a unit can't study: NoMen where it has none, or NoFee where it has less money than `cost`; None where it can
abbrev pub study_fault : HoldingValue → (cost : ℕ) → Option EventFault
study_fault h cost = first_fault ((h.men == 0, NoMen) ∷ (nat_lt h.money cost, NoFee) ∷ [])

-- a unit's holding with `cost` of money less (0 if it has less than that) and `days` of the skill; 0 days aren't listed
abbrev pub with_study : HoldingValue → (skill cost days : ℕ) → HoldingValue
with_study h s cost days = record h { money = h.money - cost; days = with_amount_of h.days s days }

-- the campaign after unit n (`u` before) paid `cost` and has `days` of the skill; minus `cost` is booked under study
abbrev pub after_study : CampaignValue → (n : ℕ) → Unit → (skill cost days : ℕ) → CampaignValue
after_study c n u s cost days =
    with_booking (with_holding_at c n (with_study u.holding s cost days) (Some u)) Study Money (neg_ℤ (pos cost))

-- The effect of STUDY for unit n, of whose men `taught` were taught: it pays the fee for each man and gains days of the
-- skill, and Done says how many. With a fault nothing changes, and the outcome is the fault.
unfoldable pub study : WorldValue → (taught n skill : ℕ) → OrderEffect
study w taught n s c u =
    let cost = fee_of w s * u.holding.men in
    let old = amount_of u.holding.days s in
    let days = days_after u.holding.men old taught (is_helpful w s (get c.structures u.structure)) in
    fault_or c (study_fault u.holding cost) (after_study c n u s cost days, Done (days - old))

-- The effect of an order of STUDY for unit n, by its operands; None where they name no skill. `taught` has how many men
-- of each unit were taught.
abbrev pub study_effect : WorldValue → TaughtMen → (n : ℕ) → OperandsValue → Option OrderEffect
study_effect w taught n (operands.Skill s) = Some (study w (taught n) n s)
study_effect w taught n other = None

-- the effect of order t of STUDY, where `taught` has how many men of each unit were taught; None if it names no skill
abbrev pub study_step : TaughtMen → OrderMeaning
study_step taught w aliases t = study_effect w taught t.unit t.order_value.operands

-- ---- the phase

-- The effect of the phase of TEACH and STUDY. First all orders of TEACH that count are carried out, for the units that
-- are learning as the phase begins. Then all of STUDY that count are, with how many men of each unit were taught.
abbrev pub learn_meaning : Meaning
learn_meaning w c m =
    let lessons = after_lessons c (learners w c m) m in
    meaning_by_orders (study_step lessons.0) is_studying w c lessons.1

-- what TEACH and STUDY keep: a unit for which no order of STUDY of its own faction counts is unchanged
abbrev pub learn_keeps : Frame
learn_keeps = others_unaffected IsOwnOrder IsUnchanged is_studying

-- ---- by how much the phase moves the books

-- how far TEACH and STUDY may move the books: money under the entry study by less than 10^14, and nothing else
abbrev pub study_moves : BookBound
study_moves = moves_only most_moved Study Money

-- the specification of the phase of TEACH and STUDY, which books only money under the entry study, by less than 10^14
abbrev pub learn_spec : PhaseSpec
learn_spec = books_money Study learn_meaning learn_keeps
