-- TEACH: people teach units that are learning. See docs/RULES.md, "Learning". The pupils of an order are the units of
-- its list that are learning in the teacher's region, and the teacher is the unit that the order is for.
use Rattle.std.specs.Prelude.{◌≤◌, ◌+◌, ◌-◌, ◌*◌, ◌==◌, ◌&&◌, ℕ, min, nat_lt, not, is_some, Bool, true, false, List, [], ◌∷◌, filter, fold, length, map, sum_by, Option, Some, if◌then◌else◌}
use Rattle.std.specs.Option.{option_map_or}
use Rattle.std.specs.FinMap.{get}
use Rattle.atl_lines.specs.declared.order.Operands.TheVariants as operands
use Rattle.atl_lines.specs.declared.order.UnitRef.{UnitRef}
use Rattle.atl_world.specs.declared.verb.Verb.{Verb}
use Rattle.atl_world.specs.declared.verb.Verb.TheVariants as verbs
use Rattle.atl_lines.specs.Orders.{OperandsValue}
use Rattle.atl_records.specs.declared.event.EventFault.{EventFault}
use Rattle.atl_records.specs.declared.event.EventFault.TheVariants.{CannotTeach, NoMen, NotLearning, NotYours}
use Rattle.atl_records.specs.declared.event.Outcome.{Outcome}
use Rattle.atl_records.specs.declared.event.Outcome.TheVariants.{Done, Fault}
use Rattle.atl_records.specs.Events.{event_fault_number}
use Rattle.atl_records.specs.Levels.{level_in}
use Rattle.atl_campaign.specs.Campaign.{CampaignValue}
use Rattle.atl_phase.specs.Month.{Aliases, MonthValue}
use Rattle.atl_phase.specs.Inside.{region_of}
use Rattle.atl_phase.specs.Outcomes.{first_fault}
use Rattle.atl_phase.specs.PhaseOrders.{Task, orders_by_unit, unit_of}
use Rattle.atl_phase.specs.OrderEffects.{is_own, with_event_of}
use Rattle.atl_teaching.specs.Learners.{Learning}
use Rattle.atl_teaching.specs.Limits.{pupils_per_teacher}

-- whether a verb is TEACH
abbrev pub is_teaching : Verb → Bool
is_teaching verbs.Teach = true
is_teaching verb = false

-- the units that an order of TEACH lists; none for operands of any other form
abbrev pub listed_units : OperandsValue → List UnitRef
listed_units (operands.Units refs) = refs
listed_units order = []

-- how many men of each unit were taught so far in this month, by the units' numbers
abbrev pub TaughtMen : Type 0
TaughtMen = ℕ → ℕ

-- ---- which of the listed units are taught

-- the level of unit n in a skill; 0 where it isn't there
abbrev pub level_at : CampaignValue → (n skill : ℕ) → ℕ
level_at c n s = option_map_or (λ u. level_in u.holding s) (get c.units n) 0

-- whether unit n is learning, and is in this region
abbrev pub is_pupil : CampaignValue → Learning → (region n : ℕ) → Bool
is_pupil c learning region n = is_some (get learning n) && region_of c n == region

-- the pupils of an order of TEACH, in the order of its list, each as often as it is listed
abbrev pub pupils_of : CampaignValue → Aliases → Learning → Task → List ℕ
pupils_of c aliases learning t =
    filter (is_pupil c learning (region_of c t.unit))
    (map (unit_of aliases t.faction) (listed_units t.order_value.operands))

-- whether unit n's level in the skill that it learns is lower than the teacher's; false where it isn't learning
abbrev pub is_below : CampaignValue → Learning → (teacher n : ℕ) → Bool
is_below c learning teacher n = option_map_or (λ s. nat_lt (level_at c n s) (level_at c teacher s)) (get learning n) false

-- a list of numbers without repetitions: each number stays only where it is first listed
abbrev pub first_mentions : List ℕ → List ℕ
first_mentions [] = []
first_mentions (n ∷ ns) = n ∷ filter (λ k. not (k == n)) (first_mentions ns)

-- ---- a lesson

-- how many men unit n has; 0 where it isn't there
abbrev pub men_at : CampaignValue → (n : ℕ) → ℕ
men_at c n = option_map_or (λ u. u.holding.men) (get c.units n) 0

-- how many men of unit n weren't taught yet in this month; 0 where the unit isn't there
abbrev pub untaught_men : CampaignValue → TaughtMen → (n : ℕ) → ℕ
untaught_men c taught n = men_at c n - taught n

-- How many men of unit n are taught in a lesson for `places` men. The units, each listed once, take turns: each gets
-- the places that the units before it leave, up to its untaught men. It is 0 where n isn't listed.
abbrev pub taught_in_lesson : CampaignValue → TaughtMen → (places : ℕ) → List ℕ → (n : ℕ) → ℕ
taught_in_lesson c taught places [] n = 0
taught_in_lesson c taught places (k ∷ ns) n =
    let untaught = untaught_men c taught k in
    if n == k then min places untaught else taught_in_lesson c taught (places - untaught) ns n

-- How many men of each unit were taught so far once a lesson for `places` men to the units `ns`, each listed once, is
-- over; and the lesson's outcome, Done with how many men it taught.
abbrev pub lesson : CampaignValue → TaughtMen → (places : ℕ) → List ℕ → TaughtMen × Outcome
lesson c taught places ns =
    ((λ n. taught n + taught_in_lesson c taught places ns n), Done (min (sum_by (untaught_men c taught) ns) places))

-- ---- TEACH

-- Why the unit of an order can't teach; None where it can. It is the first that fits of NotYours, NoMen, NotLearning
-- (it has no `pupils`) and CannotTeach (none of them is in `below`, those with a lower level than the unit).
abbrev pub teach_fault : CampaignValue → Task → (pupils below : List ℕ) → Option EventFault
teach_fault c t pupils below = first_fault (
    (not (is_own c t), NotYours)
    ∷ (men_at c t.unit == 0, NoMen)
    ∷ (length pupils == 0, NotLearning)
    ∷ (length below == 0, CannotTeach)
    ∷ [])

-- How many men of each unit were taught so far after an order of TEACH, and its outcome. The unit has a lesson with 10
-- places for each of its men, for its pupils of a lower level, each where it is first listed. With a fault it teaches
-- nobody, and the outcome is the fault.
unfoldable pub teach : CampaignValue → Aliases → Learning → TaughtMen → Task → TaughtMen × Outcome
teach c aliases learning taught t =
    let pupils = pupils_of c aliases learning t in
    let below = filter (is_below c learning t.unit) pupils in
    option_map_or (λ fault. (taught, Fault (event_fault_number fault))) (teach_fault c t pupils below)
    (lesson c taught (pupils_per_teacher * men_at c t.unit) (first_mentions below))

-- ---- all orders of TEACH

-- how many men of each unit were taught so far after an order of TEACH, and the month with its event
abbrev pub teach_order : CampaignValue → Learning → TaughtMen × MonthValue → Task → TaughtMen × MonthValue
teach_order c learning (taught, m) t =
    let after = teach c m.aliases learning taught t in (after.0, with_event_of m t (Some after.1))

-- How many men of each unit were taught by all orders of TEACH that count, one after the other by unit, line and
-- faction; and the month with their events. Nobody was taught before.
unfoldable pub after_lessons : CampaignValue → Learning → MonthValue → TaughtMen × MonthValue
after_lessons c learning m = fold (teach_order c learning) ((λ n. 0), m) (orders_by_unit is_teaching m)

-- ---- a law: of no unit more men are taught in a month than it has

-- of no unit more men were taught than it has in the campaign, and of a number without a unit none
abbrev pub AreTaughtOnce : CampaignValue → TaughtMen → Type 0
AreTaughtOnce c taught = (n : ℕ) → taught n ≤ men_at c n

-- A law: whichever units are learning, all orders of TEACH of a month together teach of no unit more men than it has.
abbrev pub NobodyIsTaughtTwice : Type 0
NobodyIsTaughtTwice = (c : CampaignValue) (learning : Learning) (m : MonthValue) → AreTaughtOnce c (after_lessons c learning m).0
