-- Laws of TEACH: of no unit more men are taught in a month than it has.
use Rattle.std.proofs.Common.{ℕ, ◌-◌, ◌*◌, ◌≤◌, List, [], ◌∷◌, Option, Some, None, filter, map, arith}
use Rattle.std.specs.Prelude.{fold}
use Rattle.std.proofs.lemmas.Bool.Decides.{nat_tests}
use Rattle.std.specs.Option.{option_map_or}
use Rattle.atl_records.specs.declared.event.EventFault.{EventFault}
use Rattle.atl_records.specs.declared.event.Outcome.TheVariants.{Fault}
use Rattle.atl_records.specs.Events.{event_fault_number}
use Rattle.atl_campaign.specs.Campaign.{CampaignValue}
use Rattle.atl_phase.specs.Month.{Aliases, MonthValue}
use Rattle.atl_phase.specs.Inside.{region_of}
use Rattle.atl_phase.specs.PhaseOrders.{Task, orders_of, unit_of}
use Rattle.atl_phase.specs.declared.phase_order.Arrangement.TheVariants.{ByUnit}
use Rattle.atl_teaching.specs.Learners.{Learning}
use Rattle.atl_teaching.specs.Limits.{pupils_per_teacher}
use Rattle.atl_teaching.specs.Teach.{AreTaughtOnce, NobodyIsTaughtTwice, TaughtMen, after_lessons, first_mentions, is_below, is_pupil, is_teaching, lesson, listed_units, men_at, taught_in_lesson, teach, teach_fault, teach_order, untaught_men}

-- Below, `taught` has by unit how many of its men were taught so far, and `places` is how many more men a teacher can
-- teach. `ns` are the numbers of the pupils, in the order in which they are taught.
module _ (c : CampaignValue) where
  few_in_lesson : (taught : TaughtMen) (places : ℕ) (ns : List ℕ) (n : ℕ)
      → taught_in_lesson c taught places ns n ≤ untaught_men c taught n
  few_in_lesson taught places [] n = omega arith
  few_in_lesson taught places (k ∷ ns) n = let rest = few_in_lesson taught (places - untaught_men c taught k) ns n in grind (arith, nat_tests, rest)

  once_lesson : (taught : TaughtMen) (places : ℕ) (ns : List ℕ) → AreTaughtOnce c taught
      → AreTaughtOnce c (lesson c taught places ns).0
  once_lesson taught places ns old n = omega (arith, old n, few_in_lesson taught places ns n)

  once_taught : (aliases : Aliases) (learning : Learning) (taught : TaughtMen) (t : Task) → AreTaughtOnce c taught
      → AreTaughtOnce c (teach c aliases learning taught t).0
  unfolding teach
  once_taught aliases learning taught t old =
      let pupils = filter (is_pupil c learning (region_of c t.unit)) (map (unit_of aliases t.faction) (listed_units t.order_value.operands)) in
      let below = filter (is_below c learning t.unit) pupils in
      by_fault (first_mentions below) (teach_fault c t pupils below)
    where
      by_fault : (ns : List ℕ) (o : Option EventFault)
          → AreTaughtOnce c (option_map_or (λ fault. (taught, Fault (event_fault_number fault))) o (lesson c taught (pupils_per_teacher * men_at c t.unit) ns)).0
      by_fault ns (Some fault) = old
      by_fault ns None = once_lesson taught (pupils_per_teacher * men_at c t.unit) ns old

  once_all : (learning : Learning) (ts : List Task) (p : TaughtMen × MonthValue) → AreTaughtOnce c p.0
      → AreTaughtOnce c (fold (teach_order c learning) p ts).0
  once_all learning [] p old = old
  once_all learning (t ∷ ts) p old =
      once_all learning ts (teach_order c learning p t) (once_taught p.1.aliases learning p.0 t old)

-- after all orders of TEACH of a month, of no unit more men were taught than it has
pub nobody_twice : NobodyIsTaughtTwice
unfolding after_lessons
nobody_twice c learning m =
    once_all c learning (orders_of is_teaching ByUnit m.aliases m.readings) ((λ n. 0), m) (λ n. omega arith)
