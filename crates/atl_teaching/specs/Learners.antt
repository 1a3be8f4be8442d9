-- The units that are learning as the phase of TEACH and STUDY begins. See docs/RULES.md, "Learning".
use Rattle.std.specs.Prelude.{◌≡◌, ◌*◌, ◌==◌, ◌&&◌, ℕ, nat_le, nat_lt, Bool, true, false, List, fold, Option, Some, None, if◌then◌else◌}
use Rattle.std.specs.List.{Contains}
use Rattle.std.specs.Option.{option_map_or}
use Rattle.std.specs.Ordering.{nat_cmp}
use Rattle.std.specs.FinMap.{FinMap, empty, get, insert}
use Rattle.atl_world.specs.ByNumber.{fee_of}
use Rattle.atl_world.specs.Worlds.{WorldValue}
use Rattle.atl_lines.specs.declared.order.Operands.TheVariants as operands
use Rattle.atl_world.specs.declared.verb.Verb.{Verb}
use Rattle.atl_world.specs.declared.verb.Verb.TheVariants as verbs
use Rattle.atl_lines.specs.Orders.{OperandsValue}
use Rattle.atl_records.specs.declared.records.Unit.{Unit}
use Rattle.atl_world.specs.Every.{HasValue}
use Rattle.atl_records.specs.Holdings.{HoldingValue}
use Rattle.atl_campaign.specs.Campaign.{CampaignValue}
use Rattle.atl_phase.specs.Month.{MonthValue}
use Rattle.atl_phase.specs.PhaseOrders.{Task, orders_by_unit}

-- whether a verb is STUDY
abbrev pub is_studying : Verb → Bool
is_studying verbs.Study = true
is_studying verb = false

-- the skill that an order of STUDY names; None for operands of any other form
abbrev pub skill_of : OperandsValue → Option ℕ
skill_of (operands.Skill s) = Some s
skill_of order = None

-- whether a unit can learn a skill: it has men, and money for the skill's fee for each of them
abbrev pub can_learn : WorldValue → (skill : ℕ) → HoldingValue → Bool
can_learn w s h = nat_lt 0 h.men && nat_le (fee_of w s * h.men) h.money

-- whether a unit is there (None: it isn't), is of this faction, and can learn the skill
abbrev pub learns : WorldValue → (skill faction : ℕ) → Option Unit → Bool
learns w s f unit = option_map_or (λ u. u.faction == f && can_learn w s u.holding) unit false

-- the number of the skill that each learning unit is learning, by the units' numbers
abbrev pub Learning : Type 0
Learning = FinMap nat_cmp ℕ

-- The map with the skill that an order of STUDY names put under its unit, if the unit is there, is of the order's
-- faction and can learn the skill (`learns`). If not, or if the order names no skill, it is the map as it was.
abbrev pub with_learner : WorldValue → CampaignValue → Learning → Task → Learning
with_learner w c learning t =
    option_map_or
    (λ s. if learns w s t.faction (get c.units t.unit) then insert learning t.unit s else learning)
    (skill_of t.order_value.operands) learning

-- the orders of STUDY of a month that count, sorted by unit, line and faction
abbrev pub study_tasks : MonthValue → List Task
study_tasks = orders_by_unit is_studying

-- The units that are learning as the phase begins, each with its skill: by all orders of STUDY that count. A unit that
-- learns by several has the skill of the last; if the mailings can be read with the world, it learns by one at most.
unfoldable pub learners : WorldValue → CampaignValue → MonthValue → Learning
learners w c m = fold (with_learner w c) empty (study_tasks m)

-- ---- a law: which units are learning

-- unit n, which has men and the fee for all of them, learns this skill by its own faction's order of STUDY that counts
pub record IsLearning (w : WorldValue) (c : CampaignValue) (m : MonthValue) (n skill : ℕ) : Type 0 where
  pub order : Task
  pub counts : Contains (study_tasks m) order
  pub for_unit : order.unit ≡ n
  -- the order names the skill
  pub says : skill_of order.order_value.operands ≡ Some skill
  -- the unit is of the faction that gives the order, and has men and the fee for all of them
  pub can : learns w skill order.faction (get c.units n) ≡ true

-- The units in `learners` are exactly those that learn by an order (`IsLearning`), each with a skill that it learns so.
pub record LearnByOrders (w : WorldValue) (c : CampaignValue) (m : MonthValue) : Type 0 where
  -- a unit that is in `learners` with a skill learns this skill by an order
  pub only : (n skill : ℕ) → get (learners w c m) n ≡ Some skill → IsLearning w c m n skill
  -- a unit that learns by an order is in `learners`
  pub each : (n skill : ℕ) → IsLearning w c m n skill → HasValue (learners w c m) n

-- A law: in each month a unit is in `learners` exactly if it learns by an order of STUDY that counts (`LearnByOrders`).
abbrev pub UnitsLearnByOrders : Type 0
UnitsLearnByOrders = (w : WorldValue) (c : CampaignValue) (m : MonthValue) → LearnByOrders w c m
