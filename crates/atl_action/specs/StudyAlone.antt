-- A law: a unit that studies pays and learns by what it had as the phase began, and by how many of its men were taught,
-- in whichever order units study. See docs/RULES.md, "Learning".
use Rattle.std.specs.Prelude.{◌≡◌, ℕ, Option, Some}
use Rattle.std.specs.List.{Contains}
use Rattle.std.specs.FinMap.{get}
use Rattle.atl_world.specs.Worlds.{WorldValue}
use Rattle.atl_lines.specs.declared.order.Operands.TheVariants.{Skill}
use Rattle.atl_world.specs.declared.verb.Verb.TheVariants.{Study}
use Rattle.atl_lines.specs.Orders.{order_of}
use Rattle.atl_records.specs.declared.records.Unit.{Unit}
use Rattle.atl_campaign.specs.Campaign.{CampaignValue}
use Rattle.atl_phase.specs.Month.{MonthValue}
use Rattle.atl_phase.specs.Fit.{AreFit}
use Rattle.atl_phase.specs.PhaseOrders.{Task}
use Rattle.atl_teaching.specs.Learners.{learners, study_tasks}
use Rattle.atl_action.specs.Study.{learn_meaning, study}
use Rattle.atl_teaching.specs.Teach.{after_lessons}

-- an order of STUDY of this skill counts for unit n, and this faction wrote it
pub record IsOwnStudy (m : MonthValue) (n faction skill : ℕ) : Type 0 where
  pub order : Task
  pub counts : Contains (study_tasks m) order
  pub for_unit : order.unit ≡ n
  pub own : order.faction ≡ faction
  pub says : order.order_value ≡ order_of Study (Skill skill)

-- how many men of unit n are taught in the phase
abbrev pub taught_men : WorldValue → CampaignValue → MonthValue → (n : ℕ) → ℕ
taught_men w c m n = (after_lessons c (learners w c m) m).0 n

-- What a look-up of unit n finds after its STUDY of this skill in campaign `c` as the phase began, where unit n is `u`.
-- As many of its men are taught as all lessons of the phase teach.
abbrev pub unit_after_own_study : WorldValue → CampaignValue → MonthValue → (n skill : ℕ) → Unit → Option Unit
unit_after_own_study w c m n skill u = get (study w (taught_men w c m n) n skill c u).0.units n

-- A law: after the phase a unit is what its own order of STUDY alone makes of it in the campaign as the phase began.
-- Its own order is one of its faction that counts (`IsOwnStudy`). This supposes that the mailings can be read with the
-- world.
abbrev pub UnitsStudyAsBegun : Type 0
UnitsStudyAsBegun =
    (w : WorldValue) (c : CampaignValue) (m : MonthValue) → AreFit w m.readings →
    (n skill : ℕ) (u : Unit) → get c.units n ≡ Some u → IsOwnStudy m n u.faction skill →
    get (learn_meaning w c m).0.units n ≡ unit_after_own_study w c m n skill u
