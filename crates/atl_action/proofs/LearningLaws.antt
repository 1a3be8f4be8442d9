-- Laws of `learners`, the map of the skills that units learn, by the units' numbers: it has exactly the units that
-- learn by an order of STUDY that counts.
use Rattle.std.proofs.Common.{◌≡◌, ℕ, true, List, [], ◌∷◌, Option, Some, None, refl, sym, subst}
use Rattle.std.specs.Prelude.{fold, if◌then◌else◌}
use Rattle.std.specs.List.{AllByRecursion, Contains}
use Rattle.std.specs.Option.{option_map_or}
use Rattle.std.specs.FinMap.{empty, get, insert}
use Rattle.std.proofs.lemmas.Bool.{cond_both}
use Rattle.std.proofs.lemmas.List.Elements.{All-contains, All-contains_itself, All-from_recursion, recursion_from_All}
use Rattle.atl_world.specs.Worlds.{WorldValue}
use Rattle.atl_world.specs.Every.{Every, HasValue}
use Rattle.atl_campaign.specs.Campaign.{CampaignValue}
use Rattle.atl_world.proofs.EveryLaws.{every-empty, every-insert, there-insert}
use Rattle.atl_campaign.proofs.RegionLaws.{get-insert_same}
use Rattle.atl_phase.specs.Month.{MonthValue}
use Rattle.atl_phase.specs.PhaseOrders.{Task}
use Rattle.atl_teaching.specs.Learners.{IsLearning, Learning, UnitsLearnByOrders, learners, learns, skill_of, study_tasks, with_learner}

-- `c` is the campaign as the phase of TEACH and STUDY begins
module _ (w : WorldValue) (c : CampaignValue) where
  -- P holds of the unit and the skill of an order of STUDY, if the unit learns by the order
  abbrev IfLearns : (ℕ → ℕ → Type 0) → Task → Type 0
  IfLearns P t =
      (s : ℕ) → skill_of t.order_value.operands ≡ Some s → learns w s t.faction (get c.units t.unit) ≡ true → P t.unit s

  -- the map with this skill put under the unit of an order, if the order names a skill (Some) and the unit learns it;
  -- else unchanged
  abbrev with_named_skill : Learning → Task → Option ℕ → Learning
  with_named_skill learning t skill =
      option_map_or (λ s. if learns w s t.faction (get c.units t.unit) then insert learning t.unit s else learning)
      skill learning

  -- Q holds of the map after an order of STUDY, if it holds of the map before. Where the unit of the order learns by
  -- it, Q has to hold with the unit and its skill added.
  learner_cases : (Q : Learning → Type 0) (t : Task) (learning : Learning) → Q learning
      → IfLearns (λ n s. Q (insert learning n s)) t → Q (with_learner w c learning t)
  learner_cases Q t learning same added = by_skill (skill_of t.order_value.operands) refl
    where
      by_skill : (o : Option ℕ) → skill_of t.order_value.operands ≡ o → Q (with_named_skill learning t o)
      by_skill None says = same
      by_skill (Some s) says =
          cond_both (learns w s t.faction (get c.units t.unit)) (insert learning t.unit s) learning Q (added s says)
          (λ _. same)

  -- if P holds of all units and skills in the map, and of those that learn by some orders, P holds of all once the
  -- units of these orders are added
  only_all : (P : ℕ → ℕ → Type 0) (ts : List Task) (learning : Learning) → AllByRecursion (IfLearns P) ts
      → Every P learning → Every P (fold (with_learner w c) learning ts)
  only_all P [] learning so old = old
  only_all P (t ∷ ts) learning so old =
      only_all P ts (with_learner w c learning t) so.1 (learner_cases (Every P) t learning old (λ s says can. every-insert P learning t.unit s (so.0 s says can) old))

  kept : (ts : List Task) (learning : Learning) (n : ℕ) → HasValue learning n
      → HasValue (fold (with_learner w c) learning ts) n
  kept [] learning n there = there
  kept (t ∷ ts) learning n there =
      kept ts (with_learner w c learning t) n
      (learner_cases (λ l. HasValue l n) t learning there (λ s says can. there-insert learning t.unit n s there))

  added : (t : Task) (learning : Learning) → IfLearns (λ n s. HasValue (with_learner w c learning t) n) t
  added t learning s says can =
      subst (λ o. HasValue (with_named_skill learning t o) t.unit) (sym says)
      (subst (λ b. HasValue (if b then insert learning t.unit s else learning) t.unit) (sym can) (s, get-insert_same learning t.unit s))

  each_all : (ts : List Task) (learning : Learning)
      → AllByRecursion (IfLearns (λ n s. HasValue (fold (with_learner w c) learning ts) n)) ts
  each_all [] learning = tt
  each_all (t ∷ ts) learning =
      let next = with_learner w c learning t in
      ((λ s says can. kept ts next t.unit (added t learning s says can)), each_all ts next)

each_learner_is_learning : (w : WorldValue) (c : CampaignValue) (m : MonthValue) (ts : List Task)
    → AllByRecursion (Contains (study_tasks m)) ts → AllByRecursion (IfLearns w c (IsLearning w c m)) ts
each_learner_is_learning w c m [] among = tt
each_learner_is_learning w c m (t ∷ ts) among =
    ((λ s says can. record { order = t; counts = among.0; for_unit = refl; says = says; can = can }), each_learner_is_learning w c m ts among.1)

-- a unit in `learners` learns its skill by an order of STUDY that counts; each unit that learns by one is in `learners`
pub units_learn_by_orders : UnitsLearnByOrders
unfolding learners
units_learn_by_orders w c m =
    let ts = study_tasks m in
    let stays : ℕ → ℕ → Type 0 = (λ k s. HasValue (fold (with_learner w c) empty ts) k) in
    record {
      only = only_all w c (IsLearning w c m) ts empty (each_learner_is_learning w c m ts (recursion_from_All (Contains ts) ts (All-contains_itself ts))) (every-empty (IsLearning w c m));
      each = λ n s is.
          let here = All-contains (IfLearns w c stays) ts is.order (All-from_recursion (IfLearns w c stays) ts (each_all w c ts empty)) is.counts in
          subst (HasValue (fold (with_learner w c) empty ts)) is.for_unit (here s is.says (subst (λ k. learns w s is.order.faction (get c.units k) ≡ true) (sym is.for_unit) is.can));
    }
