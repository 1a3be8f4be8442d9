use Rattle.std.proofs.Common.{◌≡◌, ℕ, List, [], ◌∷◌, ◌+◌, drop, get_or, refl, sym, ap, ◌∙◌}
use Rattle.std.proofs.Math.ListN.{drop_of_length-le}
use Rattle.std.proofs.lemmas.List.{drop_more}
use Rattle.atl_records.specs.declared.records.Unit.{Unit}
use Rattle.atl_campaign.specs.Campaign.{CampaignValue, unit_changed}
use Rattle.atl_records.specs.Holdings.{with_amount_of}
use Rattle.atl_campaign.specs.Marks.{Marks}
use Rattle.atl_campaign.proofs.CoverLaws.{marks-refl, marks-trans}
use Rattle.atl_phase.specs.Holdings.{with_days}
use Rattle.atl_phase.proofs.ChangeLaws.{changed_twice, men_changes, identity_changes_nothing, skill_changes, then_changes}
use Rattle.atl_phase.proofs.holdings.set_people.Goals as goal

abbrev set_all : List (ℕ × ℕ) → Unit → Unit
set_all list u = record u { holding = record u.holding { days = with_days u.holding.days list } }

pub loop-skill-init : goal.loop-skill-init
loop-skill-init c = record { value = refl; marks = marks-refl c.set_men.new.self; goods = refl; items = refl }

pub loop-skill-preserved : goal.loop-skill-preserved
loop-skill-preserved c =
    let list = c.args.days.now in
    let i = c.loop-skill.skill-index in
    let x : ℕ × ℕ = get_or list i (0, 0) in
    let rest = drop (i + 1) list in
    let before = c.loop-skill.campaign in
    let old = c.loop-skill.invariant in
    let later : drop i list ≡ x ∷ rest = drop_more list i (0, 0) c.loop-skill-test.true in
    let one = skill_changes before c.set_days.new.self c.args.unit x.0 x.1 c.in_ok-set_days.ensures.ok c.in_ok-set_days.ensures.marks in
    record {
      value =
          ap (λ (d : CampaignValue). unit_changed (set_all rest) d c.args.unit) one.value
          ∙ changed_twice (λ u. record u { holding = record u.holding { days = with_amount_of u.holding.days x.0 x.1 } }) (set_all rest) before.value c.args.unit
          ∙ sym (ap (λ (xs : List (ℕ × ℕ)). unit_changed (set_all xs) before.value c.args.unit) later)
          ∙ old.value;
      marks = marks-trans c.set_men.new.self before c.set_days.new.self old.marks one.marks;
      goods = one.goods ∙ old.goods;
      items = ap (λ (m : Marks). m.items) c.in_ok-set_days.ensures.marks ∙ old.items;
    }

pub returns-clause-what : goal.returns-clause-what
returns-clause-what c =
    let days = c.args.days.now in
    let mid = c.set_men.new.self in
    let after = c.loop-skill.campaign in
    let old = c.loop-skill.invariant in
    let none : drop c.loop-skill.skill-index days ≡ [] = drop_of_length-le days c.loop-skill-test.false in
    then_changes c.args.campaign.now mid after c.args.unit (λ h. record h { men = c.args.men }) (λ h. record h { days = with_days h.days days })
    (men_changes c.args.campaign.now mid c.args.unit c.args.men c.set_men.ensures.what c.set_men.ensures.marks) (record {
      value = sym (identity_changes_nothing after.value c.args.unit) ∙ sym (ap (λ (xs : List (ℕ × ℕ)). unit_changed (set_all xs) after.value c.args.unit) none) ∙ old.value;
      marks = old.marks;
      goods = old.goods;
    })

pub returns-clause-items : goal.returns-clause-items
returns-clause-items c = c.loop-skill.invariant.items ∙ ap (λ (m : Marks). m.items) c.set_men.ensures.marks
