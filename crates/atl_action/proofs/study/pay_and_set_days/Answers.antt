use Rattle.std.proofs.Common.{◌-◌, sym, ap}
use Rattle.atl_records.specs.Holdings.{with_amount_of}
use Rattle.atl_phase.proofs.ChangeLaws.{changes_as, money_changes, nobody_changes, skill_changes, then_changes}
use Rattle.atl_phase.proofs.MarkLaws.{on_ok_both}
use Rattle.atl_action.specs.Study.{with_study}
use Rattle.atl_action.proofs.study.pay_and_set_days.Goals as goal

pub returns-in_default : goal.returns-in_default
returns-in_default c =
    nobody_changes c.args.campaign.now c.args.unit (λ h. with_study h c.args.skill c.args.cost c.args.days)
    (sym c.in_default.ensures)

pub returns : goal.returns
returns c =
    let old = c.args.campaign.now in
    let mid = c.set_money.new.self in
    let after = c.set_days.new.self in
    let u = c.in-Some.learner.now in
    let left = c.money.result - c.args.cost in
    rw (sym c.from.ensures)
    (on_ok_both c.set_days.result
    (λ what marks.
    changes_as old after c.args.unit (λ h. record h { money = left; days = with_amount_of h.days c.from.result c.args.days }) (λ h. with_study h c.from.result c.args.cost c.args.days) u (sym c.in-Some.ensures)
    (ap (λ m. record u.holding { money = m - c.args.cost; days = with_amount_of u.holding.days c.from.result c.args.days }) c.money.ensures.value)
    (then_changes old mid after c.args.unit (λ h. record h { money = left }) (λ h. record h { days = with_amount_of h.days c.from.result c.args.days })
    (money_changes old mid c.args.unit left c.set_money.ensures.what c.set_money.ensures.marks) (skill_changes mid after c.args.unit c.from.result c.args.days what marks)))
    c.set_days.ensures.ok c.set_days.ensures.marks)
