use Rattle.std.proofs.Common.{false, refl}
use Rattle.atl_campaign.specs.Marking.{mark_unit_row}
use Rattle.atl_campaign.specs.Campaign.{with_guard}
use Rattle.atl_campaign.proofs.CoverLaws.{marks-trans}
use Rattle.atl_campaign.proofs.HoldingLaws.{marks-unit_row}
use Rattle.atl_phase.proofs.MarkLaws.{marks-place, marks_by}
use Rattle.atl_action.proofs.walk.put_unit.Goals as goal

pub returns-clause-marks : goal.returns-clause-marks
returns-clause-marks c =
    let old = c.args.campaign.now in
    let mid = c.place.new.self in
    let set = c.set_guard in
    marks-trans old mid set.new.self (marks-place old mid c.args.unit c.args.to c.args.structure c.in_ok-place.ensures.ok c.in_ok-place.ensures.marks)
    (marks_by mid set.new.self (record { value = with_guard mid.value c.args.unit false; marks = mark_unit_row mid c.args.unit })
    set.ensures.what set.ensures.marks (marks-unit_row (λ u. record u { holding = record u.holding { guard = false } }) (λ u. refl) mid c.args.unit))
