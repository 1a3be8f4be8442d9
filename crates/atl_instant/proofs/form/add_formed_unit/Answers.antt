use Rattle.atl_campaign.specs.Marking.{mark_unit_begun}
use Rattle.atl_campaign.specs.Campaign.{with_unit_begun}
use Rattle.atl_phase.proofs.MarkLaws.{marks_by, on_ok_both}
use Rattle.atl_instant.proofs.FormLaws.{marks-begun}
use Rattle.atl_instant.proofs.form.add_formed_unit.Goals as goal

pub returns-clause-marks : goal.returns-clause-marks
returns-clause-marks c =
    let old = c.args.campaign.now in
    let unit = c.in_ok-unit.unit in
    on_ok_both c.begin_unit.result
    (λ what marks. marks_by old c.begin_unit.new.self (record { value = with_unit_begun old.value unit; marks = mark_unit_begun old }) what marks (marks-begun old unit))
    c.begin_unit.ensures.ok c.begin_unit.ensures.marks
