use Rattle.atl_phase.proofs.MarkLaws.{marks-place}
use Rattle.atl_instant.proofs.place.leave.Goals as goal

pub returns-clause-marks : goal.returns-clause-marks
returns-clause-marks c =
    marks-place c.args.campaign.now c.place.new.self c.args.order.unit _ 0 c.in_ok-place.ensures.ok
    c.in_ok-place.ensures.marks
