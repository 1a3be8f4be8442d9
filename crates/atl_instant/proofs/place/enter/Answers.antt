use Rattle.atl_phase.proofs.MarkLaws.{marks-place}
use Rattle.atl_instant.proofs.place.enter.Goals as goal

pub returns-in_ok-place-clause-marks : goal.returns-in_ok-place-clause-marks
returns-in_ok-place-clause-marks c =
    marks-place c.args.campaign.now c.place.new.self c.args.order.unit _ c.args.structure c.in_ok-place.ensures.ok
    c.in_ok-place.ensures.marks
