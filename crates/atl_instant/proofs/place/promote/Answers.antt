use Rattle.atl_campaign.proofs.LeavingLaws.{marks-structure, owned_by}
use Rattle.atl_phase.proofs.MarkLaws.{marks_by}
use Rattle.atl_instant.proofs.place.promote.Goals as goal

pub returns-clause-marks : goal.returns-clause-marks
returns-clause-marks c =
    let set = c.set_owner in
    marks_by c.args.campaign.now set.new.self _ set.ensures.what set.ensures.marks (marks-structure (owned_by c.args.to) c.args.campaign.now _)
