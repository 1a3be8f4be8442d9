use Rattle.atl_campaign.proofs.GoneFactionLaws.{marks-gone_faction}
use Rattle.atl_phase.proofs.MarkLaws.{marks_by}
use Rattle.atl_upkeep.proofs.sweep.sweep_faction.Goals as goal

pub returns-then-is_empty-clause-marks : goal.returns-then-is_empty-clause-marks
returns-then-is_empty-clause-marks c =
    marks_by c.args.campaign.now c.set_gone.new.self _ c.set_gone.ensures.what c.set_gone.ensures.marks (marks-gone_faction c.args.campaign.now c.args.number)
