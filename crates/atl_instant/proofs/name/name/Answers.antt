use Rattle.std.proofs.Common.{refl}
use Rattle.atl_campaign.proofs.CoverLaws.{marks-faction}
use Rattle.atl_campaign.proofs.HoldingLaws.{marks-unit_row}
use Rattle.atl_phase.proofs.MarkLaws.{marks_by}
use Rattle.atl_instant.proofs.name.name.Goals as goal

pub returns-in-Unit-clause-marks : goal.returns-in-Unit-clause-marks
returns-in-Unit-clause-marks c =
    let set = c.set_unit_name in
    marks_by c.args.campaign.now set.new.self _ set.ensures.what set.ensures.marks (marks-unit_row (λ u. record u { holding = record u.holding { name = c.args.name } }) (λ u. refl) c.args.campaign.now c.args.unit)

pub returns-in-Faction-clause-marks : goal.returns-in-Faction-clause-marks
returns-in-Faction-clause-marks c =
    let set = c.set_faction_name in
    marks_by c.args.campaign.now set.new.self _ set.ensures.what set.ensures.marks (marks-faction (λ f. record f { name = c.args.name }) c.args.campaign.now c.args.faction)
