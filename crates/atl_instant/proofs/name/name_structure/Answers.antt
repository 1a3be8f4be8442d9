use Rattle.atl_campaign.specs.Marking.{mark_structure}
use Rattle.atl_campaign.specs.Campaign.{with_structure_name}
use Rattle.atl_campaign.proofs.LeavingLaws.{marks-structure}
use Rattle.atl_phase.proofs.MarkLaws.{marks_by}
use Rattle.atl_instant.proofs.name.name_structure.Goals as goal

pub returns-in-None-clause-marks : goal.returns-in-None-clause-marks
returns-in-None-clause-marks c =
    let old = c.args.campaign.now in
    let set = c.set_structure_name in
    marks_by old set.new.self (record { value = with_structure_name old.value c.args.inside c.args.name; marks = mark_structure old c.args.inside })
    set.ensures.what set.ensures.marks (marks-structure (λ s. record s { name = c.args.name }) old c.args.inside)
