use Rattle.std.proofs.Common.{◌+◌, ◌-◌}
use Rattle.atl_campaign.proofs.CoverLaws.{marks-region-money, marks-trans}
use Rattle.atl_phase.proofs.ChangeLaws.{money_changes}
use Rattle.atl_phase.proofs.MarkLaws.{marks_by}
use Rattle.atl_market.proofs.tax.TaxPhasePotPhase.pay.Goals as goal

pub returns-clause-marks : goal.returns-clause-marks
returns-clause-marks c =
    let mid = c.set_money.new.self in
    let last = c.set_region_money.new.self in
    let left = c.in-Some-region.found.now.money - c.args.share in
    let region = c.in-Some.unit.now.region in
    marks-trans c.args.campaign.now mid last
    (money_changes c.args.campaign.now mid c.args.number (c.money-held.result + c.args.share) c.set_money.ensures.what c.set_money.ensures.marks).marks
    (marks_by mid last _ c.set_region_money.ensures.what c.set_region_money.ensures.marks (marks-region-money mid region left))
