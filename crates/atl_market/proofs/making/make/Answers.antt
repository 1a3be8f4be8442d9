use Rattle.atl_campaign.proofs.CoverLaws.{marks-trans}
use Rattle.atl_market.proofs.making.make.Goals as goal

pub returns-clause-marks : goal.returns-clause-marks
returns-clause-marks c =
    marks-trans c.args.campaign.now c.use_raw.new.campaign c.make_item.new.campaign c.in_ok-use_raw.ensures.marks
    c.in_ok-make_item.ensures.marks
