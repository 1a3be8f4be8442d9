use Rattle.std.proofs.Common.{subst, sym}
use Rattle.atl_phase.specs.Fit.{AreFit}
use Rattle.atl_campaign.proofs.CoverLaws.{marks-trans}
use Rattle.atl_phase.proofs.MeaningLaws.{both_keep_well, both_leave_well, room_for_second}
use Rattle.atl_phase.proofs.phase.Tuple2Phase.run.Goals as goal

pub run-requires-2-clause-room : goal.run-requires-2-clause-room
run-requires-2-clause-room g c =
    room_for_second g.P.Phase.book_bound g.Q.Phase.book_bound c.args.world.now c.args.campaign.value
    c.in_ok-campaign.campaign.value c.in_ok-campaign.ensures.leaves c.requires.room

pub returns-clause-leaves : goal.returns-clause-leaves
returns-clause-leaves g c =
    both_leave_well g.P.Phase.book_bound g.Q.Phase.book_bound c.args.world.now c.args.campaign.value
    c.in_ok-campaign.campaign.value c.in_ok-campaign-2.campaign.value c.in_ok-campaign.ensures.leaves
    c.in_ok-campaign-2.ensures.leaves

pub returns-clause-marks : goal.returns-clause-marks
returns-clause-marks g c =
    marks-trans c.args.campaign c.in_ok-campaign.campaign c.in_ok-campaign-2.campaign c.in_ok-campaign.ensures.marks
    c.in_ok-campaign-2.ensures.marks

pub returns-clause-keeps : goal.returns-clause-keeps
returns-clause-keeps g c =
    both_keep_well g.P.Phase.meaning g.P.Phase.keeps g.Q.Phase.keeps c.args.world.now c.args.month c.in_ok-campaign.month c.args.campaign.value c.in_ok-campaign.campaign.value c.in_ok-campaign-2.campaign.value
    c.in_ok-campaign.ensures.meaning c.in_ok-campaign.ensures.keeps c.in_ok-campaign-2.ensures.keeps

pub run-requires-2-clause-read : goal.run-requires-2-clause-read
run-requires-2-clause-read g c = subst (AreFit c.args.world.now) (sym c.in_ok-campaign.ensures.readings) c.requires.read
