use Rattle.std.proofs.Common.{false}
use Rattle.atl_instant.proofs.GuardingLaws.{flag_marks}
use Rattle.atl_instant.proofs.name.leave_guard.Goals as goal

pub returns-clause-marks : goal.returns-clause-marks
returns-clause-marks c =
    flag_marks c.args.campaign.now c.set_guard.new.self c.args.order.unit false c.set_guard.ensures.what
    c.set_guard.ensures.marks
