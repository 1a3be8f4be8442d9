use Rattle.std.proofs.Common.{true, sym}
use Rattle.atl_instant.proofs.GuardingLaws.{can_guard, flag_marks}
use Rattle.atl_instant.proofs.RegionGuardLaws.{holders_set}
use Rattle.atl_instant.proofs.guard.guard.Goals as goal

pub returns-clause-held : goal.returns-clause-held
returns-clause-held c =
    let before = c.args.campaign.now.value in
    let u = c.in-Some.unit.now in
    let (none, men) = can_guard before u (sym (c.in_default-guard_fault.ensures before c.requires.held)) in
    rw (c.set_guard.ensures.what, c.in_ok-set.ensures) (holders_set before c.args.holders.now c.args.order.unit u c.in-Some.ensures.there c.requires.held none men)

pub returns-clause-marks : goal.returns-clause-marks
returns-clause-marks c =
    flag_marks c.args.campaign.now c.set_guard.new.self c.args.order.unit true c.set_guard.ensures.what
    c.set_guard.ensures.marks
