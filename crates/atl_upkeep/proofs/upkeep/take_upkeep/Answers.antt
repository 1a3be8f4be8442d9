use Rattle.std.proofs.Common.{◌≡◌, arith}
use Rattle.atl_phase.proofs.ChangeLaws.{money_changes}
use Rattle.atl_upkeep.proofs.UpkeepLaws.{pays_nothing}
use Rattle.atl_upkeep.proofs.upkeep.take_upkeep.Goals as goal

pub returns-then-upkeep_result-eq0-clause-what : goal.returns-then-upkeep_result-eq0-clause-what
returns-then-upkeep_result-eq0-clause-what c u is =
    let fed : c.args.upkeep_result.now.starved ≡ 0 = omega arith in
    let none : c.args.upkeep_result.now.paid ≡ 0 = omega arith in
    pays_nothing c.args.campaign.now.value c.args.upkeep_result.now u is fed none

pub returns-in-Some-clause-marks : goal.returns-in-Some-clause-marks
returns-in-Some-clause-marks c =
    (money_changes c.args.campaign.now c.set_money.new.self c.args.upkeep_result.now.unit _ c.set_money.ensures.what c.set_money.ensures.marks).marks
