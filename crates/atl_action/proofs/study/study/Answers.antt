use Rattle.std.proofs.Common.{◌≡◌, None, rules}
use Rattle.atl_action.specs.Study.{study_fault}
use Rattle.atl_action.proofs.StudyLaws.{payable_fee}
use Rattle.atl_action.proofs.study.study.Goals as goal

pub put_study-requires-clause-payable : goal.put_study-requires-clause-payable
put_study-requires-clause-payable c =
    let u = c.in-Some.unit.now in
    let fine : study_fault u.holding c.cost_of-cost.result ≡ None = search rules in
    (u, c.in-Some.ensures.there, payable_fee u.holding c.cost_of-cost.result fine)
