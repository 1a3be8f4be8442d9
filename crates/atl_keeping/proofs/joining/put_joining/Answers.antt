use Rattle.std.proofs.Common.{[]}
use Rattle.atl_keeping.proofs.JoinLaws.{joining_done}
use Rattle.atl_sql.proofs.WriteLaws.{two_steps, stops}
use Rattle.atl_keeping.proofs.joining.put_joining.Goals as goal

pub returns : goal.returns
returns g c =
    two_steps g.S.Store
    (λ old mid new. joining_done c.args.arrival.now.number c.args.arrival.now.faction.now c.args.arrival.now.unit_number c.args.arrival.now.unit.now c.args.arrival.now.report.now c.args.campaign.now.value [] old mid new c.requires)
    c.in_ok-put_newcomer.ensures c.put_report_and_amounts.ensures

pub returns-in_err-put_newcomer : goal.returns-in_err-put_newcomer
returns-in_err-put_newcomer g c = stops g.S.Store c.in_err-put_newcomer.ensures c.from_residual.ensures
