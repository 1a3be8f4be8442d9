use Rattle.atl_writing.specs.OwnStatements.{joins_report, joins_money, joins_people}
use Rattle.atl_keeping.proofs.JoinLaws.{reporting_done}
use Rattle.atl_sql.proofs.WriteLaws.{writes_among_more, among_only, three_steps, stops, stops_second}
use Rattle.atl_keeping.proofs.joining.put_report_and_amounts.Goals as goal

pub returns : goal.returns
returns g c =
    three_steps g.S.Store
    (reporting_done c.args.arrival.now.number c.args.arrival.now.report.now c.args.campaign.now.value)
    (among_only g.S.Store _ _ (joins_report c.requires.report_is) c.in_ok-put.ensures) (writes_among_more g.S.Store (λ _ _. joins_money) c.in_ok-write_amount.ensures) (writes_among_more g.S.Store (λ _ _. joins_people) c.write_amount-2.ensures)

pub returns-in_err-put : goal.returns-in_err-put
returns-in_err-put g c =
    stops g.S.Store (among_only g.S.Store _ _ (joins_report c.requires.report_is) c.in_err-put.ensures)
    c.from_residual.ensures

pub returns-in_err-write_amount : goal.returns-in_err-write_amount
returns-in_err-write_amount g c =
    stops_second g.S.Store (among_only g.S.Store _ _ (joins_report c.requires.report_is) c.in_ok-put.ensures) (writes_among_more g.S.Store (λ _ _. joins_money) c.in_err-write_amount.ensures) c.from_residual-in_err-write_amount.ensures
