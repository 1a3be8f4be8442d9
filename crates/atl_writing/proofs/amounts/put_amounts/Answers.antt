use Rattle.std.proofs.Common.{ap}
use Rattle.atl_writing.specs.GroupedRows.{thing_rows, amount_rows}
use Rattle.atl_sql.proofs.PuttingLaws.{putting_begins, putting_more, putting_failed, putting_ends}
use Rattle.atl_writing.proofs.amounts.put_amounts.Goals as goal

pub loop-thing-init : goal.loop-thing-init
loop-thing-init g c =
    putting_begins g.S.Store g.O.AmountWriter.table g.O.AmountWriter.key _ _
    (ap (amount_rows (g.O.AmountWriter.line c.args.owner)) c.into_iter-thing-iterator.ensures.into_iter_gives)

pub loop-thing-preserved : goal.loop-thing-preserved
loop-thing-preserved g c =
    let row = g.O.AmountWriter.line c.args.owner in
    putting_more g.S.Store g.O.AmountWriter.table g.O.AmountWriter.key (thing_rows row c.in-Some.thing c.in-Some.amount.now) (amount_rows row c.next.new.self) _ _ (ap (amount_rows row) c.in-Some.ensures.steps) c.loop-thing.invariant c.in_ok-put_nonzero.ensures

pub returns-in_err-put_nonzero : goal.returns-in_err-put_nonzero
returns-in_err-put_nonzero g c =
    let row = g.O.AmountWriter.line c.args.owner in
    putting_failed g.S.Store g.O.AmountWriter.table g.O.AmountWriter.key (thing_rows row c.in-Some.thing c.in-Some.amount.now) (amount_rows row c.next.new.self) _ _ (ap (amount_rows row) c.in-Some.ensures.steps) c.loop-thing.invariant c.in_err-put_nonzero.ensures c.from_residual.ensures

pub returns : goal.returns
returns g c =
    putting_ends g.S.Store g.O.AmountWriter.table g.O.AmountWriter.key _ _
    (ap (amount_rows (g.O.AmountWriter.line c.args.owner)) c.in-None.ensures.steps.0) c.loop-thing.invariant
