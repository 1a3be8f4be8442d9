use Rattle.std.proofs.Common.{Bool, if◌then◌else◌, [], ◌∷◌, ap}
use Rattle.atl_writing.specs.GroupedRows.{thing_rows}
use Rattle.atl_writing.proofs.HasTableLaws.{is_not_zero}
use Rattle.atl_sql.proofs.PuttingLaws.{none_written, one_written}
use Rattle.atl_writing.proofs.amounts.put_nonzero.Goals as goal

pub returns : goal.returns
returns g c =
    let row = g.O.AmountWriter.line c.args.owner c.args.thing c.args.amount in
    one_written g.S.Store g.O.AmountWriter.table g.O.AmountWriter.key row _ (ap (λ (zero : Bool). if zero then [] else row ∷ []) (is_not_zero c.args.amount c.if-amount-eq0.false)) c.put.ensures

-- an amount of 0 has no row, so there is nothing to put
pub returns-then-amount-eq0 : goal.returns-then-amount-eq0
returns-then-amount-eq0 g c =
    none_written g.S.Store g.O.AmountWriter.table g.O.AmountWriter.key _
    (ap (thing_rows (g.O.AmountWriter.line c.args.owner) c.args.thing) c.if-amount-eq0.true)
