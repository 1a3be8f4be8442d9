use Rattle.std.proofs.Common.{[], ◌∷◌, refl, ap}
use Rattle.atl_descriptions.specs.Tables.{table_of}
use Rattle.atl_writing.specs.Rows.{rows_in_order}
use Rattle.atl_sql.proofs.PuttingLaws.{one_written, putting_begins, putting_more, putting_failed, putting_ends}
use Rattle.atl_writing.proofs.numbered_rows.put_each.Goals as goal

pub loop-number-init : goal.loop-number-init
loop-number-init g c =
    putting_begins g.S.Store (table_of g.V.NumberedRow.part) 1 _ _
    (ap (rows_in_order g.V.NumberedRow.line) c.into_iter-number-iterator.ensures.into_iter_gives)

pub loop-number-preserved : goal.loop-number-preserved
loop-number-preserved g c =
    let row = g.V.NumberedRow.line c.in-Some.number c.in-Some.value.now in
    putting_more g.S.Store (table_of g.V.NumberedRow.part) 1 (row ∷ []) (rows_in_order g.V.NumberedRow.line c.next.new.self) _ _ (ap (rows_in_order g.V.NumberedRow.line) c.in-Some.ensures.steps) c.loop-number.invariant (one_written g.S.Store (table_of g.V.NumberedRow.part) 1 row _ refl c.in_ok-put.ensures)

pub returns-in_err-put : goal.returns-in_err-put
returns-in_err-put g c =
    let row = g.V.NumberedRow.line c.in-Some.number c.in-Some.value.now in
    putting_failed g.S.Store (table_of g.V.NumberedRow.part) 1 (row ∷ []) (rows_in_order g.V.NumberedRow.line c.next.new.self) _ _ (ap (rows_in_order g.V.NumberedRow.line) c.in-Some.ensures.steps) c.loop-number.invariant (one_written g.S.Store (table_of g.V.NumberedRow.part) 1 row _ refl c.in_err-put.ensures) c.from_residual.ensures

pub returns : goal.returns
returns g c =
    putting_ends g.S.Store (table_of g.V.NumberedRow.part) 1 _ _
    (ap (rows_in_order g.V.NumberedRow.line) c.in-None.ensures.steps.0) c.loop-number.invariant
