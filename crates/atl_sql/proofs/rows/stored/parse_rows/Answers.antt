use Rattle.std.proofs.Common.{arith, length}
use Rattle.atl_sql.specs.Stored.{first_columns}
use Rattle.atl_sql.proofs.ShownLaws.{refuses_row, mapped_next, typed_next}
use Rattle.atl_sql.proofs.rows.stored.parse_rows.Goals as goal

pub returns-in-None-clause-other : goal.returns-in-None-clause-other
returns-in-None-clause-other g c is =
    refuses_row g.T.Stored.forms c.args.rows.now c.loop-row.row-index c.row-item.result (omega (arith, c.loop-row-test.true)) c.row-item.is (c.in_ok-stored.ensures.other c.in-None.is)

pub loop-row-preserved : goal.loop-row-preserved
loop-row-preserved g c =
    let forms = g.T.Stored.forms in
    let rows = c.args.rows.now in
    let row = c.row-item.result in (
      mapped_next g.T.Stored.shown (first_columns (length forms)) c.loop-row.all.items c.push.new.self.items c.in-Some.stored rows c.loop-row.row-index row (omega (arith, c.loop-row-test.true)) c.row-item.is c.in_ok-push-in-Some.ensures.items c.loop-row.invariant.0 (rw c.in-Some.is at c.in_ok-stored.ensures.ok),
      typed_next forms rows c.loop-row.row-index row (omega (arith, c.loop-row-test.true)) c.row-item.is c.loop-row.invariant.1 (rw c.in-Some.is at c.in_ok-stored.ensures.typed),
    )
