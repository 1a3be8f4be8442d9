use Rattle.atl_sql.proofs.SelectingLaws.{unasked, parsed}
use Rattle.atl_sql.proofs.rows.stored.read_inside.Goals as goal

pub returns : goal.returns
returns g c = parsed g.S.Store c.args.sql.now c.args.conn.now c.select.new.conn g.T.Stored.forms g.T.Stored.shown c.in_ok-rows.rows c.as_slice.result.now c.parse_rows.result c.in_ok-rows.ensures c.as_slice.ensures.value c.parse_rows.ensures.ok c.parse_rows.ensures.typed c.parse_rows.ensures.other c.parse_rows.ensures.which

pub returns-in_err-rows : goal.returns-in_err-rows
returns-in_err-rows g c = unasked g.S.Store c.args.sql.now c.args.conn.now c.select.new.conn g.T.Stored.forms g.T.Stored.shown c.in_err-rows.field-0.0 c.from_residual.result c.in_err-rows.ensures c.from_residual.ensures.1
