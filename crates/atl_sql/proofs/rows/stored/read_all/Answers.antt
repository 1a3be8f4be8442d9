use Rattle.atl_sql.proofs.StreamLaws.{unstreamed, read_again}
use Rattle.atl_sql.proofs.rows.stored.read_all.Goals as goal

pub returns-in_err-all : goal.returns-in_err-all
returns-in_err-all g c = unstreamed g.S.Store c.args.sql.now c.args.conn.now g.T.Stored.forms g.T.Stored.shown c.in_err-all.field-0.0 c.from_residual.result c.stream.new.conn c.in_err-all.ensures c.from_residual.ensures.1

pub returns-in-None : goal.returns-in-None
returns-in-None g c = read_again g.S.Store c.args.sql.now c.args.conn.now g.T.Stored.forms g.T.Stored.shown c.stream.new.conn c.read_inside-in-None.new.conn c.read_inside-in-None.result (rw c.in-None.is at c.in_ok-all.ensures) c.read_inside-in-None.ensures
