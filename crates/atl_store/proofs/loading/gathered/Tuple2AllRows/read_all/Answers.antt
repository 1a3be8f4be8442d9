use Rattle.atl_store.proofs.GatherLaws.{settled_then, first_fails, second_fails, both_read}
use Rattle.atl_store.proofs.loading.gathered.Tuple2AllRows.read_all.Goals as goal

pub read_all-requires-2-clause-settled : goal.read_all-requires-2-clause-settled
read_all-requires-2-clause-settled g c = settled_then g.S.Store c.args.conn.now c.read_all.new.conn c.requires.settled c.read_all.ensures.leaves

pub returns-in_err-some : goal.returns-in_err-some
returns-in_err-some g c = first_fails g.S.Store g.X.AllRows.selects g.Y.AllRows.selects _ _ c.args.conn.now c.read_all.new.conn c.in_err-some.field-0.0 c.read_all.result _ c.read_all.ensures c.in_err-some.was c.from_residual.ensures.1

pub returns-in_err-others : goal.returns-in_err-others
returns-in_err-others g c =
    second_fails g.S.Store g.X.AllRows.selects g.Y.AllRows.selects _ _ c.args.conn.now c.read_all.new.conn c.read_all-2.new.conn c.read_all.result c.read_all-2.result c.read_all.ensures c.read_all-2.ensures c.in_ok-some.some c.in_ok-some.was _ c.in_err-others.field-0.0 _ c.in_err-others.was c.from_residual-in_err-others.ensures.1

pub returns : goal.returns
returns g c =
    both_read g.S.Store g.X.AllRows.selects g.Y.AllRows.selects g.X.AllRows.rows g.Y.AllRows.rows c.args.conn.now c.read_all.new.conn c.read_all-2.new.conn c.read_all.result c.read_all-2.result c.read_all.ensures c.read_all-2.ensures c.in_ok-some.some c.in_ok-some.was c.in_ok-others.others c.in_ok-others.was c.zip.result c.zip.ensures
