use Rattle.std.proofs.Common.{◌++◌, ◌∙◌, Ok}
use Rattle.atl_world.specs.declared.format.Format.TheVariants.{First, Second}
use Rattle.atl_store.proofs.GatherLaws.{fails_as, reads_by, reads_first, reads_second}
use Rattle.atl_store.proofs.loading.gathered.read_by.Goals as goal

pub returns-in_err-some-in-First : goal.returns-in_err-some-in-First
returns-in_err-some-in-First g c =
    let old = c.args.conn.now in
    let new = c.read_all.new.conn in
    reads_by g.S.Store g.X.AllRows.selects g.Y.AllRows.selects (λ x. g.X.AllRows.rows x.0 ++ g.Y.AllRows.rows x.1) old new c.from_residual.result c.args.format First c.in-First.is
    (fails_as g.S.Store g.X.AllRows.selects _ _ old new c.in_err-some-in-First.field-0.0 c.read_all.result _ c.read_all.ensures c.in_err-some-in-First.was c.from_residual.ensures.1)

pub returns-in_ok-some-in-First : goal.returns-in_ok-some-in-First
returns-in_ok-some-in-First g c =
    let old = c.args.conn.now in
    let new = c.read_all.new.conn in
    reads_by g.S.Store g.X.AllRows.selects g.Y.AllRows.selects (λ x. g.X.AllRows.rows x.0 ++ g.Y.AllRows.rows x.1) old new (Ok c.zip.result) c.args.format First c.in-First.is
    (reads_first g.S.Store g.X.AllRows.selects g.X.AllRows.rows g.Y.AllRows.rows old new c.read_all.result c.read_all.ensures c.in_ok-some-in-First.some c.in_ok-some-in-First.was c.without_rows.result c.without_rows.ensures
    (λ a. g.met.X.AllRows.of_parts a ∙ c.requires.some) (g.met.Y.AllRows.of_parts c.without_rows.result ∙ c.requires.others) c.zip.result c.zip.ensures)

pub returns-in-Second : goal.returns-in-Second
returns-in-Second g c =
    let old = c.args.conn.now in
    reads_by g.S.Store g.X.AllRows.selects g.Y.AllRows.selects (λ x. g.X.AllRows.rows x.0 ++ g.Y.AllRows.rows x.1) old c.read_all-in-Second.new.conn c.read_all-in-Second.result c.args.format Second c.in-Second.is
    (reads_second g.S.Store (g.X.AllRows.selects ++ g.Y.AllRows.selects) (λ x. g.X.AllRows.rows x.0 ++ g.Y.AllRows.rows x.1) old c.read_all-in-Second.new.conn c.read_all-in-Second.result c.read_all-in-Second.ensures)
