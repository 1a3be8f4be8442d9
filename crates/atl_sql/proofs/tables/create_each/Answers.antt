use Rattle.std.proofs.Common.{arith}
use Rattle.atl_descriptions.specs.declared.table.Table.{Table}
use Rattle.atl_sql.proofs.CreateTexts.{as_many, creating, made_by, makes_next}
use Rattle.atl_sql.proofs.MakingLaws.{makes_all, makes_more, makes_none}
use Rattle.atl_sql.proofs.WriteLaws.{begins, goes_on, stops_second, weaker}
use Rattle.atl_sql.proofs.tables.create_each.Goals as goal

pub loop-table-init : goal.loop-table-init
loop-table-init g c = begins g.S.Store makes_none

pub loop-table-preserved : goal.loop-table-preserved
loop-table-preserved g c =
    let i = c.loop-table.table-index in
    goes_on g.S.Store (makes_more i) c.loop-table.invariant (made_by g.S.Store _ (makes_next (λ (t : Table). t.create.now) c.args.tables.now c.requires i _ (omega (arith, c.loop-table-test.true))) c.in_ok-run.ensures)

pub returns-in_err-run : goal.returns-in_err-run
returns-in_err-run g c =
    let i = c.loop-table.table-index in
    stops_second g.S.Store c.loop-table.invariant (creating g.S.Store _ (makes_next (λ (t : Table). t.create.now) c.args.tables.now c.requires i _ (omega (arith, c.loop-table-test.true))) c.in_err-run.ensures) c.from_residual.ensures

pub returns : goal.returns
returns g c =
    let all = as_many (λ (t : Table). t.create.now) c.args.tables.now c.requires in
    weaker g.S.Store (makes_all c.loop-table.table-index (omega (arith, c.loop-table-test.false, all))) c.loop-table.invariant
