use Rattle.std.proofs.Common.{rules}
use Rattle.atl_sql.specs.Inside.{HasTables}
use Rattle.atl_writing.specs.Arriving.{WritesJoin}
use Rattle.atl_writing.proofs.WholeLaws.{committed, left_off}
use Rattle.atl_keeping.proofs.joining.write_joining.Goals as goal

pub returns : goal.returns
returns g c =
    let whole = committed g.S.Store c.args.conn.now c.transaction-tx.result.conn c.put_joining.new.tx.conn c.transaction-tx.ensures.begun HasTables (WritesJoin c.args.arrival.now.number c.args.campaign.now.value) c.commit.new.self.0 c.commit.ensures.ended c.commit.result
    c.in_ok-put_joining.ensures c.commit.ensures.ok c.commit.ensures.err c.commit.ensures.survives in
    search (rules, whole)

pub returns-in_err-put_joining : goal.returns-in_err-put_joining
returns-in_err-put_joining g c =
    let whole = left_off g.S.Store c.args.conn.now c.transaction-tx.result.conn c.put_joining.new.tx.conn c.transaction-tx.ensures.begun HasTables (WritesJoin c.args.arrival.now.number c.args.campaign.now.value) c.drop-tx.new.self.0 c.drop-tx.ensures.ended c.from_residual.result
    c.from_residual.ensures c.in_err-put_joining.ensures c.drop-tx.ensures.undone c.drop-tx.ensures.survives in
    search (rules, whole)
