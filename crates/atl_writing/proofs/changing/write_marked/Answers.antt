use Rattle.std.proofs.Common.{rules}
use Rattle.atl_writing.specs.Changing.{WritesChanges}
use Rattle.atl_sql.specs.Inside.{HasTables}
use Rattle.atl_writing.proofs.WholeLaws.{committed, left_off}
use Rattle.atl_writing.proofs.changing.write_marked.Goals as goal

pub returns : goal.returns
returns g c =
    let whole = committed g.S.Store c.args.conn.now c.transaction-tx.result.conn c.rewrite_parts.new.tx.conn c.transaction-tx.ensures.begun HasTables (WritesChanges c.args.campaign.now) c.commit.new.self.0 c.commit.ensures.ended c.commit.result
    c.in_ok-rewrite_parts.ensures c.commit.ensures.ok c.commit.ensures.err c.commit.ensures.survives in
    search (rules, whole)

pub returns-in_err-rewrite_parts : goal.returns-in_err-rewrite_parts
returns-in_err-rewrite_parts g c =
    let whole = left_off g.S.Store c.args.conn.now c.transaction-tx.result.conn c.rewrite_parts.new.tx.conn c.transaction-tx.ensures.begun HasTables (WritesChanges c.args.campaign.now) c.drop-tx.new.self.0 c.drop-tx.ensures.ended c.from_residual.result
    c.from_residual.ensures c.in_err-rewrite_parts.ensures c.drop-tx.ensures.undone c.drop-tx.ensures.survives in
    search (rules, whole)
