use Rattle.std.proofs.Common.{rules}
use Rattle.atl_sql.specs.Inside.{IsBlank}
use Rattle.atl_writing.specs.Filling.{WritesFounding}
use Rattle.atl_writing.proofs.WholeLaws.{committed, left_off}
use Rattle.atl_writing.proofs.founding.write_founding.Goals as goal

pub returns : goal.returns
returns g c =
    let whole = committed g.S.Store c.args.conn.now c.transaction-tx.result.conn c.put_founding.new.tx.conn c.transaction-tx.ensures.begun IsBlank (WritesFounding c.args.text.now c.args.campaign.now.value) c.commit.new.self.0 c.commit.ensures.ended c.commit.result
    c.in_ok-put_founding.ensures c.commit.ensures.ok c.commit.ensures.err c.commit.ensures.survives in
    search (rules, whole)

pub returns-in_err-put_founding : goal.returns-in_err-put_founding
returns-in_err-put_founding g c =
    let whole = left_off g.S.Store c.args.conn.now c.transaction-tx.result.conn c.put_founding.new.tx.conn c.transaction-tx.ensures.begun IsBlank (WritesFounding c.args.text.now c.args.campaign.now.value) c.drop-tx.new.self.0 c.drop-tx.ensures.ended c.from_residual.result
    c.from_residual.ensures c.in_err-put_founding.ensures c.drop-tx.ensures.undone c.drop-tx.ensures.survives in
    search (rules, whole)
