use Rattle.std.proofs.Common.{sym, ap}
use Rattle.std.proofs.lemmas.Result.{on_err_weaker}
use Rattle.atl_world.proofs.SumLaws.{put_same_err}
use Rattle.atl_campaign.proofs.regions.Regions.put_stock.Goals as goal

pub returns-clause-err : goal.returns-clause-err
returns-clause-err c =
    let region = c.in-Some.lent.now in
    let same = on_err_weaker c.put_amount.result (ap (λ stocks. record region { stocks = stocks })) c.put_amount.ensures.err in
    put_same_err c.put_amount.result c.args.self.now.values c.args.region region (record region { stocks = c.put_amount.new.amounts }) (sym c.in-Some.ensures.value) same
