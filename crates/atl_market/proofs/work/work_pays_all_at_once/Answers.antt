use Rattle.atl_market.proofs.AfterPotsLaws as laws
use Rattle.atl_market.proofs.work.work_pays_all_at_once.Goals as goal

pub returns : goal.returns
returns c = laws.works_at_once
