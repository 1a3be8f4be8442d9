use Rattle.atl_market.proofs.AfterPotsLaws as laws
use Rattle.atl_market.proofs.produce.units_produce_all_at_once.Goals as goal

pub returns : goal.returns
returns c = laws.produces_at_once
