use Rattle.atl_market.proofs.AfterPotsLaws as laws
use Rattle.atl_market.proofs.recruit.recruits_join_all_at_once.Goals as goal

pub returns : goal.returns
returns c = laws.recruits_at_once
