use Rattle.atl_shares.proofs.ShareLaws as laws
use Rattle.atl_shares.proofs.shares.splitting_keeps_others.Goals as goal

pub returns : goal.returns
returns c = laws.splitting_keeps_others
