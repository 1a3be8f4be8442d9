use Rattle.atl_pots.proofs.PotLaws as laws
use Rattle.atl_pots.proofs.pots.takers_alone_get.Goals as goal

pub returns : goal.returns
returns c = record { only = laws.only_takers_get; each = laws.each_taker_gets }
