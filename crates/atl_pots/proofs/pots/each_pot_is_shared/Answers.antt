use Rattle.atl_pots.proofs.PotLaws as laws
use Rattle.atl_pots.proofs.pots.each_pot_is_shared.Goals as goal

pub returns : goal.returns
returns c = record { shares = laws.shares_each_pot; sum = laws.gives_each_pot; alone = laws.other_regions_do_not_count }
