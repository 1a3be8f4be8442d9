use Rattle.atl_instant.proofs.DaysLaws as laws
use Rattle.atl_instant.proofs.transfer.days_go_with_men.Goals as goal

pub returns : goal.returns
returns c = laws.days_go_with_men
