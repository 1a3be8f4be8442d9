use Rattle.atl_orders.proofs.BoundLaws as laws
use Rattle.atl_orders.proofs.rules.readings_keep_bounds.Goals as goal

pub returns : goal.returns
returns c = laws.readings_keep_bounds
