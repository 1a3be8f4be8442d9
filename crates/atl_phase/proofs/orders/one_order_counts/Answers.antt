use Rattle.atl_phase.proofs.OneOrderLaws as laws
use Rattle.atl_phase.proofs.orders.one_order_counts.Goals as goal

pub returns : goal.returns
returns c = laws.one_order_counts
