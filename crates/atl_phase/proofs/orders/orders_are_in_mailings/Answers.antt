use Rattle.atl_phase.proofs.PhaseOrderLaws as laws
use Rattle.atl_phase.proofs.orders.orders_are_in_mailings.Goals as goal

pub returns : goal.returns
returns c = laws.orders_are_in_mailings
