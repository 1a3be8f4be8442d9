use Rattle.atl_phase.proofs.MonthLaws as laws
use Rattle.atl_phase.proofs.month.mailings_have_no_order.Goals as goal

pub returns : goal.returns
returns c = laws.mailings_have_no_order
