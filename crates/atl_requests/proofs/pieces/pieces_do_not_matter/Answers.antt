use Rattle.atl_requests.proofs.PieceLaws as laws
use Rattle.atl_requests.proofs.pieces.pieces_do_not_matter.Goals as goal

pub returns : goal.returns
returns c = (laws.judged_still, laws.one_verdict)
