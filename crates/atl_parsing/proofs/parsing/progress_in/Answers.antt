use Rattle.atl_parsing.proofs.HeadLaws as laws
use Rattle.atl_parsing.proofs.parsing.progress_in.Goals as goal

pub returns-in-Partial : goal.returns-in-Partial
returns-in-Partial c =
    laws.missing_one c.args.seen.now c.front_of-front.result.now c.front_of-front.ensures.front
    c.if-seen-lt-MOST_HEAD.true c.in-Partial.ensures.finds

pub returns-in-Refused : goal.returns-in-Refused
returns-in-Refused c =
    laws.judges_refused c.args.seen.now c.front_of-front.result.now c.front_of-front.ensures.front
    c.in-Refused.ensures.finds
