use Rattle.atl_phase.proofs.OrderIndexLaws.{Added}
use Rattle.atl_phase.proofs.order_indices.add_counting.Given as goal

-- before each order of the mailing: the list has the old indices and those of the orders before it that count (`Added`)
abbrev pub invariant-loop-index : goal.invariant-loop-index
invariant-loop-index g l = Added g.P.PhaseVerbs.is_of l.aliases l.mailings l.at l.fn.list.items l.index l.list.items
