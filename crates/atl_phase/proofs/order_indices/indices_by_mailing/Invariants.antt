use Rattle.std.proofs.Common.{take}
use Rattle.atl_phase.specs.OrderIndices.{AreIndicesOf, all_tasks}
use Rattle.atl_phase.proofs.order_indices.indices_by_mailing.Given as goal

-- before each mailing: the list names the orders that count of the mailings so far
abbrev pub invariant-loop-at : goal.invariant-loop-at
invariant-loop-at g l =
    AreIndicesOf l.mailings (all_tasks g.P.PhaseVerbs.is_of l.aliases (take l.at l.mailings)) l.list.items
