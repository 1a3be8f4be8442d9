use Rattle.std.proofs.Common.{rules}
use Rattle.std.proofs.lemmas.Fn.{always_returns_same}
use Rattle.atl_phase.specs.PhaseOrders.{key_of, task_of}
use Rattle.atl_phase.specs.declared.phase_order.Arrangement.TheVariants.{ByUnit}
use Rattle.atl_market.proofs.work.sort_by_unit.Goals as goal

pub returns-clause-sorted : goal.returns-clause-sorted
returns-clause-sorted c =
    c.sort_unstable_by_key.ensures.sorted (λ o. key_of ByUnit (task_of o))
    (always_returns_same _ _ _ (λ a r q k. search rules))
