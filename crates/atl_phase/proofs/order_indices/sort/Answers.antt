use Rattle.std.proofs.Common.{rules}
use Rattle.std.proofs.lemmas.Fn.{always_returns_same}
use Rattle.atl_phase.specs.OrderIndices.{key_by}
use Rattle.atl_phase.proofs.order_indices.sort.Goals as goal

pub returns-clause-sorted : goal.returns-clause-sorted
returns-clause-sorted c =
    c.sort_unstable_by_key.ensures.sorted (key_by c.args.arrangement)
    (always_returns_same _ _ _ (λ a r q k. search rules))
