use Rattle.std.proofs.Common.{rules}
use Rattle.atl_state.proofs.rules.known.are_stocks_units_and_structures_known.Goals as goal

pub returns-then-are_placed : goal.returns-then-are_placed
returns-then-are_placed c =
    (λ r. (c.are_stocks_known.ensures.0 (search rules), (c.are_placed.ensures.0 (search rules), c.are_structures_known.ensures.0 r)), λ all. c.are_structures_known.ensures.1 all.1.1)
