use Rattle.std.proofs.Common.{rules}
use Rattle.atl_state.proofs.rules.known.are_stocks_known.Goals as goal

pub returns-then-are_regions_known : goal.returns-then-are_regions_known
returns-then-are_regions_known c =
    (λ r. (c.are_regions_known.ensures.0 (search rules), c.have_known_markets.ensures.0 r), λ both. c.have_known_markets.ensures.1 both.1)
