use Rattle.std.proofs.Common.{rules}
use Rattle.atl_state.proofs.rules.known.has_known_faction_and_region.Goals as goal

pub returns-then-is_faction : goal.returns-then-is_faction
returns-then-is_faction c =
    (λ r. (c.is_faction.ensures.0 (search rules), c.is_region.ensures.0 r), λ both. c.is_region.ensures.1 both.1)
