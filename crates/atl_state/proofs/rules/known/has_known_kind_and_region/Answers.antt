use Rattle.std.proofs.Common.{rules}
use Rattle.atl_state.proofs.rules.known.has_known_kind_and_region.Goals as goal

pub returns-then-from-kinds : goal.returns-then-from-kinds
returns-then-from-kinds c = (λ r. (search rules, c.is_region.ensures.0 r), λ both. c.is_region.ensures.1 both.1)
