use Rattle.std.proofs.Common.{rules}
use Rattle.atl_state.proofs.rules.known.has_known_kind_region_and_owner.Goals as goal

pub returns-then-has_known_kind_and_region : goal.returns-then-has_known_kind_and_region
returns-then-has_known_kind_and_region c =
    (λ r. let is_at = c.has_known_kind_and_region.ensures.0 (search rules) in record { kind = is_at.0; region = is_at.1; owner = c.is_owner_there.ensures.0 r }, λ built. c.is_owner_there.ensures.1 built.owner)
