use Rattle.std.proofs.Common.{rules}
use Rattle.atl_state.proofs.rules.known.is_placed.Goals as goal

pub returns-then-has_known_faction_and_region : goal.returns-then-has_known_faction_and_region
returns-then-has_known_faction_and_region c = (
  λ r.
      let somewhere = c.has_known_faction_and_region.ensures.0 (search rules) in
      let home = c.has_known_goods_and_structure.ensures.0 r in
      record { faction = somewhere.0; region = somewhere.1; structure = home.0; items = home.1.0; skills = home.1.1 },
  λ placed. c.has_known_goods_and_structure.ensures.1 (placed.structure, (placed.items, placed.skills)),
)
