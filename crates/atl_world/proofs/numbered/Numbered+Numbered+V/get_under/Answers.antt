use Rattle.std.proofs.Common.{unwrap_or, sym, ap, ◌∙◌}
use Rattle.std.specs.Ordering.{nat_cmp}
use Rattle.std.specs.FinMap.{get, get-empty, empty}
use Rattle.atl_world.proofs.numbered.Numbered+Numbered+V.get_under.Goals as goal

-- where there is no inner map under the number `group`, the call gives None, as does a look-up in the empty map that
-- the definition (`group_of`) has there
pub returns-in-None : goal.returns-in-None
returns-in-None g c =
    sym (get-empty nat_cmp c.args.number) ∙ ap (λ o. get (unwrap_or o empty) c.args.number) c.in-None.ensures
