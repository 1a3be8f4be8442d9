use Rattle.atl_state.proofs.rules.known.is_owner_there.Goals as goal

pub returns-else-structure-eq0 : goal.returns-else-structure-eq0
returns-else-structure-eq0 c =
    (λ r _. c.is_unit.ensures.0 r, λ owned. c.is_unit.ensures.1 (owned c.if-structure-eq0.false))
