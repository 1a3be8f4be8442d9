use Rattle.std.proofs.Common.{rules}
use Rattle.atl_state.proofs.rules.water.are_afloat.Goals as goal

pub returns-then-are_units_afloat : goal.returns-then-are_units_afloat
returns-then-are_units_afloat c =
    (λ r. record { units = c.are_units_afloat.ensures.0 (search rules); structures = c.are_ships_afloat.ensures.0 r }, λ all. c.are_ships_afloat.ensures.1 all.structures)
