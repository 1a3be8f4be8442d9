use Rattle.std.proofs.Common.{◌≡◌, drop}
use Rattle.std.specs.List.{position_from}
use Rattle.atl_world.specs.Names.{same_name}
use Rattle.atl_tables.proofs.titles.number_of.Given as goal

-- the first element with the name, among those from index i on, is the first one among all elements
abbrev pub invariant-loop-i : goal.invariant-loop-i
invariant-loop-i g l =
    position_from (λ x. same_name (g.T.Titled.title_of x) l.name) l.i (drop l.i l.items) ≡ position_from
    (λ x. same_name (g.T.Titled.title_of x) l.name) 0 l.items
