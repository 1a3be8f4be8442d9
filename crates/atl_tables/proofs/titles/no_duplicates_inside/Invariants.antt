use Rattle.std.proofs.Common.{◌≡◌, drop}
use Rattle.atl_tables.specs.Each.{conditions_on_each}
use Rattle.atl_tables.specs.Faults.{first_fault}
use Rattle.atl_tables.proofs.titles.no_duplicates_inside.Given as goal

-- the first fault of the tables not checked yet is that of all tables
abbrev pub invariant-loop-i : goal.invariant-loop-i
invariant-loop-i g l =
    first_fault (conditions_on_each g.T.HasUniqueNames.no_duplicates l.i (drop l.i l.holders)) ≡ first_fault
    (conditions_on_each g.T.HasUniqueNames.no_duplicates 0 l.holders)
