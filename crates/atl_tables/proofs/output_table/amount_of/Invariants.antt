use Rattle.std.proofs.Common.{◌≡◌, drop}
use Rattle.std.specs.List.{find}
use Rattle.atl_world.specs.Names.{same_name}
use Rattle.atl_tables.proofs.output_table.amount_of.Given as goal

-- the first entry with the name among the entries not looked at yet is the first one among all entries
abbrev pub invariant-loop-output : goal.invariant-loop-output
invariant-loop-output l =
    find (λ o. same_name o.item l.item) (drop l.output-index l.outputs) ≡ find (λ o. same_name o.item l.item) l.outputs
