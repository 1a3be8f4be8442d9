use Rattle.std.proofs.Common.{◌≡◌, drop}
use Rattle.atl_tables.specs.Each.{conditions_on_each}
use Rattle.atl_tables.specs.Faults.{first_fault}
use Rattle.atl_tables.specs.OutputTable.{known_key_at}
use Rattle.atl_tables.proofs.output_table.keys_name_items.Given as goal

-- the first fault of the keys not looked up yet is that of all keys of the output
abbrev pub invariant-loop-i : goal.invariant-loop-i
invariant-loop-i l =
    first_fault (conditions_on_each (known_key_at l.all l.at) l.i (drop l.i l.outputs)) ≡ first_fault
    (conditions_on_each (known_key_at l.all l.at) 0 l.outputs)
