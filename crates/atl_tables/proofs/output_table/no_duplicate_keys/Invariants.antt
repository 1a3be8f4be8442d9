use Rattle.std.proofs.Common.{◌≡◌, take, drop}
use Rattle.atl_tables.specs.Each.{conditions_on_each}
use Rattle.atl_tables.specs.Faults.{first_fault}
use Rattle.atl_tables.specs.OutputTable.{duplicate_key_at}
use Rattle.atl_tables.specs.SeenNames.{HasNames}
use Rattle.atl_tables.proofs.output_table.no_duplicate_keys.Given as goal

-- `seen` has the keys checked so far, and the first fault of the keys not checked yet is that of all keys
abbrev pub invariant-loop-output : goal.invariant-loop-output
invariant-loop-output l = record {
  seen : HasNames (λ o. o.item) (take l.output-index l.outputs) l.seen;
  faults : first_fault (conditions_on_each (duplicate_key_at l.at l.outputs) l.output-index (drop l.output-index l.outputs))
      ≡ first_fault (conditions_on_each (duplicate_key_at l.at l.outputs) 0 l.outputs);
}
