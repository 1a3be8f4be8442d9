use Rattle.std.proofs.Common.{◌≡◌, ◌++◌}
use Rattle.std.specs.List.{All}
use Rattle.toml.specs.View.{table_view}
use Rattle.atl_tables.specs.Drafts.{IsOutput}
use Rattle.atl_tables.specs.Faults.{first_fault}
use Rattle.atl_tables.specs.OutputTable.{in_byte_order, amounts_keys, amounts_from}
use Rattle.atl_tables.proofs.OutputLaws.{entries_view}
use Rattle.atl_tables.proofs.output_table.output_entries.Given as goal

-- The first fault of the entries not read yet is that of all entries. The amounts read so far, each in its range,
-- followed by those of the entries not read yet, are all amounts.
abbrev pub invariant-loop-key : goal.invariant-loop-key
invariant-loop-key l = record {
  faults : first_fault (amounts_keys l.at (entries_view l.key-iterator))
      ≡ first_fault (amounts_keys l.at (in_byte_order (table_view l.table)));
  read : l.outputs ++ amounts_from l.at (entries_view l.key-iterator)
      ≡ amounts_from l.at (in_byte_order (table_view l.table));
  sound : All IsOutput l.outputs;
}
