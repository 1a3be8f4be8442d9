use Rattle.std.proofs.Common.{◌≡◌, ◌≤◌, ◌++◌, drop, map}
use Rattle.std.specs.List.{All}
use Rattle.atl_world.specs.Limits.{most_amount}
use Rattle.atl_tables.specs.OutputTable.{amount_of}
use Rattle.atl_tables.proofs.output_table.amounts_of.Given as goal

-- the amounts so far, followed by those of the items still to come, are those of all items, and each is in its range
abbrev pub invariant-loop-item : goal.invariant-loop-item
invariant-loop-item l = record {
  read : l.amounts ++ map (λ item. amount_of l.outputs item.name) (drop l.item-index l.items)
      ≡ map (λ item. amount_of l.outputs item.name) l.items;
  most : All (λ amount. amount ≤ most_amount) l.amounts;
}
