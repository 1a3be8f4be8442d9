use Rattle.std.proofs.Common.{◌≡◌, [], take}
use Rattle.std.specs.List.{AllByRecursion}
use Rattle.atl_sql.proofs.schema.have_no_foreign_key.Given as goal

-- none of the tables before the loop's current one has a foreign key
abbrev pub invariant-loop-table : goal.invariant-loop-table
invariant-loop-table l = AllByRecursion (λ t. t.references ≡ []) (take l.table-index l.tables)
