use Rattle.std.proofs.Common.{◌≡◌, take}
use Rattle.atl_descriptions.specs.Tables.{all_tables}
use Rattle.atl_sql.proofs.tables.are_first_tables.Given as goal

-- the first `position` tables of the schema are the first `position` of the ten
abbrev pub invariant-loop-position : goal.invariant-loop-position
invariant-loop-position l = take l.position l.tables ≡ take l.position all_tables
