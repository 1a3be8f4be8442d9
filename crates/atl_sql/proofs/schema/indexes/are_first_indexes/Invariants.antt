use Rattle.std.proofs.Common.{◌≡◌, take}
use Rattle.atl_descriptions.specs.Tables.{all_indexes}
use Rattle.atl_sql.proofs.schema.indexes.are_first_indexes.Given as goal

-- the first `position` indexes of the schema are the first `position` of those that the ten tables have
abbrev pub invariant-loop-position : goal.invariant-loop-position
invariant-loop-position l = take l.position l.indexes ≡ take l.position all_indexes
