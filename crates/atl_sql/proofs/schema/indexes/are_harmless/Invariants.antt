use Rattle.std.proofs.Common.{take}
use Rattle.std.specs.List.{AllByRecursion}
use Rattle.atl_descriptions.specs.Tables.{IsHarmless}
use Rattle.atl_sql.proofs.schema.indexes.are_harmless.Given as goal

-- none of the indexes before the loop's current one makes anything unique in the first `count` tables
abbrev pub invariant-loop-index : goal.invariant-loop-index
invariant-loop-index l = AllByRecursion (IsHarmless l.count) (take l.index-index l.indexes)
