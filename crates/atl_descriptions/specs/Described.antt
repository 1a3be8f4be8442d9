-- What the description of a table says of its keys and its check.
use Rattle.std.specs.Prelude.{◌≡◌, ◌+◌, ◌++◌, ℕ, Bool, true, false, List, [], ◌∷◌, Option, Some, None, codes, pos, slice_get}
use Rattle.std.specs.Option.{option_map}
use Rattle.sqlite.specs.declared.types.Value.TheVariants.{Int}
use Rattle.sqlite.specs.Collation.TheVariants.{Binary}
use Rattle.sqlite.specs.Table.{Table}
use Rattle.sqlite_catalog.specs.Listing.{automatic}
use Rattle.sqlite_schema.specs.declared.schema.Index.{Index}
use Rattle.sqlite_sql.specs.Term.{Term, lit, col, op2}
use Rattle.sqlite_sql.specs.declared.ops.BinaryOp.TheVariants.{Compare}
use Rattle.sqlite_sql.specs.declared.ops.CompareOp.TheVariants.{Eq}
use Rattle.atl_descriptions.specs.declared.table.UniqueKey.{UniqueKey}

-- the unique keys of a table that has this one or none, by the indexes of their columns in a stored row (0: the rowid)
abbrev pub unique_columns : Option UniqueKey → List (List ℕ)
unique_columns None = []
unique_columns (Some key) = key.columns.now ∷ []

-- The index of the key has the name that the database gives it, "sqlite_autoindex_NAME_1" with the table's name. The
-- number of its tree is one above that of the table.
abbrev pub IsIndexOf : Table → UniqueKey → Type 0
IsIndexOf t key = (key.index.now ≡ codes "sqlite_autoindex_" ++ (t.name ++ codes "_1")) × (key.tree ≡ t.tree + 1)

-- the index of the first unique key of a table, None if it has no such key; its tree's number is one above the table's
abbrev pub index_of : Table → Option Index
index_of t = option_map (λ key. automatic t 0 key (t.tree + 1)) (slice_get t.uniques 0)

-- the checks of a table: the one check `id = 1`, on its first column, if it has one row alone (true); else none
abbrev pub checks_of : Bool → List Term
checks_of true = op2 (Compare Eq Binary) (col 1 0) (lit (Int (pos 1))) ∷ []
checks_of false = []
