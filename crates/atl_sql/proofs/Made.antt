-- For proofs alone: what one statement makes of a database, a write of rows or a CREATE TABLE.
-- `old` and `new` are the database, or the state, before and after. Each table has a tree, given by its number, that
-- holds its rows.
use Rattle.std.specs.Prelude.{◌≡◌, ◌≢◌, ℕ, []}
use Rattle.sqlite.specs.Effect.{Database, IsDatabase}
use Rattle.sqlite.specs.State.{State}
use Rattle.sqlite_rules.specs.Lists.{Has}
use Rattle.sqlite_schema.specs.declared.schema.Schema.{Schema}
use Rattle.sqlite_schema.specs.declared.schema.Table.{Table}
use Rattle.atl_descriptions.specs.Sets.{Set, HasExactly, rows_in}
use Rattle.atl_descriptions.specs.Tables.{IsSoundDatabase}

-- A statement wrote one table: its rows are now the set `S`, and every other table of the schema is unchanged. The
-- database has this schema, and is sound under it.
pub record Makes (schema : Schema) (table : Table) (old new : Database) (S : Set) : Type 0 where
  pub schema_is : new.schema ≡ schema
  pub rows : HasExactly (rows_in table new.trees) S
  pub others : (t : Table) → Has schema.tables t → t.tree ≢ table.tree → new.trees t.tree ≡ old.trees t.tree
  pub sound : IsSoundDatabase schema new.trees

-- a CREATE TABLE turned the schema `before` into `after`, with one table more, whose tree `tree` has no rows; the other
-- tables are unchanged, and the trees list the schema (`IsDatabase`)
pub record CreatesTable (before after : Schema) (tree : ℕ) (old new : Database) : Type 0 where
  pub schema_is : new.schema ≡ after
  pub empty : new.trees tree ≡ []
  pub others : (t : Table) → Has before.tables t → new.trees t.tree ≡ old.trees t.tree
  pub sound : IsDatabase new

-- the database has this schema, and each of its tables is empty
pub record AreBare (schema : Schema) (db : Database) : Type 0 where
  pub schema_is : db.schema ≡ schema
  pub empty : (t : Table) → Has schema.tables t → db.trees t.tree ≡ []

-- A database of the first schema, without rows, becomes one of the second, without rows, whose trees list this schema
-- (`IsDatabase`). The connection is in a transaction afterwards exactly if it was before.
abbrev pub Extends : Schema → Schema → State → State → Type 0
Extends before after old new =
    (new.in_transaction ≡ old.in_transaction) × (AreBare before old.now → AreBare after new.now × IsDatabase new.now)
