-- What is done to the tables inside a transaction, and what a whole transaction leaves. `old` and `new` are the
-- database, or the state of the connection, before and after it. A tree holds the rows of one table.
use Rattle.std.specs.Prelude.{◌≡◌, ◌≢◌, ℕ, List, [], ◌∷◌, false, IsTrue}
use Rattle.sqlite_value.specs.Order.{Row}
use Rattle.sqlite_schema.specs.declared.schema.Table.{Table}
use Rattle.sqlite_schema.specs.declared.schema.Index.{Index}
use Rattle.sqlite_rules.specs.Lists.{Has}
use Rattle.sqlite.specs.Effect.{Database}
use Rattle.sqlite.specs.State.{State}
use Rattle.sqlite_trees.specs.Tree.{Trees}
use Rattle.atl_descriptions.specs.Sets.{Set, HasExactly, rows_in, put, puts, drop_key}
use Rattle.atl_descriptions.specs.Tables.{Part, table_of, no_tables, all_tables, all_trees, HasAll, IsSoundDatabase}

-- the schema begins with the ten tables and their indexes (`HasAll`), and the database is sound (`IsSoundDatabase`)
pub record HasTables (db : Database) : Type 0 where
  pub begins : HasAll db.schema
  pub sound : IsSoundDatabase db.schema db.trees

-- the schema of the database has nothing: no table, index, view or trigger, nor what the database keeps as it is
abbrev pub IsBlank : Database → Type 0
IsBlank db = db.schema ≡ no_tables

-- no table and no index is gone, and tables that aren't a campaign's hold what they held
pub record Carries (old new : Database) : Type 0 where
  -- each table of the schema before is in the schema after
  pub tables : (t : Table) → Has old.schema.tables t → Has new.schema.tables t
  -- each index of the schema before is in the schema after
  pub indexes : (i : Index) → Has old.schema.indexes i → Has new.schema.indexes i
  -- each table of the schema before holds what it held, unless its tree is that of one of the ten tables
  pub others : (t : Table) → Has old.schema.tables t → ¬ Has all_trees t.tree → new.trees t.tree ≡ old.trees t.tree

-- `Does` is done, the tables of a campaign are there afterwards, and all others are kept with their indexes (`Carries`)
pub record DoesAndKeeps (Does : Database → Database → Type 0) (old new : Database) : Type 0 where
  pub does : Does old new
  pub tables : HasTables new
  pub carries : Carries old new

-- Inside a transaction: if the database was as `Before` says, `Does` is done to it, the ten tables are there, and all
-- others are kept (`DoesAndKeeps`). In any case the connection is in a transaction exactly if it was before.
abbrev pub DoesInside : (Database → Type 0) → (Database → Database → Type 0) → State → State → Type 0
DoesInside Before Does old new = (new.in_transaction ≡ old.in_transaction) × (Before old.now → DoesAndKeeps Does old.now new.now)

-- `First` is done to the database, and then `Second`
abbrev pub DoesBoth : (Database → Database → Type 0) → (Database → Database → Type 0) → Database → Database → Type 0
DoesBoth First Second old new = (mid : Database) × First old mid × Second mid new

-- afterwards the rows of `table` are exactly those of the set `S`, and each other table of a campaign is as it was
pub record Alters (table : Table) (S : Set) (old new : Database) : Type 0 where
  pub rows : HasExactly (rows_in table new.trees) S
  pub others : (t : Table) → Has all_tables t → t.tree ≢ table.tree → new.trees t.tree ≡ old.trees t.tree

-- For each part of the list `parts`, `Becomes` holds of the part, of the rows of its table before, and of those after;
-- the tables of all other parts are as they were.
pub record Changes (Becomes : Part → List Row → List Row → Type 0) (parts : List Part) (old new : Database) : Type 0 where
  pub done : (part : Part) → Has parts part → Becomes part (rows_in (table_of part) old.trees) (rows_in (table_of part) new.trees)
  pub others : (part : Part) → ¬ Has parts part → new.trees (table_of part).tree ≡ old.trees (table_of part).tree

-- `Does` is done for each part of the list, one after another; for the empty list nothing changes
abbrev pub InTurn : (Part → Database → Database → Type 0) → List Part → Database → Database → Type 0
InTurn Does [] old new = new ≡ old
InTurn Does (part ∷ parts) old new = (mid : Database) × Does part old mid × InTurn Does parts mid new

-- in `table` the row replaces the one with the same first `key` columns, or is added; its other rows, and all other
-- tables of a campaign, are as they were
abbrev pub Puts : Table → ℕ → Row → Database → Database → Type 0
Puts table key row old new = Alters table (put key row (Has (rows_in table old.trees))) old new

-- in `table` the rows whose first `key` columns are `k` are deleted; its other rows, and all other tables of a
-- campaign, are as they were
abbrev pub Drops : Table → ℕ → Row → Database → Database → Type 0
Drops table key k old new = Alters table (drop_key key k (Has (rows_in table old.trees))) old new

-- all these rows are put, one after another, into `table`, whose key is its first `key` columns (`Puts`); its other
-- rows, and all other tables of a campaign, are as they were
abbrev pub PutsRows : Table → ℕ → List Row → Database → Database → Type 0
PutsRows table key news old new = Alters table (puts key news (Has (rows_in table old.trees))) old new

-- A transaction that succeeded. If the tables were as `Before` says, `Does` is done, the ten tables are there, and all
-- others are kept (`DoesAndKeeps`). All is committed. Afterwards the connection is open and in no transaction.
pub record Commits (Before : Database → Type 0) (Does : Database → Database → Type 0) (old new : State) : Type 0 where
  pub does : Before old.now → DoesAndKeeps Does old.now new.now
  pub committed : new.committed ≡ new.now
  pub idle : new.in_transaction ≡ false
  pub is_open : IsTrue new.is_open

-- A transaction that failed: while the connection is open, its tables are those of the last commit before.
-- The connection is in no transaction.
pub record LeavesOff (old new : State) : Type 0 where
  -- a connection that is open afterwards was open before
  pub was_open : IsTrue new.is_open → IsTrue old.is_open
  -- while the connection is open, its tables are those of the last commit before, and nothing was committed
  pub undone : IsTrue new.is_open → (new.now ≡ old.committed) × (new.committed ≡ old.committed)
  pub idle : new.in_transaction ≡ false

-- what a crash may leave besides what it could have left before: trees to which `Does` was done, with other tables kept
-- (`DoesAndKeeps`), if the tables were as `Before` says, and else any trees
abbrev pub MayLeave : (Database → Type 0) → (Database → Database → Type 0) → State → Trees → Type 0
MayLeave Before Does old trees = (db : Database) × (Before old.now → DoesAndKeeps Does old.now db) × (trees ≡ db.trees)
