-- What one step of a transaction does, and what a whole transaction does. `old` and `new` are the connection before and
-- after the step, or before the transaction begins and after its commit or rollback. `result` is what the step or the
-- transaction returns, and `g` the kind of store, in memory or in files.
use Rattle.std.specs.Prelude.{◌≡◌, ℕ, List, false, IsTrue, Result, Ok, IfErr, OnOk, OnErr}
use Rattle.std.specs.Borrow.{MutBor}
use Rattle.sqlite_trees.specs.declared.store.Store.{Ghosts}
use Rattle.sqlite.specs.declared.error.Error.{Error}
use Rattle.sqlite.specs.Held.{Held, state}
use Rattle.sqlite.specs.Effect.{Database}
use Rattle.sqlite.specs.Order.{Row}
use Rattle.sqlite.specs.State.{State, HasCleanDisk, Survives, KeepsCommit, ExecutesInside}
use Rattle.sqlite_rules.specs.Lists.{Has}
use Rattle.sqlite.specs.Table.{Table}
use Rattle.atl_sql.specs.Inside.{Commits, LeavesOff, MayLeave, DoesInside, HasTables, Puts, PutsRows, Drops}
use Rattle.atl_descriptions.specs.Statements.{deletion, upsert, Statements, OneStatement, RowStatements}
use Rattle.atl_sql.specs.Causes.{Gives, IsReached}

-- A step inside a transaction: with Ok it did `Does` by statements of `own` alone.
-- With an error, this is one that a call of the transaction gave. All this is so if the disk is clean.
pub record Writes {S : Type 0} (g : Ghosts S) (own : Statements) (Does : State → State → Type 0)
    {A : Type 0} (result : Result A Error) (old new : MutBor (Held S)) : Type 0 where
  -- The step stays on the same connection.
  pub same_reference : new.ghost_name ≡ old.ghost_name
  -- With Ok the step has done `Does`, if the disk is clean.
  pub does : HasCleanDisk (state g new.now) → OnOk result (Does (state g old.now) (state g new.now))
  -- With Ok the connection is in a transaction exactly if it was in one, if the disk is clean.
  pub goes_on : HasCleanDisk (state g new.now) → OnOk result ((state g new.now).in_transaction ≡ (state g old.now).in_transaction)
  -- With Ok the step has run statements of `own` alone, if a transaction had begun and the disk is clean.
  pub reaches : HasCleanDisk (state g new.now)
      → IsTrue (state g old.now).in_transaction
      → OnOk result (IsReached g own old.now new.now)
  -- An error of the step is one that a call of the transaction gave, if a transaction had begun and the disk is clean.
  pub error_given : HasCleanDisk (state g new.now)
      → IsTrue (state g old.now).in_transaction
      → IfErr result (λ e. Gives g own e old.now new.now)
  -- A connection that is open was open before the step, which has committed nothing, if the disk is clean.
  pub kept : HasCleanDisk (state g new.now) → KeepsCommit (state g old.now) (state g new.now)
  -- On a clean disk a crash leaves only what it could have left before, and only a failure closes the connection.
  -- A disk that isn't clean stays so, and no failure is forgotten. The limit on a query's steps stays, and so does a
  -- shield, which compares each read with digests of what was written (`Survives`).
  pub survives : Survives (state g old.now) (state g new.now) (λ _. ⊥)

-- This statement ran with these parameters, without an error, inside a transaction.
abbrev pub RunsStatement : List ℕ → Row → State → State → Type 0
RunsStatement sql params old new = IsTrue old.in_transaction × (count : ℕ) × ExecutesInside 0 sql params old new (Ok count)

-- A step (`Writes`) by the one upsert of this row, whose key is its first `key` columns. If `HasTables` holds, it puts
-- the row into `table` (`Puts`).
abbrev pub WritesRow : {S A : Type 0} → Ghosts S → Table → ℕ → Row → Result A Error → MutBor (Held S) → MutBor (Held S) → Type 0
WritesRow g table key row result old new =
    Writes g (OneStatement (upsert table key) row) (DoesInside HasTables (Puts table key row)) result old new

-- A step (`Writes`) by the one DELETE of `table` by its first `key` columns, with `k` as their values. If `HasTables`
-- holds, it deletes the rows in which they are `k` (`Drops`).
abbrev pub TakesOut : {S A : Type 0} → Ghosts S → Table → ℕ → Row → Result A Error → MutBor (Held S) → MutBor (Held S) → Type 0
TakesOut g table key k result old new =
    Writes g (OneStatement (deletion table key) k) (DoesInside HasTables (Drops table key k)) result old new

-- A step (`Writes`) by upserts of rows of the list `rows` alone, whose key is their first `key` columns. If `HasTables`
-- holds, it puts all of them into `table`, one after another (`PutsRows`).
abbrev pub WritesRows : {S A : Type 0} → Ghosts S → Table → ℕ → List Row
    → Result A Error → MutBor (Held S) → MutBor (Held S) → Type 0
WritesRows g table key rows result old new =
    Writes g (RowStatements (upsert table key) (Has rows)) (DoesInside HasTables (PutsRows table key rows)) result old new

-- A whole transaction of statements of `own`: with Ok it did `Does`, if the tables were as `Before` says, and committed
-- it. With an error the tables are those of the last commit, unless the connection is shut. All this is so if the disk
-- is clean. That the connection was in no transaction is a premise of the calls.
pub record Transacts {S : Type 0} (g : Ghosts S) (own : Statements)
    (Before : Database → Type 0) (Does : Database → Database → Type 0)
    {A : Type 0} (result : Result A Error) (old new : Held S) : Type 0 where
  -- With Ok the transaction did `Does` and committed it, if the disk is clean and the tables were as `Before` says.
  pub ok : HasCleanDisk (state g new) → OnOk result (Commits Before Does (state g old) (state g new))
  -- With an error, on a clean disk, the tables are those of the last commit, if the connection is still open.
  pub err : HasCleanDisk (state g new) → OnErr result (LeavesOff (state g old) (state g new))
  -- An error of the transaction is one that a statement of `own`, or the commit, gave, if the disk is clean.
  pub error_given : HasCleanDisk (state g new) → IfErr result (λ e. Gives g own e old new)
  -- On a clean disk a crash leaves what it could have left before, or what the transaction commits (`MayLeave`), and
  -- only a failure closes the connection. A disk that isn't clean stays so, and no failure is forgotten. The limit on a
  -- query's steps stays, and so does a shield, which compares each read with digests of what was written.
  pub crash : Survives (state g old) (state g new) (MayLeave Before Does (state g old))
  pub idle : new.in_transaction ≡ false
