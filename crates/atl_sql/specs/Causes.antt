-- Which call inside a transaction gave an error of the database, and why. `g` is the kind of store, in memory or in
-- files, and `state g conn` the state of the database under a connection. A step is a part of a transaction.
use Rattle.std.specs.Prelude.{◌≡◌, ◌⊎◌, ℕ, zero, suc, List, true, false, IsTrue, Ok, Err}
use Rattle.sqlite_disk.specs.Disk.{MoreFaults}
use Rattle.sqlite_trees.specs.declared.store.Store.{Ghosts}
use Rattle.sqlite.specs.declared.error.Error.{Error}
use Rattle.sqlite.specs.declared.error.Error.TheVariants.{SqliteFailure}
use Rattle.sqlite.specs.declared.error.ErrorCode.TheVariants.{TooBig}
use Rattle.sqlite.specs.Held.{Held, state}
use Rattle.sqlite.specs.Order.{Row}
use Rattle.sqlite.specs.State.{State, KeepsCommit, IsUnchanged, ExecutesInside}
use Rattle.sqlite.specs.Steps.{FailsToCommit}
use Rattle.atl_sql.specs.Errors.{is_memory}
use Rattle.atl_descriptions.specs.Statements.{Statements}

-- from one state to the next, one statement of the set `own` ran inside a transaction, without an error
abbrev pub RunsOne : Statements → State → State → Type 0
RunsOne own before after =
    (sql : List ℕ) × (params : Row) × own sql params × (count : ℕ) × ExecutesInside 0 sql params before after (Ok count)

-- `count` statements of `own`, run in turn in a transaction without an error, lead from the connection `old` to `new`
abbrev pub Leads : {S : Type 0} → Ghosts S → Statements → ℕ → Held S → Held S → Type 0
Leads g own zero old new = old ≡ new
Leads {S} g own (suc count) old new = (mid : Held S) × RunsOne own (state g old) (state g mid) × Leads g own count mid new

-- some number of statements of the set `own`, perhaps none, leads from the connection `old` to `new`
abbrev pub IsReached : {S : Type 0} → Ghosts S → Statements → Held S → Held S → Type 0
IsReached g own old new = (count : ℕ) × Leads g own count old new

-- inside a transaction, a statement of the set `own`, or the commit, ended with the error `e`, and led from the state
-- `before` to `after`
abbrev pub IsGiven : Statements → Error → State → State → Type 0
IsGiven own e before after =
    ((sql : List ℕ) × (params : Row) × own sql params × ExecutesInside 0 sql params before after (Err e))
    ⊎ (IsTrue before.in_transaction × FailsToCommit before after e)

-- a cause of an error: between the two states the disk failed, or its count of failures was at its top already
-- (`MoreFaults`); or the connection was shut already in the first state
abbrev pub IsBroken : State → State → Type 0
IsBroken old new = MoreFaults old.faults new.faults ⊎ (old.is_open ≡ false)

-- a cause of the error `e` of a call that led from the state `before` to `after`: `e` says that something is too big,
-- or the call changed nothing
abbrev pub IsRefused : Error → State → State → Type 0
IsRefused e before after = (e ≡ SqliteFailure TooBig) ⊎ IsUnchanged before after

-- In a transaction that ran only statements of the set `own`, one of these, or the commit, ended with the error `e`.
-- `old` is the connection before the transaction, or at a moment within it; only what came after that moment counts.
-- `new` is the connection after the step that returns `e`, or, for a whole transaction, after its commit or rollback.
-- An error other than lack of memory has a cause: the disk failed or the connection was shut (`IsBroken`), or the call
-- was refused (`IsRefused`).
pub record Gives {S : Type 0} (g : Ghosts S) (own : Statements) (e : Error) (old new : Held S) : Type 0 where
  -- the connection before the call that gave the error
  pub before : Held S
  -- the connection after the call that gave the error
  pub after : Held S
  -- from the connection `old`, once the transaction has begun, to the call that gave the error, only statements of
  -- `own` ran
  pub reached : IsReached g own (record old { in_transaction = true }) before
  -- nothing was committed before the call that gave the error, if the connection was still open then
  pub kept : KeepsCommit (state g old) (state g before)
  -- the call that gave the error is a statement of `own`, or the commit, and ended with this error
  pub given : IsGiven own e (state g before) (state g after)
  -- an error other than lack of memory comes of a broken disk or connection, or the call that gave it was refused
  pub cause : is_memory e ≡ false → IsBroken (state g old) (state g new) ⊎ IsRefused e (state g before) (state g after)

-- `fault` is what `fault_of`, which turns each error of the database into a fault, makes of an error that a transaction
-- gave (`Gives`). `own` is the set of the transaction's statements. `old` and `new` are the connection before the
-- transaction and after its commit or rollback.
abbrev pub IsFaultOfError : {S F : Type 0} → Ghosts S → Statements → (Error → F) → Held S → Held S → F → Type 0
IsFaultOfError g own fault_of old new fault = (e : Error) × (fault ≡ fault_of e) × Gives g own e old new
