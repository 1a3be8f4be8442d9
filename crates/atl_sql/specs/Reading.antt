-- What reading all rows of a table gives. `old` and `new` are the connection before and after the read. `forms` are the
-- forms of the columns, and `shown` gives the row that a value was read of. `g` is the kind of store, in memory or in
-- files. A tree holds the rows of one table. A shield compares each read with digests of what was written.
use Rattle.std.specs.Prelude.{◌≡◌, ◌≢◌, ◌≤◌, ◌⊎◌, ◌++◌, ℕ, List, [], ◌∷◌, length, map, IsTrue, IsPermutation, false, Option, Result, IfOk, IfErr, IfSome, OnOk}
use Rattle.std.specs.declared.vec.Vec.{Vec}
use Rattle.sqlite_trees.specs.declared.store.Store.{Ghosts}
use Rattle.sqlite_trees.specs.Tree.{Trees}
use Rattle.sqlite.specs.declared.error.Error.{Error}
use Rattle.sqlite.specs.Held.{Held, state}
use Rattle.sqlite.specs.Order.{Row}
use Rattle.sqlite.specs.State.{State, HasCleanDisk, Survives, Shown, FailsToQuery}
use Rattle.atl_world.specs.declared.format.Format.{Format}
use Rattle.atl_descriptions.specs.Tables.{HasTablesOf}
use Rattle.atl_sql.specs.Errors.{read_fault}
use Rattle.atl_columns.specs.Forms.{Form, IsTyped}
use Rattle.atl_sql.specs.Stored.{first_columns, AreTyped}
use Rattle.atl_sql.specs.declared.fault.ReadFault.{ReadFault}
use Rattle.atl_sql.specs.declared.fault.ReadFault.TheVariants.{OtherType, Memory}

-- a connection that is open was open before, nothing is committed, and its tables are as they were or as last committed
pub record Rests (old new : State) : Type 0 where
  pub was_open : IsTrue new.is_open → IsTrue old.is_open
  pub same : IsTrue new.is_open → ((new.now ≡ old.committed) ⊎ (new.now ≡ old.now)) × (new.committed ≡ old.committed)

-- `before` is the connection as the SELECT finds it: with the tables of `old`, and its limit on a query's steps.
-- It is open exactly if `old` is, and its disk has failed no less often.
pub record IsAsked (old before : State) : Type 0 where
  pub was_open : IsTrue before.is_open → IsTrue old.is_open
  pub is_open : IsTrue old.is_open → IsTrue before.is_open
  pub same : before.now ≡ old.now
  pub limit : before.step_limit ≡ old.step_limit
  pub faults : old.faults ≤ before.faults

-- `sql` is the text of a SELECT
module _ {S : Type 0} (g : Ghosts S) (sql : List ℕ) (old : Held S) where
  -- the SELECT, asked on a connection with the tables of `old` (`IsAsked`), shows these rows
  abbrev pub Selects : List Row → Type 0
  Selects rows =
      (before during : Held S) × IsAsked (state g old) (state g before) × Shown sql [] (state g before) (state g during) rows

  -- the SELECT, asked on a connection with the tables of `old` (`IsAsked`), is refused, and this is its error's fault
  abbrev pub RefusesToSelect : ReadFault → Type 0
  RefusesToSelect fault =
      (before during : Held S) × (e : Error)
      × IsAsked (state g old) (state g before)
      × FailsToQuery sql [] (state g before) (state g during) e
      × (fault ≡ read_fault e)

  -- The SELECT is asked, whatever the schema is: Ok has the rows that it shows, Err the fault of its refusal, and
  -- nothing is committed. All this is so if the disk is clean.
  pub record Asks {Z : Type 0} (result : Result (Vec Row Z) ReadFault) (new : Held S) : Type 0 where
    -- Ok has the rows that the SELECT shows.
    pub rows : HasCleanDisk (state g new) → IfOk result (λ rows. Selects rows.items)
    -- Err has the fault of the SELECT's refusal.
    pub refused : HasCleanDisk (state g new) → IfErr result RefusesToSelect
    -- On a clean disk an open connection was open before, with its tables as they were or as last committed (`Rests`).
    pub rests : HasCleanDisk (state g new) → Rests (state g old) (state g new)
    -- On a clean disk a crash leaves only what it could have left before, and only a failure closes the connection.
    -- A disk that isn't clean stays so, no failure is forgotten, and the limit on steps and a shield stay (`Survives`).
    pub survives : Survives (state g old) (state g new) (λ _. ⊥)
    pub idle : new.in_transaction ≡ false

  -- With Ok all rows that the SELECT shows are read, each value in the form of its column. The fault is OtherType for a
  -- value of another form, or that of the refused SELECT, or Memory. Nothing is committed. All this is so if the disk
  -- is clean.
  pub record ReadsRows {A Z : Type 0} (forms : List Form) (shown : A → Row)
      (result : Result (Vec A Z) ReadFault) (new : Held S) : Type 0 where
    -- Ok has all rows that the SELECT shows, in their order: of each the first values, one for each form, in this form.
    pub rows : HasCleanDisk (state g new)
        → IfOk result (λ all. (rows : List Row) × Selects rows
        × (map shown all.items ≡ map (first_columns (length forms)) rows)
        × AreTyped forms rows)
    -- OtherType is returned only if a value is of another form than its column.
    pub other : HasCleanDisk (state g new)
        → IfErr result (λ fault. fault ≡ OtherType → (rows : List Row) × Selects rows × ¬ AreTyped forms rows)
    -- A fault other than OtherType and Memory is that of the SELECT's refusal.
    pub refused : HasCleanDisk (state g new) → IfErr result (λ fault. fault ≢ OtherType → fault ≢ Memory → RefusesToSelect fault)
    -- Memory is returned only if the SELECT is refused for lack of memory, or isn't refused: its rows need memory too.
    pub memory : HasCleanDisk (state g new)
        → IfErr result (λ fault. fault ≡ Memory → RefusesToSelect Memory ⊎ ((rows : List Row) × Selects rows))
    -- On a clean disk an open connection was open before, with its tables as they were or as last committed (`Rests`).
    pub rests : HasCleanDisk (state g new) → Rests (state g old) (state g new)
    -- On a clean disk a crash leaves only what it could have left before, and only a failure closes the connection.
    -- A disk that isn't clean stays so, no failure is forgotten, and the limit on steps and a shield stay (`Survives`).
    pub survives : Survives (state g old) (state g new) (λ _. ⊥)
    pub idle : new.in_transaction ≡ false

  -- The rows of a query are read one by one: Ok has all of them, or None; Err has the fault of the refusal. Nothing is
  -- committed. All this is so if the disk is clean. When it is None isn't said.
  pub record Streams {A Z : Type 0} (forms : List Form) (shown : A → Row)
      (result : Result (Option (Vec A Z)) ReadFault) (new : Held S) : Type 0 where
    -- With Ok of a list, it has all rows that the SELECT shows, in their order: of each the first values, in the forms.
    pub rows : HasCleanDisk (state g new)
        → IfOk result (λ read. IfSome read (λ all. (rows : List Row) × Selects rows
        × (map shown all.items ≡ map (first_columns (length forms)) rows)
        × AreTyped forms rows))
    -- Err has the fault of the SELECT's refusal.
    pub refused : HasCleanDisk (state g new) → IfErr result RefusesToSelect
    -- After Ok the connection has the same tables and limit on steps (`IsAsked`), so the SELECT can be asked again.
    pub same : HasCleanDisk (state g new) → OnOk result (IsAsked (state g old) (state g new))
    -- On a clean disk an open connection was open before, with its tables as they were or as last committed (`Rests`).
    pub rests : HasCleanDisk (state g new) → Rests (state g old) (state g new)
    -- On a clean disk a crash leaves only what it could have left before, and only a failure closes the connection.
    -- A disk that isn't clean stays so, no failure is forgotten, and the limit on steps and a shield stay (`Survives`).
    pub survives : Survives (state g old) (state g new) (λ _. ⊥)
    pub idle : new.in_transaction ≡ false

-- the list `new` is `old` and then one element read from this row, whose first values are of these forms
abbrev pub AddsRow : {A : Type 0} → List Form → (A → Row) → List A → Row → List A → Type 0
AddsRow forms shown old row new =
    (one : _) × (new ≡ old ++ one ∷ []) × (shown one ≡ first_columns (length forms) row) × IsTyped forms row

-- Ok of `result` has all rows of a table, each as often as it is there, in any order, if the disk is clean and the
-- schema begins with the tables of the format `since`. `in_table` gives the table's rows by the trees of the database.
abbrev pub GivesTable : {S A Z : Type 0} → Ghosts S → Format → (Trees → List Row) → (A → Row)
    → Result (Vec A Z) ReadFault → Held S → Held S → Type 0
GivesTable g since in_table shown result old new =
    HasCleanDisk (state g new)
    → HasTablesOf since old.schema
    → IfOk result (λ all. IsPermutation (in_table (state g old).now.trees) (map shown all.items))
