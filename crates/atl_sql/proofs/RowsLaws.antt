-- Laws by which the rows that a SELECT shows are all rows of its table.
-- `in_table` gives the rows of the table by the trees, and `count` is the number of its columns. `old` is the
-- connection at first, `before` the one on which the SELECT is asked, and `during` the one after the SELECT. `g` is the
-- kind of store. A tree holds the rows of one table.
use Rattle.std.proofs.Common.{ℕ, List, [], length, map, IsPermutation, Result, sym, subst}
use Rattle.std.specs.declared.vec.Vec.{Vec}
use Rattle.sqlite_trees.specs.declared.store.Store.{Ghosts}
use Rattle.sqlite_trees.specs.Tree.{Trees}
use Rattle.sqlite.specs.Effect.{Database}
use Rattle.sqlite.specs.Held.{Held, state}
use Rattle.sqlite.specs.Order.{Row}
use Rattle.sqlite.specs.State.{State, Shown}
use Rattle.atl_world.specs.declared.format.Format.{Format}
use Rattle.atl_descriptions.specs.Tables.{HasTablesOf}
use Rattle.atl_columns.specs.Forms.{Form}
use Rattle.atl_sql.specs.Stored.{first_columns}
use Rattle.atl_sql.specs.Reading.{IsAsked, ReadsRows, GivesTable}
use Rattle.atl_sql.specs.declared.fault.ReadFault.{ReadFault}
use Rattle.atl_sql.proofs.KeepLaws.{if_ok}

-- the SELECT `sql` shows exactly the rows of its table, in some order, as their first `count` columns, if the schema
-- begins with the tables of the format `f`
abbrev pub Reads : Format → List ℕ → (Trees → List Row) → ℕ → Type 1
Reads f sql in_table count = (old new : State) (rows : List Row) → Shown sql [] old new rows → HasTablesOf f old.now.schema → IsPermutation (in_table old.now.trees) (map (first_columns count) rows)

-- if `old` has the tables of the format `f`, the connection on which the SELECT is asked has them too
pub asked_has_tables : (f : Format) (old before : State) → IsAsked old before → HasTablesOf f old.now.schema
    → HasTablesOf f before.now.schema
asked_has_tables f old before select_of has = subst (λ (d : Database). HasTablesOf f d.schema) (sym select_of.same) has

-- A SELECT of a whole table (`Reads`) shows all rows that the table has in `old`, if `old` has the tables of the
-- format. The SELECT is asked on a connection with the tables of `old` (`IsAsked`).
pub asked_rows : (f : Format) (sql : List ℕ) (in_table : Trees → List Row) (count : ℕ) → Reads f sql in_table count
    → (old before during : State) (rows : List Row) → IsAsked old before → Shown sql [] before during rows
    → HasTablesOf f old.now.schema
    → IsPermutation (in_table old.now.trees) (map (first_columns count) rows)
asked_rows f sql in_table count means old before during rows select_of shown has =
    subst (λ (d : Database). IsPermutation (in_table d.trees) (map (first_columns count) rows)) select_of.same (means before during rows shown (asked_has_tables f old before select_of has))

-- A read by the SELECT `sql` returns r, and leads from `old` to `new`. The columns have these forms, and `shown` gives
-- the row that a value is read of.
module _ {S A Z : Type 0} (g : Ghosts S) (sql : List ℕ) (old new : Held S) (forms : List Form) (shown : A → Row) (r : Result (Vec A Z) ReadFault) where
  -- on a clean disk, under the tables of the format, a read by a SELECT of a whole table (`Reads`) gives all rows of
  -- the table, if the read succeeds (`GivesTable`)
  pub gives_table : (since : Format) (in_table : Trees → List Row) → Reads since sql in_table (length forms)
      → ReadsRows g sql old forms shown r new → GivesTable g since in_table shown r old new
  gives_table since in_table means read clean has =
      if_ok r (λ all did. subst (IsPermutation (in_table (state g old).now.trees)) (sym did.2) (asked_rows since sql in_table (length forms) means (state g old) (state g did.1.0) (state g did.1.1) did.0 did.1.2 did.1.3 has)) (read.rows clean)
