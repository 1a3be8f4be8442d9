-- Laws on the statements of one table: which rows it has after an upsert or a DELETE, and what a text of SQL does.
-- `old` and `new` are the states before and after a statement, and `count` is how many rows it changed. `db` are the
-- trees before it, and `out` has the database after it. `params` or `values` are its parameters, `text` is its text,
-- `limit` is how many steps its query may take, if there is a limit, and `g` the kind of store. Before a statement the
-- rowids in the tree are integers, no two alike (`AreKeyedByRowid`). A tree holds the rows of one table.
use Rattle.std.proofs.Common.{IsTrue, ◌≡◌, ◌/◌, ℕ, ℤ, Bool, false, List, [], ◌∷◌, ◌++◌, length, slice_get, Option, Some, None, Result, Ok, sym, ap, ◌∙◌, subst}
use Rattle.sqlite_value.specs.Order.{Row, column}
use Rattle.sqlite_trees.specs.Tree.{Trees, rowid}
use Rattle.sqlite_sql.specs.Term.{Term}
use Rattle.sqlite_schema.specs.declared.schema.Column.{Column}
use Rattle.sqlite_schema.specs.declared.schema.Table.{Table}
use Rattle.sqlite_schema.specs.declared.schema.Schema.{Schema}
use Rattle.sqlite_schema.specs.declared.schema.Keys.TheVariants.{Enforced}
use Rattle.sqlite_schema.specs.declared.command.Command.TheVariants.{InsertOr, Delete}
use Rattle.sqlite_schema.specs.declared.command.Conflict.TheVariants.{Replace}
use Rattle.sqlite_schema.specs.declared.command.Source.TheVariants.{Values}
use Rattle.sqlite_schema.specs.declared.program.Program.{Program}
use Rattle.sqlite_rules.specs.Lists.{Has}
use Rattle.sqlite_rules.specs.Cast.{cast_row}
use Rattle.sqlite_rules.specs.Edit.{with_rowid}
use Rattle.sqlite_rules.specs.Action.{works}
use Rattle.sqlite_rules.specs.declared.error.Rowids.TheVariants.{Chosen}
use Rattle.sqlite.specs.declared.run.Mode.{Mode}
use Rattle.sqlite.specs.Listing.{understood}
use Rattle.sqlite.specs.State.{State, ExecutesInside}
use Rattle.sqlite.proofs.Callers.{IsPlain}
use Rattle.sqlite_schema.specs.declared.schema.Index.{Index}
use Rattle.atl_sql.specs.Inside.{DoesInside, HasTables, Puts, Drops}
use Rattle.atl_descriptions.specs.Statements.{deletion, upsert, OneStatement}
use Rattle.atl_descriptions.specs.Tables.{all_tables_and_others}
use Rattle.sqlite.specs.Effect.{Database, Answers, value_rows}
use Rattle.sqlite.specs.Rows.{Written, Task, Then, Gives, TriesEach, Counts, InsertsOr, count_of, nothing, mended, shown}
use Rattle.sqlite.specs.Does.{Tally, Does, AtPlace, OnRows, Concludes}
use Rattle.atl_descriptions.specs.Sets.{table, AreKeyedByRowid}
use Rattle.sqlite_trees.specs.declared.store.Store.{Ghosts}
use Rattle.sqlite.specs.declared.error.Error.{Error}
use Rattle.sqlite.specs.Held.{Held}
use Rattle.std.specs.Borrow.{MutBor}
use Rattle.atl_sql.specs.Writes.{Writes, RunsStatement}
use Rattle.atl_sql.proofs.WriteLaws.{weaker, writes_among_more}
use Rattle.atl_sql.proofs.EditLaws.{Loses, deletes, ok_step_did, same_value}
use Rattle.atl_sql.proofs.ListLaws.{AreFound}
use Rattle.atl_sql.proofs.UpsertLaws.{update_query, conflict_clause, Upserted, upserts}
use Rattle.sqlite_sql.specs.Program.{overlay}
use Rattle.sqlite_schema.specs.declared.command.Conflict.TheVariants.{Abort}

-- the mode in which statements run: foreign keys are checked at once, so no check is put off or in doubt
abbrev pub mode : Mode
mode = record { keys = Enforced; in_doubt = false; may_wait = false }

-- the table t has the index `at` in the schema, and an edit of it leaves no work for a foreign key (`unlinked`)
module _ (schema : Schema) (tree : ℕ) (name : List ℕ) (columns : List Column) (key : Option ℕ) (primary : List ℕ) (uniques : List (List ℕ)) (checks : List Term)
    (at : ℕ) (position : slice_get schema.tables at ≡ Some (table tree name columns key primary uniques checks))
    (unlinked : (olds news : List Row) → works schema Enforced 0 tree olds news ≡ []) where
  abbrev t : Table
  t = table tree name columns key primary uniques checks

  -- the row that INSERT OR REPLACE stores for the values that are the second argument, where the trees are the first
  abbrev pub row_replaced_by : Trees → Row → Row
  row_replaced_by db src = with_rowid Chosen (db tree) (cast_row t (mended Replace t src))

  abbrev task : Option ℕ → Row → Table → Task
  task limit params u = record { limit = limit; keys = Enforced; schema = schema; table = u; params = params }

  -- counting the highest rowid after an INSERT changes no tree, since the table has no AUTOINCREMENT
  counted : (limit : Option ℕ) (params : Row) (db : Trees) (done : Written × ℤ) (counter : Option Row) (w : Written)
      → Then (Counts (task limit params t) done.0.trees counter done.1) (λ next. Gives (record done.0 { trees = next })) (Ok w) → w.trees ≡ done.0.trees
  counted limit params db done counter w h = let counts = ok_step_did h in ap (λ (x : Written). x.trees) (same_value counts.2) ∙ same_value counts.1

  concluded : (limit : Option ℕ) (params : Row) (w : Written) (out : Tally × Database)
      → Concludes (task limit params t) mode None w (Ok out)
      → (out.1.trees ≡ w.trees) × (out.1.schema ≡ schema)
  concluded limit params w out h =
      let tested = ok_step_did h in
      let shown = ok_step_did tested.2 in
      (ap (λ (x : Tally × Database). x.1.trees) (same_value shown.2), ap (λ (x : Tally × Database). x.1.schema) (same_value shown.2))

  -- a DELETE whose query finds exactly the rows that pass the test `p` takes these out (`Loses`), and keeps the schema
  pub removes : (limit : Option ℕ) (params : Row) (text : List ℕ) (q : Program) (p : Row → Bool) (db : Trees) (out : Tally × Database)
      → AreKeyedByRowid (db tree)
      → ((rows : List Row) → Answers (record { schema = schema; trees = db }) q params rows → AreFound p (db tree) rows)
      → Does limit mode params (record { schema = schema; trees = db }) text None (Delete at q) (Ok out)
      → Loses schema t p db out.1.trees × (out.1.schema ≡ schema)
  removes limit params text q p db out keyed found h =
      let on_rows = subst (λ o. AtPlace (λ (u : Table). OnRows (task limit params u) mode None (Delete at q) db) o (Ok out)) position h in
      let wrote = ok_step_did on_rows in
      let end = concluded limit params wrote.0 out wrote.2 in
      (subst (Loses schema t p db) (sym end.0) (deletes schema t unlinked limit params q p db wrote.0 keyed found wrote.1), end.1)

  -- ---- INSERT .. ON CONFLICT DO UPDATE

  -- the row that an upsert would insert for the values that are the second argument, where the trees are the first
  abbrev pub row_inserted_by : Trees → Row → Row
  row_inserted_by db src = with_rowid Chosen (db tree) (cast_row t src)

  -- An upsert of the key in the columns `target`. Its UPDATE sets the terms `project` in the row whose rowid is at the
  -- index `hole` of what it reads. The tree is one of the file, not that of a temporary table (`plain`).
  module _ (limit : Option ℕ) (params : Row) (target : List ℕ) (hole : ℕ) (project : List Term) (plain : (db : Trees) → overlay db [] tree ≡ db tree) where
    abbrev q : Program
    q = record { lets = []; body = update_query tree hole project }

    -- from the old trees to the new ones, an upsert put this row, or changed the row with its key
    abbrev Changed : Row → Trees → Trees → Type 0
    Changed new db next = Upserted schema t unlinked limit params target hole project plain new db next

    each_upserts : (src : Row) (top : ℤ) (db : Trees) (done : Written × ℤ) → AreKeyedByRowid (db tree)
        → ((r : Row) → Has (db tree) r → column (params ++ rowid r ∷ shown t (row_inserted_by db src)) hole ≡ rowid r)
        → TriesEach (task limit params t) Abort (conflict_clause target q ∷ []) (src ∷ []) top (nothing db) (Ok done)
        → Changed (row_inserted_by db src) db done.0.trees
    each_upserts src top db done keyed aimed h =
        let one = ok_step_did h in
        let is : done.0.trees ≡ one.0.trees = ap (λ (x : Written × ℤ). x.0.trees) (same_value one.2) in
        subst (Changed (row_inserted_by db src) db) (sym is) (upserts schema t unlinked limit params target hole project plain (row_inserted_by db src) db one.0 keyed aimed one.1)

    rows_upsert : (terms : List Term) (width : ℕ) (src : Row) (db : Trees) (w : Written) → AreKeyedByRowid (db tree)
        → ((r : Row) → Has (db tree) r → column (params ++ rowid r ∷ shown t (row_inserted_by db src)) hole ≡ rowid r)
        → value_rows (params ++ []) width (length terms / width) terms ≡ src ∷ []
        → InsertsOr (task limit params t) Abort (conflict_clause target q ∷ []) (Values terms width) db (Ok w)
        → Changed (row_inserted_by db src) db w.trees
    rows_upsert terms width src db w keyed aimed source h =
        let rows = ok_step_did h in
        let counter = ok_step_did rows.2 in
        let each = ok_step_did counter.2 in
        let given : rows.0 ≡ src ∷ [] = rows.1.1 ∙ source in
        subst (Changed (row_inserted_by db src) db) (sym (counted limit params db each.0 counter.0 w each.2))
        (each_upserts src (count_of counter.0) db each.0 keyed aimed (subst (λ l. TriesEach (task limit params t) Abort (conflict_clause target q ∷ []) l (count_of counter.0) (nothing db) (Ok each.0)) given each.1))

    -- an upsert whose terms, `width` for a row, make the row `src` of the parameters inserted this row, or changed the
    -- row with its key (`Changed`), and kept the schema
    pub upserting : (text : List ℕ) (terms : List Term) (width : ℕ) (src : Row) (db : Trees) (out : Tally × Database)
        → AreKeyedByRowid (db tree)
        → ((r : Row) → Has (db tree) r → column (params ++ rowid r ∷ shown t (row_inserted_by db src)) hole ≡ rowid r)
        → value_rows (params ++ []) width (length terms / width) terms ≡ src ∷ []
        → Does limit mode params (record { schema = schema; trees = db }) text None (InsertOr at Abort (Values terms width) (conflict_clause target q ∷ [])) (Ok out)
        → Changed (row_inserted_by db src) db out.1.trees × (out.1.schema ≡ schema)
    upserting text terms width src db out keyed aimed source h =
        let on_rows = subst (λ o. AtPlace (λ (u : Table). OnRows (task limit params u) mode None (InsertOr at Abort (Values terms width) (conflict_clause target q ∷ [])) db) o (Ok out)) position h in
        let wrote = ok_step_did on_rows in
        let end = concluded limit params wrote.0 out wrote.2 in
        (subst (Changed (row_inserted_by db src) db) (sym end.0) (rows_upsert terms width src db wrote.0 keyed aimed source wrote.1), end.1)

-- ---- statements by their text

-- a statement of this text has no RETURNING and doesn't read the time, whatever tables and indexes follow a campaign's
abbrev pub AlwaysPlain : List ℕ → Type 0
AlwaysPlain sql =
    (more : List Table) (indexes : List Index) → IsPlain (understood (all_tables_and_others more indexes) sql)

-- inside a transaction a statement of this text with these parameters, if it ends without an error, does `What` to a
-- database with a campaign's tables (`HasTables`), and keeps all other tables (`DoesInside`)
abbrev pub DoneBy : List ℕ → Row → (Database → Database → Type 0) → Type 1
DoneBy sql values What =
    (old new : State) (count : ℕ) (params : Row) → IsTrue old.in_transaction → ExecutesInside 0 sql params old new
    (Ok count) → params ≡ values → DoesInside HasTables What old new

-- inside a transaction the upsert of a table, whose key is its first `key` columns, puts this row (`DoneBy`)
abbrev pub PutsRow : Table → ℕ → Row → Type 1
PutsRow t key row = DoneBy (upsert t key) row (Puts t key row)

-- inside a transaction the DELETE by the first `key` columns removes the rows in which these are `k` (`DoneBy`)
abbrev pub DropsKey : Table → ℕ → Row → Type 1
DropsKey t key k = DoneBy (deletion t key) k (Drops t key k)

-- a statement that does `What` with the parameters `values` does it with parameters that are equal to these (`DoneBy`)
pub done_by : (sql : List ℕ) (values : Row) (What : Database → Database → Type 0)
    → ((old new : State) (count : ℕ) → IsTrue old.in_transaction → ExecutesInside 0 sql values old new (Ok count) → DoesInside HasTables What old new)
    → DoneBy sql values What
done_by sql values What does old new count params inside h same =
    does old new count inside (subst (λ p. ExecutesInside 0 sql p old new (Ok count)) same h)

-- A call (`Writes`) that ran a statement which does `What` (`DoneBy`) did `What`. It returned r and led from a to b;
-- `params` and `values` are the same parameters.
pub runs_with : {S A : Type 0} (g : Ghosts S) {r : Result A Error} {a b : MutBor (Held S)} (sql : List ℕ) (values params : Row) (What : Database → Database → Type 0)
    → DoneBy sql values What → params ≡ values → Writes g (OneStatement sql params) (RunsStatement sql params) r a b
    → Writes g (OneStatement sql values) (DoesInside HasTables What) r a b
runs_with g sql values params What done same ran =
    writes_among_more g (λ s p only. (only.0, only.1 ∙ same))
    (weaker g (λ old new did. done old new did.1 params did.0 did.2 same) ran)
