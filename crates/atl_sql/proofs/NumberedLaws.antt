-- Laws on upsert and DELETE in a table whose key is the row's number.
-- `n` is the number of the row that is put or deleted, and `values` are its other values. `old` and `new` are the
-- states before and after the statement.
use Rattle.std.proofs.Common.{IsTrue, ◌≡◌, ◌++◌, ◌+◌, ℕ, false, List, [], ◌∷◌, length, slice_get, Some, Ok, sym, ap, ◌∙◌, subst}
use Rattle.std.specs.List.{list_any, list_all}
use Rattle.std.proofs.lemmas.List.Folds.{list_any-append}
use Rattle.sqlite.specs.declared.types.Value.TheVariants.{Null}
use Rattle.sqlite.specs.Command.TheVariants.{InsertOr, Delete}
use Rattle.sqlite.specs.Term.{Term, col, op2, holds}
use Rattle.sqlite.specs.Source.TheVariants.{Values}
use Rattle.sqlite.specs.Listing.{understood}
use Rattle.sqlite.specs.Order.{Row}
use Rattle.sqlite.specs.Program.{overlay}
use Rattle.sqlite.specs.State.{State, ExecutesInside}
use Rattle.sqlite.specs.Table.{Table}
use Rattle.sqlite.proofs.Callers.{command_of, statement_of, runs_as}
use Rattle.sqlite_value.specs.Keys.{first_key}
use Rattle.sqlite_schema.specs.declared.command.Conflict.TheVariants.{Abort}
use Rattle.sqlite_schema.specs.declared.schema.Column.{Column}
use Rattle.sqlite_schema.specs.declared.schema.Index.{Index}
use Rattle.sqlite_trees.specs.Tree.{Trees, rowid}
use Rattle.sqlite_rules.specs.Lists.{Has}
use Rattle.sqlite_rules.specs.Cast.{cast_row}
use Rattle.sqlite_rules.specs.Edit.{with_rowid}
use Rattle.sqlite_rules.specs.Keys.{shares}
use Rattle.sqlite_rules.specs.declared.error.Rowids.TheVariants.{Chosen}
use Rattle.sqlite_rules.proofs.ListLemmas.{all_has}
use Rattle.sqlite_sql.specs.declared.ops.BinaryOp.TheVariants.{Compare}
use Rattle.sqlite_sql.specs.declared.ops.CompareOp.TheVariants.{Eq}
use Rattle.sqlite.specs.Collation.TheVariants.{Binary}
use Rattle.atl_descriptions.specs.Sets.{table, visible_row}
use Rattle.atl_descriptions.specs.Tables.{integer_column, all_tables, all_indexes, all_tables_and_others}
use Rattle.atl_sql.specs.Shown.{int}
use Rattle.atl_sql.specs.Inside.{DoesInside, HasTables, Puts, Drops}
use Rattle.atl_descriptions.specs.Statements.{deletion, upsert}
use Rattle.atl_sql.proofs.UpsertLaws.{Upserted, update_query, conflict_clause}
use Rattle.atl_sql.proofs.StatementLaws.{AlwaysPlain, PutsRow, DropsKey, upserting, removes, done_by}
use Rattle.atl_sql.proofs.CarryLaws.{among_all, write_checks_no_reference, none_share, sound_under, done_with}
use Rattle.atl_sql.proofs.MakeLaws.{write_does_command, upserts_make, loses_make}
use Rattle.atl_columns.specs.Fields.{Fits}
use Rattle.atl_sql.proofs.FitLaws.{given_row, changed_row, makes_row}
use Rattle.atl_sql.proofs.EditLaws.{delete_query, found_by}
use Rattle.atl_sql.proofs.Terms.{head_is, upsert_finds_number, one_number, delete_finds_number}

-- the condition that a row's number is the first parameter of the statement
abbrev has_number : List Term
has_number = op2 (Compare Eq Binary) (col 1 0) (col 0 0) ∷ []

-- The rows of table `t` are a number and `width` values, and are put and deleted by the number. The index of the table
-- among all tables is `at`. `more` and `indexes` are whatever tables and indexes follow those of a campaign.
pub record IsNumberedTable (t : Table) (at width : ℕ) : Type 0 where
  pub ours : Has all_tables t
  pub position : (more : List Table) → slice_get (all_tables ++ more) at ≡ Some t
  -- the table's tree is one of the file, not that of a temporary table
  pub plain : (db : Trees) → overlay db [] t.tree ≡ db t.tree
  -- the text `upsert t 1` means the INSERT of a row by `given_row`; a row of its number is updated by `changed_row`
  pub puts : (more : List Table) (indexes : List Index)
      → command_of (understood (all_tables_and_others more indexes) (upsert t 1)) ≡ InsertOr at Abort (Values (given_row width) (width + 2)) (conflict_clause (0 ∷ []) (record { lets = []; body = update_query t.tree (width + 1) (changed_row width) }) ∷ [])
  pub puts_plain : AlwaysPlain (upsert t 1)
  -- the text `deletion t 1` means the DELETE of the rows with the number that is the first parameter
  pub drops : (more : List Table) (indexes : List Index)
      → command_of (understood (all_tables_and_others more indexes) (deletion t 1)) ≡ Delete at (record { lets = []; body = delete_query t.tree has_number })
  pub drops_plain : AlwaysPlain (deletion t 1)
  -- no index of the ten tables makes the number unique
  pub no_index_shares : (new x : Row) → list_any (shares (Some (0 ∷ [])) t new x) all_indexes ≡ false

-- a campaign's table of the index `at`, whose first column, `key_name`, is the row's number; `columns` are the others
module _ (tree : ℕ) (name key_name : List ℕ) (columns : List Column) (uniques : List (List ℕ)) (at : ℕ) where
  abbrev width : ℕ
  width = length columns

  abbrev t : Table
  t = table tree name (integer_column key_name ∷ columns) (Some 0) (0 ∷ []) uniques []

  abbrev put : List ℕ
  put = upsert t 1

  abbrev drop : List ℕ
  drop = deletion t 1

  module _ (is : IsNumberedTable t at width) where
    -- ---- the DELETE of a row

    drops : (n : ℕ) (old new : State) (count : ℕ) → IsTrue old.in_transaction
        → ExecutesInside 0 drop (int n ∷ []) old new (Ok count)
        → DoesInside HasTables (Drops t 1 (int n ∷ [])) old new
    drops n old new count inside ran = (
      ran.1.mode ∙ sym inside,
      λ has.
          let schema = all_tables_and_others has.begins.tables has.begins.indexes in
          let sound = sound_under old.now has in
          let none = write_checks_no_reference has.begins.tables has.begins.indexes tree has.begins.free in
          let k = int n ∷ [] in
          let db = old.now.trees in
          let w = runs_as drop k old new schema has.begins.made_of _ (is.drops has.begins.tables has.begins.indexes) (is.drops_plain has.begins.tables has.begins.indexes) count ran.0 in
          let keyed = sound.keyed t is.ours in
          let out = removes schema tree name (integer_column key_name ∷ columns) (Some 0) (0 ∷ []) uniques [] at (is.position has.begins.tables) none old.step_limit k (statement_of drop (understood schema drop)) (record { lets = []; body = delete_query tree has_number }) (λ r. list_all (holds (k ∷ r ∷ [])) has_number) db _ keyed
          (λ rows answers. found_by tree has_number db (overlay db []) k rows (is.plain db) (answers.answer Null)) (write_does_command schema old new _ _ k count has.begins.made_of w) in
          let makes = loses_make schema (among_all has.begins.tables) t 1 (λ r. list_all (holds (k ∷ r ∷ [])) has_number) k old.now new.now out.0 (λ x there. delete_finds_number (rowid x) n (all_has _ (db tree) x keyed.ints there)) sound w.sound out.1 in
          done_with t old.now new.now has is.ours _ _ (λ did. did) makes,
    )

    -- the text of the DELETE removes the row that has the number (`DropsKey`)
    pub drops_numbered : (n : ℕ) → DropsKey t 1 (int n ∷ [])
    drops_numbered n = done_by drop (int n ∷ []) (Drops t 1 (int n ∷ [])) (drops n)

    -- ---- the upsert of a row

    puts : (n : ℕ) (values : Row) → Fits columns values → (old new : State) (count : ℕ) → IsTrue old.in_transaction
        → ExecutesInside 0 put (int n ∷ values) old new (Ok count)
        → DoesInside HasTables (Puts t 1 (int n ∷ values)) old new
    unfolding first_key
    puts n values fits old new count inside ran = (
      ran.1.mode ∙ sym inside,
      λ has.
          let schema = all_tables_and_others has.begins.tables has.begins.indexes in
          let sound = sound_under old.now has in
          let none = write_checks_no_reference has.begins.tables has.begins.indexes tree has.begins.free in
          let writes = makes_row tree name key_name columns uniques n values fits in
          let v = int n ∷ values in
          let src = int n ∷ Null ∷ values in
          let project = changed_row width in
          let w = runs_as put v old new schema has.begins.made_of _ (is.puts has.begins.tables has.begins.indexes) (is.puts_plain has.begins.tables has.begins.indexes) count ran.0 in
          let keyed = sound.keyed t is.ours in
          let up = upserting schema tree name (integer_column key_name ∷ columns) (Some 0) (0 ∷ []) uniques [] at (is.position has.begins.tables) none old.step_limit v (0 ∷ []) (width + 1) project is.plain (statement_of put (understood schema put)) (given_row width) (width + 2) src
          old.now.trees _ keyed (λ r there. writes.aimed (rowid r) _) writes.source (write_does_command schema old new _ _ v count has.begins.made_of w) in
          let made : with_rowid Chosen (old.now.trees tree) (cast_row t src) ≡ src = ap (with_rowid Chosen (old.now.trees tree)) writes.casted in
          let shown : visible_row t (cast_row t src) ≡ v = ap (visible_row t) writes.casted ∙ writes.shown in
          let others : (x : Row) → list_any (shares (Some (0 ∷ [])) t src x) (all_indexes ++ has.begins.indexes) ≡ false = λ x. (
          list_any-append (shares (Some (0 ∷ [])) t src x) all_indexes has.begins.indexes
          ∙ rw (is.no_index_shares src x) (none_share t (Some (0 ∷ [])) src x has.begins.indexes (λ i there. has.begins.plain i there t is.ours))
          ) in
          let makes = upserts_make schema (among_all has.begins.tables) t 1 none old.step_limit v (0 ∷ []) (width + 1) project is.plain src v old.now new.now
          (subst (λ k. Upserted schema t none old.step_limit v (0 ∷ []) (width + 1) project is.plain k old.now.trees new.now.trees) made up.0)
          shown
          (λ r there same. ap (λ (k : Row). visible_row t (cast_row t k)) (writes.changed _ r ∙ ap (λ first. first ∷ Null ∷ values) (head_is _ _ _ _ same)) ∙ shown)
          (λ x there. upsert_finds_number (rowid x) n _ (others x) (all_has _ (old.now.trees tree) x keyed.ints there))
          (λ x r one two same. one_number _ _ same)
          is.ours sound w.sound up.1 in
          done_with t old.now new.now has is.ours _ _ (λ did. did) makes,
    )

    -- if the values fit their columns (`Fits`), the upsert puts its row in place of that with its number (`PutsRow`)
    pub puts_numbered : (n : ℕ) (values : Row) → Fits columns values → PutsRow t 1 (int n ∷ values)
    puts_numbered n values fits = done_by put (int n ∷ values) (Puts t 1 (int n ∷ values)) (puts n values fits)
