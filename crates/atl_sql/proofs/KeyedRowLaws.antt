-- Laws on upsert and DELETE in a table whose key is several whole numbers and whose rowid is hidden.
-- `positions` are the columns of the key, by their indexes in a stored row, where 0 is the rowid. `values` are what SQL
-- shows of the row that is put, and `k` is the key, or its first columns, by which rows are deleted. `old` and `new`
-- are the states before and after the statement, and `db` are the trees before it. A tree holds the rows of one table.
use Rattle.std.proofs.Common.{IsTrue, ◌≡◌, ◌&&◌, ◌||◌, ◌++◌, ◌/◌, ℕ, ℤ, Bool, true, false, not, List, [], ◌∷◌, map, take, length, slice_get, Some, None, Ok, refl, sym, ap, ◌∙◌, subst, inl, inr, true≢false}
use Rattle.std.specs.List.{AllByRecursion, list_any, list_all}
use Rattle.std.specs.Ordering.{is_eq}
use Rattle.std.proofs.lemmas.Bool.{cases_Bool, and_parts, and_from}
use Rattle.sqlite.specs.declared.types.Value.{Value}
use Rattle.sqlite.specs.declared.types.Value.TheVariants.{Null, Int}
use Rattle.sqlite.specs.Command.TheVariants.{InsertOr, Delete}
use Rattle.sqlite.specs.Effect.{value_rows}
use Rattle.sqlite.specs.Term.{Term, eval_all, holds}
use Rattle.sqlite.specs.Source.TheVariants.{Values}
use Rattle.sqlite.specs.Listing.{understood}
use Rattle.sqlite.specs.Order.{Row, column, value_cmp}
use Rattle.sqlite.specs.Collation.TheVariants.{Binary}
use Rattle.sqlite.specs.Program.{overlay}
use Rattle.sqlite.specs.State.{State, ExecutesInside}
use Rattle.sqlite.specs.Table.{Table}
use Rattle.sqlite.specs.Schema.{Schema}
use Rattle.sqlite.proofs.Callers.{command_of, statement_of, runs_as}
use Rattle.sqlite_schema.specs.declared.command.Conflict.TheVariants.{Abort}
use Rattle.sqlite_schema.specs.declared.schema.Column.{Column}
use Rattle.sqlite_schema.specs.declared.schema.Constraint.TheVariants.{Datatype, NotNull, Unique}
use Rattle.sqlite_schema.specs.declared.schema.Index.{Index}
use Rattle.sqlite_schema.specs.Rules.{equal, differ, guards, clashes, passes}
use Rattle.sqlite_trees.specs.Tree.{Trees, rowid}
use Rattle.sqlite_trees.specs.View.{is_int}
use Rattle.sqlite_rules.specs.Lists.{Has}
use Rattle.sqlite_rules.specs.Cast.{cast_row}
use Rattle.sqlite_rules.specs.Edit.{with_rowid, at_least, next_rowid}
use Rattle.sqlite_rules.specs.Keys.{conflicts, shares}
use Rattle.sqlite_rules.specs.declared.error.Rowids.TheVariants.{Chosen}
use Rattle.sqlite_rules.proofs.ListLemmas.{all_has, some_from}
use Rattle.sqlite_rules.proofs.RuleLemmas.{keeps_at}
use Rattle.atl_sql.specs.Inside.{DoesInside, HasTables, Puts, Drops}
use Rattle.atl_descriptions.specs.Sets.{table, visible_row}
use Rattle.atl_descriptions.specs.Tables.{all_tables, all_indexes, all_tables_and_others, IsSoundDatabase}
use Rattle.atl_sql.proofs.CarryLaws.{among_all, write_checks_no_reference, none_share, sound_under, done_with}
use Rattle.atl_sql.proofs.EditLaws.{delete_query, found_by}
use Rattle.atl_sql.proofs.KeyLaws.{cons_is, or_with_false}
use Rattle.atl_sql.proofs.MakeLaws.{write_does_command, upserts_make, loses_make}
use Rattle.atl_sql.proofs.StatementLaws.{AlwaysPlain, DoneBy, upserting, removes, done_by}
use Rattle.atl_sql.proofs.UpsertLaws.{Upserted, update_query, conflict_clause, equal_is, is_equal, differ_not}

-- ---- two rows in some columns

-- the values of a row in these columns, given by index
abbrev pub at_places : List ℕ → Row → Row
at_places positions x = map (column x) positions

-- a row has integers in these columns, given by index
abbrev pub AreInts : List ℕ → Row → Type 0
AreInts positions x = AllByRecursion (λ p. is_int (column x p) ≡ true) positions

-- whether two rows are equal by SQL's = in each of these columns
abbrev pub agree_at : List ℕ → Row → Row → Bool
agree_at [] x y = true
agree_at (p ∷ positions) x y = equal Binary (column x p) (column y p) && agree_at positions x y

same_at : (positions : List ℕ) (x y : Row) → AreInts positions x → AreInts positions y → agree_at positions x y ≡ true
    → at_places positions x ≡ at_places positions y
same_at [] x y one two agree = refl
same_at (p ∷ positions) x y one two agree =
    let (here, later) = and_parts _ _ agree in
    rw (equal_is (column x p) (column y p) one.0 two.0 here, same_at positions x y one.1 two.1 later) refl

agree_same : (positions : List ℕ) (x y : Row) → AreInts positions y → at_places positions x ≡ at_places positions y
    → agree_at positions x y ≡ true
agree_same [] x y ints same = refl
agree_same (p ∷ positions) x y ints same =
    let (here, later) = cons_is _ _ _ _ same in
    and_from _ _ (ap (λ v. equal Binary v (column y p)) here ∙ is_equal (column y p) ints.0) (agree_same positions x y ints.1 later)

-- ---- the table and its statements

-- The columns at the indexes `positions` are the key of table `t`: whole numbers, the first columns that SQL shows, and
-- the only unique ones. The index of the table among all tables is `at`.
pub record HasKey (t : Table) (at : ℕ) (positions : List ℕ) : Type 0 where
  pub ours : Has all_tables t
  pub position : (more : List Table) → slice_get (all_tables ++ more) at ≡ Some t
  -- the table's tree is one of the file, not that of a temporary table
  pub plain : (db : Trees) → overlay db [] t.tree ≡ db t.tree
  -- a row that passes the table's checks has integers in the columns of the key
  pub ints : (schema : Schema) (x : Row) → passes Datatype schema (λ u. []) t x ≡ true
      → passes NotNull schema (λ u. []) t x ≡ true → AreInts positions x
  pub first : (x : Row) → take (length positions) (visible_row t x) ≡ at_places positions x
  -- if `r` clashes with none of `rows` in any index of the table, none of these with another rowid has the key of `r`
  pub unique : (indexes : List Index) (rows : List Row) (r : Row)
      → list_all (λ i. not (guards i t && clashes i.order i.columns rows r)) (all_indexes ++ indexes) ≡ true
      → list_any (λ y. agree_at positions y r && differ (rowid y) (rowid r)) rows ≡ false
  -- row `x` conflicts with `new` in the key exactly if both agree in its columns or share values of a further index
  pub hits : (indexes : List Index) (new x : Row)
      → conflicts (Some positions) (all_indexes ++ indexes) t new x ≡ (agree_at positions x new || list_any (shares (Some positions) t new x) indexes)

-- the text `sql` means the DELETE of the rows that pass `filter`, in the table with index `at` in the schema and tree
-- `tree`, whatever tables and indexes the schema has after a campaign's own
abbrev pub MeansDelete : ℕ → ℕ → List ℕ → List Term → Type 0
MeansDelete tree at sql filter =
    (more : List Table) (indexes : List Index) → command_of (understood (all_tables_and_others more indexes) sql) ≡
    Delete at (record { lets = []; body = delete_query tree filter })

-- The text `sql` means an INSERT of one row by `terms`, with an UPDATE by `project` of the row that has its key, the
-- columns at the indexes `positions`. Of what the UPDATE reads, the column at the index `hole`, after the parameters,
-- is the rowid of that row. `width` is how many terms make a row. The table has the index `at` and the tree `tree`,
-- whatever tables and indexes the schema has after a campaign's own.
abbrev pub MeansUpsert : ℕ → ℕ → List ℕ → List ℕ → ℕ → List Term → ℕ → List Term → Type 0
MeansUpsert tree at positions sql width terms hole project = (more : List Table) (indexes : List Index)
    → command_of (understood (all_tables_and_others more indexes) sql) ≡ InsertOr at Abort (Values terms width) (conflict_clause positions (record { lets = []; body = update_query tree hole project }) ∷ [])

-- The terms of an upsert make a row that shows these values under any rowid, whether it is inserted by `terms`, `width`
-- for a row, or updated by `project`. What the UPDATE reads has its row's rowid at the index `hole`.
pub record MakesValues (t : Table) (positions : List ℕ) (width : ℕ) (terms : List Term) (hole : ℕ) (project : List Term) (values : Row) : Type 0 where
  -- the terms of the INSERT make one row: NULL, as a rowid that SQL is to choose, and the values
  pub source : value_rows (values ++ []) width (length terms / width) terms ≡ (Null ∷ values) ∷ []
  -- SQL's casts leave the row of these values, with NULL as its rowid, unchanged
  pub casted : cast_row t (Null ∷ values) ≡ Null ∷ values
  -- SQL's casts leave the row with the rowid `n` unchanged too
  pub again : (n : ℤ) → cast_row t (Int n ∷ values) ≡ Int n ∷ values
  pub shown : (n : ℤ) → visible_row t (Int n ∷ values) ≡ values
  pub ints : (n : ℤ) → AreInts positions (Int n ∷ values)
  -- of what the UPDATE reads, the column at the index `hole`, after the values, is `x`, the rowid of the row to change
  pub aimed : (x : Value) (more : Row) → column (values ++ x ∷ more) hole ≡ x
  -- of a row with the key of these values, the UPDATE makes a row of which SQL shows these values
  pub changed : (more r : Row) → at_places positions r ≡ take (length positions) values
      → visible_row t (cast_row t (eval_all project ((values ++ more) ∷ r ∷ []))) ≡ values

-- the table of index `at` among a campaign's; its columns at the indexes `positions` are its key of whole numbers
module _ (tree : ℕ) (name : List ℕ) (columns : List Column) (positions : List ℕ) (at : ℕ) where
  abbrev t : Table
  t = table tree name columns None positions (positions ∷ []) []

  module _ (key : HasKey t at positions) where
    -- `more` and `indexes` are the tables and indexes that the schema has after those of a campaign
    module _ (more : List Table) (indexes : List Index) (db : Trees) (sound : IsSoundDatabase (all_tables_and_others more indexes) db) where
      abbrev schema : Schema
      schema = all_tables_and_others more indexes

      key_ints : (x : Row) → Has (db tree) x → AreInts positions x
      key_ints x there =
          key.ints schema x
          (keeps_at Datatype schema db t x (sound.listed.obeys.rules Datatype) (among_all more t key.ours) there)
          (keeps_at NotNull schema db t x (sound.listed.obeys.rules NotNull) (among_all more t key.ours) there)

      alone : (x r : Row) → Has (db tree) x → Has (db tree) r
          → take (length positions) (visible_row t x) ≡ take (length positions) (visible_row t r)
          → is_eq (value_cmp (rowid x) (rowid r)) ≡ true
      alone x r one two same =
          let free = key.unique indexes (db tree) r (keeps_at Unique schema db t r (sound.listed.obeys.rules Unique) (among_all more t key.ours) two) in
          let keyed = sound.keyed t key.ours in
          let agrees = agree_same positions x r (key_ints r two) (sym (key.first x) ∙ same ∙ key.first r) in
          differ_not (rowid x) (rowid r) (all_has _ (db tree) x keyed.ints one) (all_has _ (db tree) r keyed.ints two) (elim (cases_Bool (differ (rowid x) (rowid r))) [
            | inl apart ↦ absurd (true≢false (sym (some_from _ (db tree) x one (and_from _ _ agrees apart)) ∙ free))
            | inr near ↦ near
          ])

    -- ---- the upsert of a row

    puts : (sql : List ℕ) (width hole : ℕ) (terms project : List Term)
        → MeansUpsert tree at positions sql width terms hole project → AlwaysPlain sql
        → (values : Row) → MakesValues t positions width terms hole project values
        → (old new : State) (count : ℕ) → IsTrue old.in_transaction → ExecutesInside 0 sql values old new (Ok count)
        → DoesInside HasTables (Puts t (length positions) values) old new
    puts sql width hole terms project means asks values writes old new count inside ran = (
      ran.1.mode ∙ sym inside,
      λ has.
          let tables = has.begins.tables in
          let indexes = has.begins.indexes in
          let schema = all_tables_and_others tables indexes in
          let sound = sound_under old.now has in
          let none = write_checks_no_reference tables indexes tree has.begins.free in
          let db = old.now.trees in
          let w = runs_as sql values old new schema has.begins.made_of _ (means tables indexes) (asks tables indexes) count ran.0 in
          let keyed = sound.keyed t key.ours in
          let up = upserting schema tree name columns None positions (positions ∷ []) [] at (key.position tables) none old.step_limit values positions hole project key.plain (statement_of sql (understood schema sql)) terms width (Null ∷ values)
          db _ keyed (λ r there. writes.aimed (rowid r) _) writes.source (write_does_command schema old new _ _ values count has.begins.made_of w) in
          let number = at_least Chosen (next_rowid (db tree)) in
          let new_row : Row = Int number ∷ values in
          let made : with_rowid Chosen (db tree) (cast_row t (Null ∷ values)) ≡ new_row = ap (with_rowid Chosen (db tree)) writes.casted in
          let shown : visible_row t (cast_row t new_row) ≡ values = ap (visible_row t) (writes.again number) ∙ writes.shown number in
          let its_key : take (length positions) values ≡ at_places positions new_row = ap (take (length positions)) (sym (writes.shown number)) ∙ key.first new_row in
          let found : (x : Row) → conflicts (Some positions) (all_indexes ++ indexes) t new_row x ≡ agree_at positions x new_row =
          λ x. key.hits indexes new_row x ∙ or_with_false _ _ (none_share t (Some positions) new_row x indexes (λ i there. has.begins.plain i there t key.ours)) in
          let makes = upserts_make schema (among_all tables) t (length positions) none old.step_limit values positions hole project key.plain new_row values old.now new.now
          (subst (λ n. Upserted schema t none old.step_limit values positions hole project key.plain n db new.now.trees) made up.0)
          shown
          (λ r there same. writes.changed _ r (sym (key.first r) ∙ same))
          (λ x there. (
            λ hit. key.first x ∙ same_at positions x new_row (key_ints tables indexes db sound x there) (writes.ints number) (sym (found x) ∙ hit) ∙ sym its_key,
            λ same. found x ∙ agree_same positions x new_row (writes.ints number) (sym (key.first x) ∙ same ∙ its_key),
          ))
          (λ x r one two same. alone tables indexes db sound x r one two same)
          key.ours sound w.sound up.1 in
          done_with t old.now new.now has key.ours _ _ (λ did. did) makes,
    )

    -- a text that means an upsert (`MeansUpsert`), and is `AlwaysPlain`, puts the row that its terms make
    -- (`MakesValues`), in place of the row with the same key (`DoneBy`)
    pub puts_keyed : (sql : List ℕ) (width hole : ℕ) (terms project : List Term)
        → MeansUpsert tree at positions sql width terms hole project
        → AlwaysPlain sql → (values : Row) → MakesValues t positions width terms hole project values
        → DoneBy sql values (Puts t (length positions) values)
    puts_keyed sql width hole terms project means asks values writes =
        done_by sql values (Puts t (length positions) values)
        (puts sql width hole terms project means asks values writes)

    -- ---- the DELETE of rows by the first columns of the key

    drops : (sql : List ℕ) (filter : List Term) → MeansDelete tree at sql filter → AlwaysPlain sql → (front : List ℕ)
        → ((x : Row) → AreInts positions x → AreInts front x)
        → ((x : Row) → take (length front) (visible_row t x) ≡ at_places front x)
        → (k : Row) → AreInts front (Null ∷ k) → at_places front (Null ∷ k) ≡ k
        → ((x : Row) → list_all (holds (k ∷ x ∷ [])) filter ≡ agree_at front x (Null ∷ k))
        → (old new : State) (count : ℕ) → IsTrue old.in_transaction → ExecutesInside 0 sql k old new (Ok count)
        → DoesInside HasTables (Drops t (length front) k) old new
    drops sql filter means asks front its_ints first k ints whole finds old new count inside ran = (
      ran.1.mode ∙ sym inside,
      λ has.
          let tables = has.begins.tables in
          let indexes = has.begins.indexes in
          let schema = all_tables_and_others tables indexes in
          let sound = sound_under old.now has in
          let none = write_checks_no_reference tables indexes tree has.begins.free in
          let db = old.now.trees in
          let test : Row → Bool = λ r. list_all (holds (k ∷ r ∷ [])) filter in
          let w = runs_as sql k old new schema has.begins.made_of _ (means tables indexes) (asks tables indexes) count ran.0 in
          let keyed = sound.keyed t key.ours in
          let out = removes schema tree name columns None positions (positions ∷ []) [] at (key.position tables) none old.step_limit k (statement_of sql (understood schema sql)) (record { lets = []; body = delete_query tree filter }) test db _ keyed
          (λ rows answers. found_by tree filter db (overlay db []) k rows (key.plain db) (answers.answer Null)) (write_does_command schema old new _ _ k count has.begins.made_of w) in
          let makes = loses_make schema (among_all tables) t (length front) test k old.now new.now out.0
          (λ x there. (
            λ hit. first x ∙ same_at front x (Null ∷ k) (its_ints x (key_ints tables indexes db sound x there)) ints (sym (finds x) ∙ hit) ∙ whole,
            λ same. finds x ∙ agree_same front x (Null ∷ k) ints (sym (first x) ∙ same ∙ sym whole),
          ))
          sound w.sound out.1 in
          done_with t old.now new.now has key.ours _ _ (λ did. did) makes,
    )

    -- A text that means a DELETE (`MeansDelete`), and is `AlwaysPlain`, removes the rows whose columns `front` are the
    -- parameters `k`, which are integers (`DoneBy`). These columns, given by index, are the first ones of the key, and
    -- `filter` tests them.
    pub drops_keyed : (sql : List ℕ) (filter : List Term) → MeansDelete tree at sql filter → AlwaysPlain sql
        → (front : List ℕ)
        → ((x : Row) → AreInts positions x → AreInts front x)
        → ((x : Row) → take (length front) (visible_row t x) ≡ at_places front x)
        → (k : Row) → AreInts front (Null ∷ k) → at_places front (Null ∷ k) ≡ k
        → ((x : Row) → list_all (holds (k ∷ x ∷ [])) filter ≡ agree_at front x (Null ∷ k))
        → DoneBy sql k (Drops t (length front) k)
    drops_keyed sql filter means asks front its_ints first k ints whole finds =
        done_by sql k (Drops t (length front) k) (drops sql filter means asks front its_ints first k ints whole finds)
