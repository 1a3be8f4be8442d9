-- Laws on the rows that SQL shows of a table after a DELETE, an INSERT OR REPLACE and an upsert of the tree's rows.
-- `db` or `old` is the trees or the database before the statement, and `next` or `new` after it. `p` is the test by
-- which the statement finds rows, and `k` a key. `v` is a row as SQL shows it, and `n` the row as it is stored.
use Rattle.std.proofs.Common.{arith, ◌≡◌, ◌≢◌, ℕ, Bool, true, List, [], ◌∷◌, map, take, eqb, Option, None, Ok, sym, ap, ◌∙◌, subst, inl, inr, true≢false}
use Rattle.std.specs.Ordering.{is_eq}
use Rattle.std.proofs.lemmas.Bool.{cases_Bool}
use Rattle.std.proofs.lemmas.Bool.Decides.{nat_tests}
use Rattle.sqlite_value.specs.Order.{Row, value_cmp}
use Rattle.sqlite_trees.specs.Tree.{Trees, rowid}
use Rattle.sqlite_schema.specs.declared.schema.Table.{Table}
use Rattle.sqlite_schema.specs.declared.schema.Schema.{Schema}
use Rattle.sqlite_catalog.specs.Listing.{IsSound}
use Rattle.sqlite_schema.specs.declared.command.Command.{Command}
use Rattle.sqlite_rules.specs.Lists.{Has}
use Rattle.sqlite_rules.specs.Cast.{cast_row}
use Rattle.sqlite_rules.specs.Action.{works}
use Rattle.sqlite_schema.specs.declared.schema.Keys.TheVariants.{Enforced}
use Rattle.sqlite_sql.specs.Term.{Term, eval_all}
use Rattle.sqlite_sql.specs.Program.{overlay}
use Rattle.sqlite.specs.Effect.{Database, IsDatabase}
use Rattle.sqlite.specs.State.{State, Writes}
use Rattle.sqlite.specs.Does.{Does}
use Rattle.atl_descriptions.specs.Sets.{visible_row, rows_in, HasExactly, put, drop_key, AreKeyedByRowid}
use Rattle.atl_descriptions.specs.Tables.{all_tables, IsSoundDatabase}
use Rattle.atl_sql.proofs.Made.{Makes}
use Rattle.atl_sql.proofs.ListLaws.{has_map, map_has, one_rowid}
use Rattle.atl_sql.proofs.EditLaws.{Swaps, Loses}
use Rattle.atl_sql.proofs.UpsertLaws.{hits, given, Upserted}
use Rattle.atl_sql.proofs.StatementLaws.{mode}

-- If the statement `text`, read as `command` without RETURNING, wrote (`Writes`) in a state of this schema, it did what
-- the command says (`Does`) to the database of this schema. `count` is how many rows it reports.
pub write_does_command : (schema : Schema) (old new : State) (command : Command) (text : List ℕ) (params : Row) (count : ℕ)
    → old.now.schema ≡ schema → (w : Writes old new None command text params count)
    → Does old.step_limit mode params (record { schema = schema; trees = old.now.trees }) text None command (Ok (w.tally, new.now))
write_does_command schema old new command text params count has w =
    subst (λ s. Does old.step_limit mode params (record old.now { schema = s }) text None command (Ok (w.tally, new.now))) has w.changed

-- the schema has all tables of a campaign, and the key of table t is the first `key` columns that SQL shows
module _ (schema : Schema) (among : (u : Table) → Has all_tables u → Has schema.tables u) (t : Table) (key : ℕ) where
  shown_again : (rows : List Row) (r : Row) → Has (map (visible_row t) rows) r
      → (x : Row) × Has rows x × (r ≡ visible_row t x)
  shown_again rows r h = map_has (visible_row t) rows r h

  -- the test finds exactly those rows of a list that have this key
  abbrev pub Tests : (Row → Bool) → Row → List Row → Type 0
  Tests p k rows =
      (x : Row) → Has rows x → (p x ≡ true → take key (visible_row t x) ≡ k) ×
      (take key (visible_row t x) ≡ k → p x ≡ true)

  -- If an edit swapped the rows with the key of `v`, which the test `p` finds, for the row `n`, the table then shows
  -- its old rows with `v` in place of these. SQL shows `n` as `v`.
  pub swaps_set : (p : Row → Bool) (n v : Row) (db next : Trees) → Swaps schema t p n db next → visible_row t n ≡ v
      → Tests p (take key v) (db t.tree)
      → HasExactly (rows_in t next) (put key v (Has (rows_in t db)))
  swaps_set p n v db next swap is tests r = (
    λ there.
        let x = shown_again (next t.tree) r there in
        elim (swap.from x.0 x.1) [
          | inl same ↦ inl (x.2 ∙ ap (visible_row t) same ∙ is)
          | inr was ↦ inr (
            subst (Has (rows_in t db)) (sym x.2) (has_map (visible_row t) (db t.tree) x.0 was.0),
            λ e. true≢false (sym ((tests x.0 was.0).1 (ap (take key) (sym x.2) ∙ e)) ∙ was.1),
          )
        ],
    λ is_put. elim is_put [
      | inl same ↦ subst (Has (rows_in t next)) (is ∙ sym same) (has_map (visible_row t) (next t.tree) n swap.there)
      | inr was ↦
          let x = shown_again (db t.tree) r was.0 in
          subst (Has (rows_in t next)) (sym x.2) (has_map (visible_row t) (next t.tree) x.0 (swap.kept x.0 x.1 (elim (cases_Bool (p x.0)) [
            | inl hit ↦ absurd (was.1 (ap (take key) x.2 ∙ (tests x.0 x.1).0 hit))
            | inr miss ↦ miss
          ])))
    ],
  )

  -- if an edit took out the rows with the key `k`, which the test `p` finds, the table then shows its other rows
  pub loses_set : (p : Row → Bool) (k : Row) (db next : Trees) → Loses schema t p db next → Tests p k (db t.tree)
      → HasExactly (rows_in t next) (drop_key key k (Has (rows_in t db)))
  loses_set p k db next lose tests r = (
    λ there.
        let x = shown_again (next t.tree) r there in
        let was = lose.from x.0 x.1 in
        (subst (Has (rows_in t db)) (sym x.2) (has_map (visible_row t) (db t.tree) x.0 was.0), λ e. true≢false (sym ((tests x.0 was.0).1 (ap (take key) (sym x.2) ∙ e)) ∙ was.1)),
    λ was.
        let x = shown_again (db t.tree) r was.0 in
        subst (Has (rows_in t next)) (sym x.2) (has_map (visible_row t) (next t.tree) x.0 (lose.kept x.0 x.1 (elim (cases_Bool (p x.0)) [
          | inl hit ↦ absurd (was.1 (ap (take key) x.2 ∙ (tests x.0 x.1).0 hit))
          | inr miss ↦ miss
        ]))),
  )

  -- A write of table t leaves a sound database sound. Premises: the schema and all other tables stay, the trees list
  -- the schema (`IsDatabase`), and the rowids in t are integers, no two alike.
  pub stays_sound : (old new : Database) → IsSoundDatabase schema old.trees → IsDatabase new → new.schema ≡ schema
      → AreKeyedByRowid (new.trees t.tree)
      → ((u : Table) → Has schema.tables u → u.tree ≢ t.tree → new.trees u.tree ≡ old.trees u.tree)
      → IsSoundDatabase schema new.trees
  stays_sound old new sound base is keyed others = record {
    keyed = λ u listed. elim (cases_Bool (eqb u.tree t.tree)) [
      | inl same ↦ let e : u.tree ≡ t.tree = grind (arith, nat_tests) in subst (λ n. AreKeyedByRowid (new.trees n)) (sym e) keyed
      | inr apart ↦ let other : u.tree ≢ t.tree = λ e. grind (arith, nat_tests) in subst AreKeyedByRowid (sym (others u (among u listed) other)) (sound.keyed u listed)
    ];
    listed = subst (λ s. IsSound s new.trees) is base;
  }

  -- An edit that swaps the rows with the key of `v`, which the test `p` finds, for the row `n` leaves a sound database
  -- sound, with `v` in their place (`Makes`). Premises: SQL shows `n` as `v`; the schema stays, and the trees list it.
  pub swaps_make : (p : Row → Bool) (n v : Row) (old new : Database) → Swaps schema t p n old.trees new.trees
      → visible_row t n ≡ v → Tests p (take key v) (old.trees t.tree)
      → IsSoundDatabase schema old.trees → IsDatabase new → new.schema ≡ schema
      → Makes schema t old new (put key v (Has (rows_in t old.trees)))
  swaps_make p n v old new swap shows tests sound base is = record {
    schema_is = is;
    rows = swaps_set p n v old.trees new.trees swap shows tests;
    others = swap.others;
    sound = stays_sound old new sound base is swap.keyed swap.others;
  }

  -- If an edit took out the rows with the key `k`, which the test `p` finds, a sound database stays sound and shows its
  -- other rows (`Makes`). Premises: the schema stays, and the trees list it (`IsDatabase`).
  pub loses_make : (p : Row → Bool) (k : Row) (old new : Database) → Loses schema t p old.trees new.trees
      → Tests p k (old.trees t.tree)
      → IsSoundDatabase schema old.trees → IsDatabase new → new.schema ≡ schema
      → Makes schema t old new (drop_key key k (Has (rows_in t old.trees)))
  loses_make p k old new lose tests sound base is = record {
    schema_is = is;
    rows = loses_set p k old.trees new.trees lose tests;
    others = lose.others;
    sound = stays_sound old new sound base is lose.keyed lose.others;
  }

  -- The upsert of the row `new` leads from `old` to `next`, and v is the row that SQL shows afterwards. The key is in
  -- the columns at the indexes `target`, and the UPDATE sets the terms `project`. Of what the UPDATE reads, the column
  -- at the index `position` is the rowid of the row to change. `params` are the statement's parameters, and `limit` is
  -- how many steps its query may take, if there is a limit. An edit of t leaves no work for a foreign key (`unlinked`),
  -- and its tree isn't that of a temporary table (`plain`).
  module _ (unlinked : (olds news : List Row) → works schema Enforced 0 t.tree olds news ≡ []) (limit : Option ℕ) (params : Row) (target : List ℕ) (position : ℕ) (project : List Term)
      (plain : (db : Trees) → overlay db [] t.tree ≡ db t.tree) (new v : Row) (old next : Database) where
    -- where a row has the key, the UPDATE of the upsert changes it to one that shows the values `v`
    abbrev pub UpdateShowsValues : Type 0
    UpdateShowsValues =
        (r : Row) → Has (old.trees t.tree) r → take key (visible_row t r) ≡ take key v → visible_row t
        (cast_row t (eval_all project (given schema t unlinked limit params target position project plain new r ∷ r ∷ [])))
        ≡ v

    -- two rows of the table with the same key have the same rowid, so they are one row
    abbrev pub OneRow : Type 0
    OneRow =
        (x r : Row) → Has (old.trees t.tree) x → Has (old.trees t.tree) r → take key (visible_row t x) ≡ take key
        (visible_row t r) → is_eq (value_cmp (rowid x) (rowid r)) ≡ true

    over_make : (r : Row) → Has (old.trees t.tree) r
        → hits schema t unlinked limit params target position project plain new r ≡ true
        → Swaps schema t (λ x. is_eq (value_cmp (rowid x) (rowid r))) (cast_row t (eval_all project (given schema t unlinked limit params target position project plain new r ∷ r ∷ []))) old.trees next.trees
        → UpdateShowsValues
        → Tests (hits schema t unlinked limit params target position project plain new) (take key v) (old.trees t.tree)
        → OneRow
        → Has all_tables t → IsSoundDatabase schema old.trees → IsDatabase next → next.schema ≡ schema
        → Makes schema t old next (put key v (Has (rows_in t old.trees)))
    over_make r there hit over changed tests alone listed sound base is =
        let same : take key (visible_row t r) ≡ take key v = (tests r there).0 hit in
        swaps_make _ _ v old next over (changed r there same) (λ x k. (
          λ e. ap (λ (y : Row). take key (visible_row t y)) (one_rowid (old.trees t.tree) (sound.keyed t listed).apart x r k there e) ∙ same,
          λ e. alone x r k there (e ∙ sym same),
        )) sound base is

    -- An upsert whose INSERT and whose UPDATE both make rows that show `v` makes of the table its old rows with `v` in
    -- place of the row with its key (`Makes`). Premises: `hits` finds just the rows with this key, there is one row for
    -- a key (`OneRow`), and t is one of the ten tables. The database was sound before, its schema stays, and the trees
    -- list it (`IsDatabase`).
    pub upserts_make : Upserted schema t unlinked limit params target position project plain new old.trees next.trees
        → visible_row t (cast_row t new) ≡ v → UpdateShowsValues
        → Tests (hits schema t unlinked limit params target position project plain new) (take key v) (old.trees t.tree)
        → OneRow
        → Has all_tables t → IsSoundDatabase schema old.trees → IsDatabase next → next.schema ≡ schema
        → Makes schema t old next (put key v (Has (rows_in t old.trees)))
    upserts_make (inl put_in) shows changed tests alone listed sound base is =
        swaps_make _ _ v old next put_in.1 shows tests sound base is
    upserts_make (inr over) shows changed tests alone listed sound base is =
        over_make over.0 over.1 over.2 over.3 changed tests alone listed sound base is

    -- If a row with the key is there, an upsert whose UPDATE makes a row that shows `v` puts the row `v` (`Makes`),
    -- whatever the INSERT would have made. Premises: `hits` finds just the rows with this key, there is one row for a
    -- key (`OneRow`), and t is one of the ten tables. The database was sound before, its schema stays, and the trees
    -- list it (`IsDatabase`).
    pub updates_make : Upserted schema t unlinked limit params target position project plain new old.trees next.trees
        → (r : Row) → Has (old.trees t.tree) r → take key (visible_row t r) ≡ take key v → UpdateShowsValues
        → Tests (hits schema t unlinked limit params target position project plain new) (take key v) (old.trees t.tree)
        → OneRow
        → Has all_tables t → IsSoundDatabase schema old.trees → IsDatabase next → next.schema ≡ schema
        → Makes schema t old next (put key v (Has (rows_in t old.trees)))
    updates_make (inl put_in) r there same changed tests alone listed sound base is =
        absurd (true≢false (sym ((tests r there).1 same) ∙ put_in.0 r there))
    updates_make (inr over) r there same changed tests alone listed sound base is =
        over_make over.0 over.1 over.2 over.3 changed tests alone listed sound base is

    -- an upsert leaves a sound database sound, if the schema stays, and the trees list and obey it
    pub upserts_sound : Upserted schema t unlinked limit params target position project plain new old.trees next.trees
        → IsSoundDatabase schema old.trees → IsDatabase next → next.schema ≡ schema → IsSoundDatabase schema next.trees
    upserts_sound (inl put_in) sound base is = stays_sound old next sound base is put_in.1.keyed put_in.1.others
    upserts_sound (inr over) sound base is = stays_sound old next sound base is over.3.keyed over.3.others

    -- an upsert leaves all other tables as they were
    pub upserts_others : Upserted schema t unlinked limit params target position project plain new old.trees next.trees
        → (u : Table) → Has schema.tables u → u.tree ≢ t.tree → next.trees u.tree ≡ old.trees u.tree
    upserts_others (inl put_in) = put_in.1.others
    upserts_others (inr over) = over.3.others
