-- Laws on DELETE by a test and on INSERT OR REPLACE of one row: which rows the table has afterwards.
-- `db` are the trees before, each with the rows of one table, and `next`, or those of `w`, are the trees after. `p` is
-- the test that a row passes if it is to go, and `found` has the rowids of the rows that pass. A query reads `db'`,
-- which has its temporary tables beside the trees of `db`. An edit takes some rows out of one tree and puts others in.
-- Before and after it the rowids in the tree are integers, no two alike (`AreKeyedByRowid`). `params` are the
-- parameters of a statement, `q` is its query, and `limit` is how many steps this may take, if there is a limit.
use Rattle.std.proofs.Common.{◌≡◌, ◌≢◌, ◌⊎◌, ℕ, pos, negsuc, Bool, true, false, List, [], ◌∷◌, ◌++◌, map, flat_map, Option, Some, None, Result, Ok, Err, refl, sym, ap, ◌∙◌, subst, inl, inr}
use Rattle.std.specs.Prelude.{cond}
use Rattle.std.specs.List.{list_all}
use Rattle.std.specs.List.Sorted.{IsPermutation}
use Rattle.std.proofs.lemmas.Bool.{cases_Bool, and_parts, not-true}
use Rattle.std.proofs.lemmas.List.Sorted.{IsPermutation-sym}
use Rattle.sqlite_value.specs.declared.value.Value.TheVariants.{Int}
use Rattle.sqlite_value.specs.Order.{Row}
use Rattle.sqlite_trees.specs.Tree.{Trees, rowid, put_row}
use Rattle.sqlite_trees.proofs.ListLemmas.{all-permutation}
use Rattle.sqlite_sql.specs.Term.{Term, lit, col, holds, Env}
use Rattle.sqlite_sql.specs.Query.{Query, inner, end, IsAnswer, output, Output}
use Rattle.sqlite_schema.specs.declared.schema.Table.{Table}
use Rattle.sqlite_schema.specs.declared.schema.Schema.{Schema}
use Rattle.sqlite_schema.specs.declared.schema.Keys.TheVariants.{Enforced}
use Rattle.sqlite_schema.specs.declared.command.Conflict.TheVariants.{Replace}
use Rattle.sqlite_rules.specs.Lists.{Has}
use Rattle.sqlite_rules.specs.Keys.{AreConflicts, conflicts}
use Rattle.sqlite_rules.specs.Cast.{cast_row}
use Rattle.sqlite_rules.specs.Edit.{edit_of, taken_by}
use Rattle.sqlite_rules.specs.Action.{works}
use Rattle.sqlite_rules.specs.Calls.{ids_of}
use Rattle.sqlite_rules.specs.declared.error.Rowids.TheVariants.{Given}
use Rattle.sqlite_rules.specs.declared.error.Refusal.{Refusal}
use Rattle.sqlite_rules.proofs.ListLemmas.{all_has, all_from}
use Rattle.sqlite_rules.proofs.TableLemmas.{has_put, put_has, put_all_keeps}
use Rattle.sqlite.specs.Effect.{Answers}
use Rattle.sqlite.specs.Rows.{Edited, Written, Task, Deletes, Tries, Puts, Clears, Judged}
use Rattle.sqlite.proofs.Callers.{one_step}
use Rattle.atl_descriptions.specs.Sets.{AreKeyedByRowid}
use Rattle.atl_sql.proofs.ListLaws.{keyed_without, keyed_put, has_map, map_has, AreFound, stays, was_there}

-- a step either stopped with an error that is as `Stops` says, or did its work `R`: if it ended with Ok, it did `R`
pub ok_step_did : {B E R : Type 0} {b : B} {Stops : E → Type 0} → ((stop : E) × Stops stop × (Ok b ≡ Err stop)) ⊎ R → R
ok_step_did (inl stopped) = absurd (let e = stopped.2 in cc)
ok_step_did (inr on) = on

pub same_value : {B E : Type 0} {a b : B} → ◌≡◌ {A = Result B E} (Ok a) (Ok b) → a ≡ b
same_value e = cc

-- after an edit the rows that pass the test `p` are gone, and no other row and no other table of the schema changed
pub record Loses (schema : Schema) (table : Table) (p : Row → Bool) (db next : Trees) : Type 0 where
  pub from : (r : Row) → Has (next table.tree) r → Has (db table.tree) r × (p r ≡ false)
  pub kept : (r : Row) → Has (db table.tree) r → p r ≡ false → Has (next table.tree) r
  pub keyed : AreKeyedByRowid (next table.tree)
  pub others : (t : Table) → Has schema.tables t → t.tree ≢ table.tree → next t.tree ≡ db t.tree

-- the row `new` is there in place of all rows that pass the test `p`; no other row or table of the schema changed
pub record Swaps (schema : Schema) (table : Table) (p : Row → Bool) (new : Row) (db next : Trees) : Type 0 where
  pub there : Has (next table.tree) new
  pub from : (r : Row) → Has (next table.tree) r → (r ≡ new) ⊎ (Has (db table.tree) r × (p r ≡ false))
  pub kept : (r : Row) → Has (db table.tree) r → p r ≡ false → Has (next table.tree) r
  pub keyed : AreKeyedByRowid (next table.tree)
  pub others : (t : Table) → Has schema.tables t → t.tree ≢ table.tree → next t.tree ≡ db t.tree

-- an edit of the table leaves no work for a foreign key (`unlinked`)
module _ (schema : Schema) (table : Table) (unlinked : (olds news : List Row) → works schema Enforced 0 table.tree olds news ≡ []) where
  loses : (p : Row → Bool) (db next : Trees) (found : List Row) → AreKeyedByRowid (db table.tree)
      → AreFound p (db table.tree) found
      → Edited schema Enforced db (edit_of db table (ids_of found) Given 0 []) (Ok next) → Loses schema table p db next
  loses p db next found keyed are h =
      let done = one_step schema Enforced db next (edit_of db table (ids_of found) Given 0 []) (unlinked (taken_by db (edit_of db table (ids_of found) Given 0 [])) []) h in
      record {
        from = λ r there. was_there p (db table.tree) found keyed are r (subst (λ l. Has l r) done.rows there);
        kept = λ r there fails. subst (λ l. Has l r) (sym done.rows) (stays p (db table.tree) found keyed are r there fails);
        keyed = subst AreKeyedByRowid (sym done.rows) (keyed_without (ids_of found) (db table.tree) keyed);
        others = λ t listed other. all_has _ schema.tables t done.tables listed other;
      }

  -- ---- DELETE

  -- a DELETE whose query finds exactly the rows that pass the test `p` takes these rows out (`Loses`)
  pub deletes : (limit : Option ℕ) (params : Row) (q : _) (p : Row → Bool) (db : Trees) (w : Written)
      → AreKeyedByRowid (db table.tree)
      → ((rows : List Row) → Answers (record { schema = schema; trees = db }) q params rows → AreFound p (db table.tree) rows)
      → Deletes (record { limit = limit; keys = Enforced; schema = schema; table = table; params = params }) q db (Ok w) → Loses schema table p db w.trees
  deletes limit params q p db w keyed found h =
      let select_of = ok_step_did h in
      let wrote = ok_step_did select_of.2 in
      let is : w.trees ≡ wrote.0 = ap (λ (x : Written). x.trees) (same_value wrote.2) in
      subst (Loses schema table p db) (sym is) (loses p db wrote.0 select_of.0 keyed (found select_of.0 select_of.1) wrote.1)

  -- ---- INSERT OR REPLACE of one row

  module _ (limit : Option ℕ) (params : Row) where
    abbrev task : Task
    task = record { limit = limit; keys = Enforced; schema = schema; table = table; params = params }

    -- putting the row `new` adds it, as SQL casts it, and no other row; all other rows and tables are kept
    pub puts : (new : Row) (db : Trees) (w : Written) → AreKeyedByRowid (db table.tree) → Puts task new db (Ok w)
        → Has (w.trees table.tree) (cast_row table new)
        × ((r : Row) → Has (w.trees table.tree) r → (r ≡ cast_row table new) ⊎ Has (db table.tree) r)
        × ((r : Row) → Has (db table.tree) r → Has (w.trees table.tree) r)
        × ((t : Table) → Has schema.tables t → t.tree ≢ table.tree → w.trees t.tree ≡ db t.tree)
        × AreKeyedByRowid (w.trees table.tree)
    puts new db w keyed h =
        let wrote = ok_step_did h in
        let done = one_step schema Enforced db wrote.0 (edit_of db table [] Given 0 (new ∷ [])) (unlinked (taken_by db (edit_of db table [] Given 0 (new ∷ []))) (cast_row table new ∷ [])) wrote.1 in
        let is : w.trees ≡ wrote.0 = ap (λ (x : Written). x.trees) (same_value wrote.2) in
        let rows : w.trees table.tree ≡ put_row (cast_row table new) (db table.tree) = ap (λ (t : Trees). t table.tree) is ∙ done.rows in (
          subst (λ l. Has l (cast_row table new)) (sym rows) (has_put (cast_row table new) (db table.tree)),
          λ r there. put_has (cast_row table new) (db table.tree) r (subst (λ l. Has l r) rows there),
          λ r there. subst (λ l. Has l r) (sym rows) (put_all_keeps (cast_row table new ∷ []) (db table.tree) r done.fresh there),
          λ t listed other. ap (λ (f : Trees). f t.tree) is ∙ all_has _ schema.tables t done.tables listed other,
          subst AreKeyedByRowid (sym rows) (keyed_put (cast_row table new) (db table.tree) keyed (not-true _ (and_parts _ _ done.fresh).0) (and_parts _ _ done.keyed).0),
        )

    abbrev p : Row → Row → Bool
    p new r = conflicts None schema.indexes table new r

    clears : (new : Row) (db : Trees) (w : Written) (found : List Row) → AreKeyedByRowid (db table.tree)
        → AreConflicts None schema.indexes table (db table.tree) new found
        → Clears task Replace new db found (Ok w) → Swaps schema table (p new) (cast_row table new) db w.trees
    clears new db w [] keyed are h =
        let put = puts new db w keyed h in
        let clear : (r : Row) → Has (db table.tree) r → p new r ≡ false = λ r there. elim (cases_Bool (p new r)) [ inl hit ↦ absurd (are.complete r there hit) | inr miss ↦ miss ] in
        record {
          there = put.0;
          from = λ r there. elim (put.1 r there) [ inl same ↦ inl same | inr was ↦ inr (was, clear r was) ];
          kept = λ r there fails. put.2 r there;
          keyed = put.4;
          others = put.3;
        }
    clears new db w (x ∷ more) keyed are h =
        let cut = ok_step_did h in
        let lost = loses (p new) db cut.0 (x ∷ more) keyed (record { sound = are.sound; complete = are.complete }) cut.1 in
        let put = puts new cut.0 w lost.keyed cut.2 in
        record {
          there = put.0;
          from = λ r there. elim (put.1 r there) [ inl same ↦ inl same | inr was ↦ inr (lost.from r was) ];
          kept = λ r there fails. put.2 r (lost.kept r there fails);
          keyed = put.4;
          others = λ t listed other. put.3 t listed other ∙ lost.others t listed other;
        }

    -- INSERT OR REPLACE puts the row `new`, as SQL casts it, in place of all rows that it conflicts with (`Swaps`)
    pub tries : (new : Row) (db : Trees) (w : Written) → AreKeyedByRowid (db table.tree)
        → Tries task Replace [] new db (Ok w)
        → Swaps schema table (p new) (cast_row table new) db w.trees
    tries new db w keyed (inl refused) = absurd (let e = refused.1 in cc)
    tries new db w keyed (inr check_own_rows) = go check_own_rows.0 check_own_rows.2
      where
        go : (verdict : Option Refusal) → Judged task Replace [] new db verdict (Ok w)
            → Swaps schema table (p new) (cast_row table new) db w.trees
        go None h = clears new db w h.0 keyed h.1 h.2
        go (Some why) h = absurd (let e = h in cc)

-- ---- the query of a DELETE, and of a table in the order of its key

-- the query of a DELETE: the rowids of all rows of a tree, given by its number, that pass each term of the filter
abbrev pub delete_query : ℕ → List Term → Query
delete_query tree filter = record {
  from = inner tree end;
  filter = filter;
  group = None;
  project = col 1 0 ∷ [];
  distinct = false;
  collations = [];
  order = [];
  limit = lit (Int (negsuc 0));
  offset = lit (Int (pos 0));
}

pub has_permuted : {X : Type 0} (xs ys : List X) (x : X) → IsPermutation xs ys → Has xs x → Has ys x
has_permuted xs ys x h there =
    all_has (λ y. Has ys y) xs x
    (all-permutation (λ y. Has ys y) ys xs (IsPermutation-sym xs ys h) (all_from _ ys (λ y k. k))) there

-- a query chooses the rows that pass the test p, and gives f r for each such row r
module _ (p : Row → Bool) (f : Row → Env) where
  has_chosen : (rows : List Row) (r : Row) → Has rows r → p r ≡ true
      → Has (flat_map (λ r. cond (p r) (f r ∷ []) []) rows) (f r)
  has_chosen [] r h passes = absurd h
  has_chosen (x ∷ rows) r (inl same) passes = rw (← same, passes) (inl refl)
  has_chosen (x ∷ rows) r (inr later) passes = go (p x) (has_chosen rows r later passes)
    where
      go : (b : Bool) → Has (flat_map (λ r. cond (p r) (f r ∷ []) []) rows) (f r)
          → Has (cond b (f x ∷ []) [] ++ flat_map (λ r. cond (p r) (f r ∷ []) []) rows) (f r)
      go true h = inr h
      go false h = h

  chosen_has : (rows : List Row) (e : Env) → Has (flat_map (λ r. cond (p r) (f r ∷ []) []) rows) e
      → (r : Row) × Has rows r × (p r ≡ true) × (e ≡ f r)
  chosen_has [] e h = absurd h
  chosen_has (x ∷ rows) e h = go (p x) refl h (chosen_has rows e)
    where
      go : (b : Bool) → p x ≡ b → Has (cond b (f x ∷ []) [] ++ flat_map (λ r. cond (p r) (f r ∷ []) []) rows) e
          → (Has (flat_map (λ r. cond (p r) (f r ∷ []) []) rows) e → (r : Row) × Has rows r × (p r ≡ true) × (e ≡ f r))
          → (r : Row) × Has (x ∷ rows) r × (p r ≡ true) × (e ≡ f r)
      go true is (inl same) more = (x, inl refl, is, same)
      go true is (inr later) more = let it = more later in (it.0, inr it.1, it.2, it.3)
      go false is later more = let it = more later in (it.0, inr it.1, it.2, it.3)

-- the query of a DELETE finds exactly the rows that pass its filter, if its tree isn't that of a temporary table
pub found_by : (tree : ℕ) (filter : List Term) (db db' : Trees) (params : Row) (rows : List Row) → db' tree ≡ db tree
    → IsAnswer (delete_query tree filter) db' params rows
    → AreFound (λ r. list_all (holds (params ∷ r ∷ [])) filter) (db tree) rows
found_by tree filter db db' params rows same a =
    let q = delete_query tree filter in
    let p = λ (r : Row). list_all (holds (params ∷ r ∷ [])) filter in
    let f = λ (r : Row). params ∷ r ∷ [] in
    let staged : a.staged ≡ flat_map (λ r. cond (p r) (f r ∷ []) []) (db tree) = a.grouped ∙ ap (λ l. flat_map (λ r. cond (p r) (f r ∷ []) []) l) same in
    let kept : a.kept ≡ map (output q) (flat_map (λ r. cond (p r) (f r ∷ []) []) (db tree)) = a.distinct ∙ ap (map (output q)) staged in
    record {
      sound = λ x there.
          let o = map_has (λ (o : Output). o.1) a.ordered x (subst (λ l. Has l x) a.shown there) in
          let k = subst (λ l. Has l o.0) kept (has_permuted a.ordered a.kept o.0 (IsPermutation-sym a.kept a.ordered a.same) o.1) in
          let e = map_has (output q) _ o.0 k in
          let r = chosen_has p f (db tree) e.0 e.1 in
          (r.0, r.1, r.2, o.2 ∙ ap (λ (o : Output). o.1) (e.2 ∙ ap (output q) r.3));
      complete = λ r there passes.
          let k = has_map (output q) _ (f r) (has_chosen p f (db tree) r there passes) in
          let o = has_permuted a.kept a.ordered _ a.same (subst (λ l. Has l (output q (f r))) (sym kept) k) in
          subst (λ l. Has l (rowid r ∷ [])) (sym a.shown) (has_map (λ (o : Output). o.1) a.ordered _ o);
    }
