-- Laws on INSERT .. ON CONFLICT (key) DO UPDATE of one row: which rows the table has afterwards.
-- `new` is the row to insert, and `r` a row of the table. `db` are the trees before, each with the rows of one table.
-- `next`, or those of `w`, are the trees after. A query reads `db'`, which adds temporary tables to the trees of `db`.
use Rattle.std.proofs.Common.{◌≡◌, ◌⊎◌, ℕ, ℤ, Bool, true, false, List, [], ◌∷◌, ◌++◌, map, flat_map, Option, Some, None, Ok, Ordering, Less, Equal, Greater, refl, sym, ap, ◌∙◌, subst, inl, inr, true≢false, arith}
use Rattle.std.specs.Prelude.{cond}
use Rattle.std.specs.List.{list_all}
use Rattle.std.specs.Ordering.{is_eq, is_ne}
use Rattle.std.proofs.lemmas.Bool.{cases_Bool, and_parts, not-true}
use Rattle.std.proofs.lemmas.Int.{ints}
use Rattle.std.proofs.lemmas.Bool.Decides.{nat_tests}
use Rattle.std.proofs.lemmas.Cmp.{tied_itself}
use Rattle.sqlite_value.specs.declared.value.Value.{Value}
use Rattle.sqlite_value.specs.declared.value.Value.TheVariants.{Null, Int, Real, Text, Blob}
use Rattle.sqlite_value.specs.declared.keys.Collation.TheVariants.{Binary}
use Rattle.sqlite_value.specs.Order.{Row, column, value_cmp}
use Rattle.sqlite_value.proofs.OrderLemmas.{value_cmp_total, value_cmp-Int}
use Rattle.sqlite_trees.specs.Tree.{Trees, rowid, put_row, IsAscending}
use Rattle.sqlite_trees.specs.View.{is_int}
use Rattle.sqlite_sql.specs.Ops.{binary, is_true, from_truth}
use Rattle.sqlite_sql.specs.declared.ops.BinaryOp.TheVariants.{Compare}
use Rattle.sqlite_sql.specs.declared.ops.CompareOp.TheVariants.{Eq}
use Rattle.sqlite_sql.specs.Term.{Term, col, op2, holds, Env, eval_all}
use Rattle.sqlite_sql.specs.Query.{Query, IsAnswer, output, Output}
use Rattle.sqlite_schema.specs.Rules.{equal, differ}
use Rattle.sqlite_schema.specs.declared.schema.Table.{Table}
use Rattle.sqlite_schema.specs.declared.schema.Schema.{Schema}
use Rattle.sqlite_rules.specs.Lists.{Has}
use Rattle.sqlite_rules.proofs.ListLemmas.{all_has}
use Rattle.sqlite.proofs.Callers.{one_permutation, one_step}
use Rattle.std.specs.List.Sorted.{IsPermutation}
use Rattle.sqlite_sql.specs.Program.{overlay}
use Rattle.sqlite_schema.specs.declared.schema.Keys.TheVariants.{Enforced}
use Rattle.sqlite_schema.specs.declared.command.Upsert.{Upsert}
use Rattle.sqlite_schema.specs.declared.program.Program.{Program}
use Rattle.sqlite_rules.specs.Keys.{AreConflicts, conflicts}
use Rattle.sqlite_rules.specs.Cast.{cast_row}
use Rattle.sqlite_rules.specs.Edit.{Edit, edit_of, taken_by, id_in, without_all}
use Rattle.sqlite_rules.specs.Calls.{ids_of}
use Rattle.sqlite_rules.specs.declared.error.Refusal.{Refusal}
use Rattle.sqlite_rules.proofs.TableLemmas.{has_put, put_has, put_all_keeps}
use Rattle.sqlite_schema.specs.declared.command.Conflict.TheVariants.{Abort}
use Rattle.sqlite_rules.specs.Action.{works}
use Rattle.sqlite_rules.specs.declared.error.Rowids.TheVariants.{Given}
use Rattle.sqlite.specs.Rows.{Written, Task, Updates, Tries, Judged, Upserts, Meets, Clears, Puts, Edited, shown}
use Rattle.atl_descriptions.specs.Sets.{AreKeyedByRowid}
use Rattle.atl_sql.proofs.ListLaws.{eq_sym, AreFound, stays, was_there, keyed_put, keyed_without}
use Rattle.atl_sql.proofs.EditLaws.{delete_query, Swaps, puts, ok_step_did, same_value}
use mathlib.Core.Bool.{and-true}

-- ---- SQL's = on integers

truth_again : (b : Bool) → is_true (from_truth (Some b)) ≡ b
truth_again true = refl
truth_again false = refl

-- for integers SQL's = (`equal`) says the same as the order of values (`value_cmp`)
pub equal_ints : (a b : Value) → is_int a ≡ true → is_int b ≡ true → equal Binary a b ≡ is_eq (value_cmp a b)
unfolding binary
equal_ints (Int m) (Int n) p q = truth_again _
equal_ints (Int m) Null p q = absurd (true≢false (sym q))
equal_ints (Int m) (Real x) p q = absurd (true≢false (sym q))
equal_ints (Int m) (Text t) p q = absurd (true≢false (sym q))
equal_ints (Int m) (Blob t) p q = absurd (true≢false (sym q))
equal_ints Null b p q = absurd (true≢false (sym p))
equal_ints (Real x) b p q = absurd (true≢false (sym p))
equal_ints (Text x) b p q = absurd (true≢false (sym p))
equal_ints (Blob x) b p q = absurd (true≢false (sym p))

same_int : (m n : ℤ) → is_eq (value_cmp (Int m) (Int n)) ≡ true → m ≡ n
same_int m n h = let k = rw (value_cmp-Int m n) at h in grind (arith, ints, nat_tests)

pub same_ints : (a b : Value) → is_int a ≡ true → is_int b ≡ true → is_eq (value_cmp a b) ≡ true → a ≡ b
same_ints (Int m) (Int n) p q h = ap Int (same_int m n h)
same_ints (Int m) Null p q h = absurd (true≢false (sym q))
same_ints (Int m) (Real x) p q h = absurd (true≢false (sym q))
same_ints (Int m) (Text t) p q h = absurd (true≢false (sym q))
same_ints (Int m) (Blob t) p q h = absurd (true≢false (sym q))
same_ints Null b p q h = absurd (true≢false (sym p))
same_ints (Real x) b p q h = absurd (true≢false (sym p))
same_ints (Text x) b p q h = absurd (true≢false (sym p))
same_ints (Blob x) b p q h = absurd (true≢false (sym p))

pub equal_is : (a b : Value) → is_int a ≡ true → is_int b ≡ true → equal Binary a b ≡ true → a ≡ b
equal_is a b p q h = same_ints a b p q (sym (equal_ints a b p q) ∙ h)

pub is_equal : (a : Value) → is_int a ≡ true → equal Binary a a ≡ true
is_equal a p = equal_ints a a p p ∙ ap is_eq (tied_itself value_cmp_total a)

ne_or_eq : (o : Ordering) → is_ne o ≡ false → is_eq o ≡ true
ne_or_eq Less h = absurd (true≢false h)
ne_or_eq Equal h = refl
ne_or_eq Greater h = absurd (true≢false h)

-- two integers of which SQL's <> (`differ`) isn't true are equal in the order of values
pub differ_not : (a b : Value) → is_int a ≡ true → is_int b ≡ true → differ a b ≡ false → is_eq (value_cmp a b) ≡ true
unfolding binary
differ_not (Int m) (Int n) p q h = ne_or_eq _ (sym (truth_again _) ∙ h)
differ_not (Int m) Null p q h = absurd (true≢false (sym q))
differ_not (Int m) (Real x) p q h = absurd (true≢false (sym q))
differ_not (Int m) (Text t) p q h = absurd (true≢false (sym q))
differ_not (Int m) (Blob t) p q h = absurd (true≢false (sym q))
differ_not Null b p q h = absurd (true≢false (sym p))
differ_not (Real x) b p q h = absurd (true≢false (sym p))
differ_not (Text x) b p q h = absurd (true≢false (sym p))
differ_not (Blob x) b p q h = absurd (true≢false (sym p))

-- ---- the query of the update: the one row that has the rowid

-- the query of an upsert's UPDATE: of the rows of a tree with the rowid in column `position` of the parameters, it
-- gives the rowid and the values to set, those of the terms `project`
abbrev pub update_query : ℕ → ℕ → List Term → Query
update_query tree position project =
    record (delete_query tree (op2 (Compare Eq Binary) (col 1 0) (col 0 position) ∷ [])) { project = col 1 0 ∷ project }

-- a query chooses the rows that pass the test p, and gives f r for each such row r
module _ (p : Row → Bool) (f : Row → Env) where
  abbrev chosen : List Row → List Env
  chosen rows = flat_map (λ r. cond (p r) (f r ∷ []) []) rows

  none_chosen : (rows : List Row) → ((r : Row) → Has rows r → p r ≡ false) → chosen rows ≡ []
  none_chosen [] none = refl
  none_chosen (r ∷ rows) none = rw (none r (inl refl), none_chosen rows (λ x h. none x (inr h)))

  one_chosen : (rows : List Row) → IsAscending (λ a b. is_eq (value_cmp (rowid a) (rowid b)) ≡ false) rows → (r : Row)
      → Has rows r
      → ((x : Row) → Has rows x → p x ≡ is_eq (value_cmp (rowid x) (rowid r))) → chosen rows ≡ f r ∷ []
  one_chosen [] apart r h is = absurd h
  one_chosen (x ∷ rows) apart r (inl e) is =
      let hit : p x ≡ true = is x (inl refl) ∙ ap (λ y. is_eq (value_cmp (rowid x) (rowid y))) e ∙ ap is_eq (tied_itself value_cmp_total (rowid x)) in
      let rest : chosen rows ≡ [] = none_chosen rows (λ y h. is y (inr h) ∙ miss y h) in
      rw (hit, rest, e) refl
    where
      miss : (y : Row) → Has rows y → is_eq (value_cmp (rowid y) (rowid r)) ≡ false
      miss y h = elim (cases_Bool (is_eq (value_cmp (rowid y) (rowid r)))) [
        | inl same ↦ absurd (true≢false (sym (eq_sym _ _ same) ∙ ap (λ z. is_eq (value_cmp (rowid z) (rowid y))) e ∙ all_has _ rows y apart.0 h))
        | inr other ↦ other
      ]
  one_chosen (x ∷ rows) apart r (inr h) is =
      rw (is x (inl refl) ∙ all_has _ rows r apart.0 h, one_chosen rows apart.1 r h (λ y k. is y (inr k)))

-- The rowids in the tree, which isn't a temporary table's, are integers, no two alike. A row `r` has the one in column
-- `position` of the parameters `given`. Then the query of the UPDATE has one answer: this rowid, and the values to set.
pub update_finds_its_row : (tree position : ℕ) (project : List Term) (db db' : Trees) (given : Row) (rows : List Row) (r : Row)
    → AreKeyedByRowid (db tree) → Has (db tree) r → column given position ≡ rowid r → db' tree ≡ db tree
    → IsAnswer (update_query tree position project) db' given rows
    → rows ≡ (rowid r ∷ eval_all project (given ∷ r ∷ [])) ∷ []
update_finds_its_row tree position project db db' given rows r keyed there aimed same a =
    let q = update_query tree position project in
    let p = λ (x : Row). list_all (holds (given ∷ x ∷ [])) q.filter in
    let f = λ (x : Row). given ∷ x ∷ [] in
    let tests : (x : Row) → Has (db tree) x → p x ≡ is_eq (value_cmp (rowid x) (rowid r)) = λ x h.
    and-true (equal Binary (rowid x) (column given position)) ∙ ap (equal Binary (rowid x)) aimed ∙ equal_ints (rowid x) (rowid r) (all_has _ (db tree) x keyed.ints h) (all_has _ (db tree) r keyed.ints there) in
    let staged : a.staged ≡ f r ∷ [] = a.grouped ∙ ap (chosen p f) same ∙ one_chosen p f (db tree) keyed.apart r there tests in
    let kept : a.kept ≡ output q (f r) ∷ [] = a.distinct ∙ ap (map (output q)) staged in
    let ordered = one_permutation (output q (f r)) a.ordered (subst (λ k. IsPermutation k a.ordered) kept a.same) in
    a.shown ∙ ap (map (λ (o : Output). o.1)) ordered

-- ---- the statement

-- the ON CONFLICT clause of an upsert: the key in these columns, and the program of its UPDATE
abbrev pub conflict_clause : List ℕ → Program → Upsert
conflict_clause target q = record { target = Some target; update = Some q }

-- An upsert of the key in the columns `target`. Its UPDATE sets the terms `project` in the row whose rowid is at the
-- index `position` of what it reads. An edit of the table t leaves no work for a foreign key (`unlinked`), and the tree
-- is one of the file, not that of a temporary table (`plain`). `params` are the statement's parameters, and `limit` is
-- how many steps its query may take, if there is a limit.
module _ (schema : Schema) (t : Table) (unlinked : (olds news : List Row) → works schema Enforced 0 t.tree olds news ≡ []) (limit : Option ℕ) (params : Row)
    (target : List ℕ) (position : ℕ) (project : List Term) (plain : (db : Trees) → overlay db [] t.tree ≡ db t.tree) where
  abbrev upsert_task : Task
  upsert_task = record { limit = limit; keys = Enforced; schema = schema; table = t; params = params }

  abbrev q : Program
  q = record { lets = []; body = update_query t.tree position project }

  -- whether a row of the table (the second argument) has the key of the new row (the first)
  abbrev pub hits : Row → Row → Bool
  hits new r = conflicts (Some target) schema.indexes t new r

  -- what the UPDATE reads for a new row and the row that is there: the parameters, the latter's rowid, and the new row
  abbrev pub given : Row → Row → Row
  given new r = params ++ rowid r ∷ shown t new

  -- from the old trees to the new ones, an upsert put this new row, or changed the row with its key
  abbrev pub Upserted : Row → Trees → Trees → Type 0
  Upserted new db next =
      (((r : Row) → Has (db t.tree) r → hits new r ≡ false) × Swaps schema t (hits new) (cast_row t new) db next)
      ⊎ ((r : Row) × Has (db t.tree) r × (hits new r ≡ true) × Swaps schema t (λ x. is_eq (value_cmp (rowid x) (rowid r))) (cast_row t (eval_all project (given new r ∷ r ∷ []))) db next)

  replaced_at : (r n : Row) (db next : Trees) → AreKeyedByRowid (db t.tree) → Has (db t.tree) r
      → Edited schema Enforced db (record { table = t; gone = id_in (rowid r) ∷ []; news = n ∷ [] }) (Ok next)
      → Swaps schema t (λ x. is_eq (value_cmp (rowid x) (rowid r))) n db next
  replaced_at r n db next keyed there h =
      let p = λ (x : Row). is_eq (value_cmp (rowid x) (rowid r)) in
      let rows = db t.tree in
      let found = (rowid r ∷ []) ∷ [] in
      let int : (x : Row) → Has rows x → is_int (rowid x) ≡ true = λ x k. all_has _ rows x keyed.ints k in
      let are : AreFound p rows found = record {
        sound = λ x k. elim k [ inl same ↦ (r, there, ap is_eq (tied_itself value_cmp_total (rowid r)), same) | inr none ↦ absurd none ];
        complete = λ x k same. inl (ap (λ v. v ∷ []) (same_ints (rowid x) (rowid r) (int x k) (int r there) same));
      } in
      let edit : Edit = record { table = t; gone = id_in (rowid r) ∷ []; news = n ∷ [] } in
      let done = one_step schema Enforced db next edit (unlinked (taken_by db edit) (n ∷ [])) h in
      let left = without_all rows (id_in (rowid r) ∷ []) in
      let is : next t.tree ≡ put_row n left = done.rows in
      record {
        there = subst (λ l. Has l n) (sym is) (has_put n left);
        from = λ x k. elim (put_has n left x (subst (λ l. Has l x) is k)) [ inl same ↦ inl same | inr was ↦ inr (was_there p rows found keyed are x was) ];
        kept = λ x k misses. subst (λ l. Has l x) (sym is) (put_all_keeps (n ∷ []) left x done.fresh (stays p rows found keyed are x k misses));
        keyed = subst AreKeyedByRowid (sym is) (keyed_put n left (keyed_without (ids_of found) rows keyed) (not-true _ (and_parts _ _ done.fresh).0) (and_parts _ _ done.keyed).0);
        others = λ u listed other. all_has _ schema.tables u done.tables listed other;
      }

  updates : (new : Row) (db : Trees) (r x : Row) (w : Written) → AreKeyedByRowid (db t.tree) → Has (db t.tree) r
      → x ≡ rowid r ∷ [] → column (given new r) position ≡ rowid r
      → Updates upsert_task q (params ++ rowid x ∷ shown t new) db (Ok w)
      → Swaps schema t (λ x. is_eq (value_cmp (rowid x) (rowid r))) (cast_row t (eval_all project (given new r ∷ r ∷ []))) db w.trees
  updates new db r x w keyed there is aimed h =
      let select_of = ok_step_did (subst (λ (y : Row). Updates upsert_task q (params ++ rowid y ∷ shown t new) db (Ok w)) is h) in
      let wrote = ok_step_did select_of.2 in
      let trees : w.trees ≡ wrote.0 = ap (λ (x : Written). x.trees) (same_value wrote.2) in
      let rows = update_finds_its_row t.tree position project db (overlay db []) (given new r) select_of.0 r keyed there aimed (plain db) (select_of.1.answer Null) in
      let edit = subst (λ l. Edited schema Enforced db (edit_of db t (ids_of l) Given 1 l) (Ok wrote.0)) rows wrote.1 in
      subst (Swaps schema t (λ x. is_eq (value_cmp (rowid x) (rowid r))) (cast_row t (eval_all project (given new r ∷ r ∷ []))) db) (sym trees) (replaced_at r _ db wrote.0 keyed there edit)

  met : (new : Row) (db : Trees) (w : Written) (found : List Row) → AreKeyedByRowid (db t.tree)
      → ((r : Row) → Has (db t.tree) r → column (given new r) position ≡ rowid r)
      → AreConflicts (Some target) schema.indexes t (db t.tree) new found
      → Meets upsert_task (Upserts upsert_task Abort new db []) new db (conflict_clause target q) found (Ok w)
      → Upserted new db w.trees
  met new db w [] keyed aimed are h =
      let put = puts schema t unlinked limit params new db w keyed (either h.0 h.2) in
      let clear : (r : Row) → Has (db t.tree) r → hits new r ≡ false = λ r was. elim (cases_Bool (hits new r)) [ inl hit ↦ absurd (are.complete r was hit) | inr miss ↦ miss ] in
      inl (
        clear,
        record {
          there = put.0;
          from = λ r there. elim (put.1 r there) [ inl same ↦ inl same | inr was ↦ inr (was, clear r was) ];
          kept = λ r there fails. put.2 r there;
          keyed = put.4;
          others = put.3;
        },
      )
    where
      either : (again : List Row) → Clears upsert_task Abort new db again (Ok w) → Puts upsert_task new db (Ok w)
      either [] k = k
      either (y ∷ more) k = k
  met new db w (x ∷ more) keyed aimed are h =
      let hit = are.sound x (inl refl) in
      inr (hit.0, hit.1, hit.2, updates new db hit.0 x w keyed hit.1 hit.3 (aimed hit.0 hit.1) h)

  -- where the rowids are integers, no two alike, an upsert that ran put the new row, or changed the row with its key
  pub upserts : (new : Row) (db : Trees) (w : Written) → AreKeyedByRowid (db t.tree)
      → ((r : Row) → Has (db t.tree) r → column (given new r) position ≡ rowid r)
      → Tries upsert_task Abort (conflict_clause target q ∷ []) new db (Ok w) → Upserted new db w.trees
  upserts new db w keyed aimed (inl refused) = absurd (let e = refused.1 in cc)
  upserts new db w keyed aimed (inr check_own_rows) = go check_own_rows.0 check_own_rows.2
    where
      go : (verdict : Option Refusal) → Judged upsert_task Abort (conflict_clause target q ∷ []) new db verdict (Ok w)
          → Upserted new db w.trees
      go None h = met new db w h.0 keyed aimed h.1 h.2
      go (Some why) h = absurd (let e = h in cc)
