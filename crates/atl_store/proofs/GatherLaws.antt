-- Laws on reading several tables one after another: each read sees the tables as they were before the first.
-- The connection is `old` before the first read, `mid` after some of them, and `new` after all. Of two lists of
-- SELECTs, `xs` is asked first, with the result `one`, and then `ys`, with `two`. `r` is the result of all reads, and
-- `P`, `Q` and `R` say what holds of what was found.
-- `o` is what all reads found: None if a value is of another type than its column. `g` is the kind of store.
use Rattle.std.proofs.Common.{◌≡◌, ◌≢◌, ◌⊎◌, ◌++◌, ℕ, List, [], ◌∷◌, Bool, true, false, not, true≢false, IsTrue, Option, Some, None, Result, Ok, Err, IfOk, IfErr, IsErrAnd, map, refl, sym, ◌∙◌, subst, inl, inr, arith}
use Rattle.std.specs.Option.{option_zip}
use Rattle.std.specs.declared.vec.Vec.{Vec}
use Rattle.sqlite_trees.specs.declared.store.Store.{Ghosts}
use Rattle.sqlite_schema.specs.declared.command.Returning.{Returning}
use Rattle.sqlite.specs.Effect.{Database}
use Rattle.sqlite.specs.Held.{Held, state}
use Rattle.sqlite.specs.Order.{Row}
use Rattle.sqlite.specs.State.{State, HasCleanDisk, Shown, ShowsRows}
use Rattle.sqlite_rules.specs.Lists.{Has}
use Rattle.sqlite_rules.proofs.ListLemmas.{has_left, has_right, has_either, test_has}
use Rattle.atl_world.specs.declared.format.Format.{Format}
use Rattle.atl_world.specs.declared.format.Format.TheVariants.{First, Second}
use Rattle.atl_store.specs.Gathering.{IsCommitted, rows_or_none, ReadRows, AreRows, AreAllRows, AreOfFormat, AreNone, second_format_parts, selects_by, FoundBySelects, AnswersOne, FailsToRead, ReadsSome}
use Rattle.atl_store.specs.Loading.{TablesStay, AfterReads, SelectShows, AllSelectsShow, AllSelectsShowTyped, HasOtherType, RefusesOne, other_parts, other_selects}
use Rattle.atl_sql.specs.Reading.{ReadsRows, GivesTable, Rests, Selects, RefusesToSelect}
use Rattle.atl_descriptions.specs.PartSelects.{select_of_part}
use Rattle.atl_columns.specs.Forms.{Form}
use Rattle.atl_sql.specs.Stored.{AreTyped}
use Rattle.atl_descriptions.specs.Tables.{Part, parts_in}
use Rattle.atl_sql.specs.declared.fault.ReadFault.{ReadFault}
use Rattle.atl_sql.specs.declared.fault.ReadFault.TheVariants as read
use Rattle.atl_store.specs.declared.fault.LoadFault.{LoadFault}
use Rattle.atl_store.specs.declared.fault.LoadFault.TheVariants.{Store, Damaged, NotACampaign, OtherFormat, Memory}
use Rattle.atl_sql.proofs.KeepLaws.{survives_more}
use Rattle.atl_sql.proofs.ListLaws.{has_map}
use Rattle.atl_sql.proofs.PartLaws.{is_among, not_among}
use Rattle.atl_sql.proofs.WriteLaws.{survives_start}
use Rattle.atl_store.proofs.PartsLaws.{every_part}

shows_open : (old new : State) (sql : List ℕ) (c : _) (row : Row) (rows : List Row) (what : Option Returning)
    → ShowsRows old new sql c row rows what → IsTrue old.is_open
shows_open old new sql c row rows None h = h.3.0.was_open
shows_open old new sql c row rows (Some what) h = h.1.shown.was_open

-- if a query showed rows, the connection was open before it
pub shown_open : (sql : List ℕ) (old new : State) (rows : List Row) → Shown sql [] old new rows → IsTrue old.is_open
unfolding Shown
shown_open sql old new rows h = shows_open old new sql h.0 _ rows h.0.returning h.2

not_store : read.Store ≢ read.OtherType
not_store is = cc

not_refused : read.Refused ≢ read.OtherType
not_refused is = cc

store_no_memory : read.Store ≢ read.Memory
store_no_memory is = cc

refused_no_memory : read.Refused ≢ read.Memory
refused_no_memory is = cc

each_of_both : {X : Type 0} (P : X → Type 0) (xs ys : List X) → ((x : X) → Has xs x → P x) → ((x : X) → Has ys x → P x)
    → (x : X) → Has (xs ++ ys) x → P x
each_of_both P xs ys first second x there = elim (has_either xs ys x there) [
  | inl one ↦ first x one
  | inr one ↦ second x one
]

each_of_one : {X : Type 0} (P : X → Type 0) (x : X) → P x → (y : X) → Has (x ∷ []) y → P y
each_of_one P x p y (inl same) = subst P (sym same) p
each_of_one P x p y (inr none) = absurd none

module _ {S : Type 0} (g : Ghosts S) where
  -- without any read the connection is as after reads, if it is in no transaction
  pub leaves_none : (old : Held S) → old.in_transaction ≡ false → AfterReads g old old
  leaves_none old idle = record {
    stays = λ _. record { was_open = λ up. up; same = λ up. (refl, refl) };
    survives = survives_start (state g old);
    idle = idle;
  }

  -- reads after reads are reads (`AfterReads`): on a clean disk both together leave the tables as they were
  pub leaves_then : (old mid new : Held S) → AfterReads g old mid → AfterReads g mid new → AfterReads g old new
  leaves_then old mid new one two = record {
    stays = λ clean.
        let first = one.stays (omega (arith, two.survives.clean)) in
        let second = two.stays clean in
        record {
          was_open = λ up. first.was_open (second.was_open up);
          same = λ up. let a = first.same (second.was_open up) in let b = second.same up in (b.0 ∙ a.0, b.1 ∙ a.1);
        };
    survives = survives_more (state g old) (state g mid) (state g new) one.survives two.survives;
    idle = two.idle;
  }

  -- if the tables were those of the last commit before reads, they are so after them (`IsCommitted`)
  pub settled_then : (old new : Held S) → IsCommitted (state g old) → AfterReads g old new → IsCommitted (state g new)
  settled_then old new settled leaves clean up =
      let stays = leaves.stays clean in
      let same = stays.same up in
      same.0 ∙ settled (omega (arith, leaves.survives.clean, clean)) (stays.was_open up) ∙ sym same.1

  -- on a clean disk, tables that are as before or as last committed (`Rests`) are as before, if all was committed
  rests_stays : (old new : State) → IsCommitted old → HasCleanDisk old → Rests old new → TablesStay old new
  rests_stays old new settled clean rests = record {
    was_open = rests.was_open;
    same = λ up. let back = rests.same up in (elim back.0 [ inl last ↦ last ∙ sym (settled clean (rests.was_open up)) | inr same ↦ same ], back.1);
  }

  -- ---- one table

  -- `sql` is the SELECT of the table of `part`, `forms` are the forms of its columns, and `shown` gives the row as SQL
  -- shows it of one that was read. Before the read the connection is in no transaction (`idle`) and, on a clean disk,
  -- all is committed (`settled`).
  module _ {A : Type 0} (sql : List ℕ) (forms : List Form) (shown : A → Row) (part : Part) (old new : Held S) (settled : IsCommitted (state g old)) (idle : old.in_transaction ≡ false) where
    abbrev this_select : List (List ℕ × List Form)
    this_select = (sql, forms) ∷ []

    shows_rows : (rows : List Row) → Selects g sql old rows → SelectShows g old sql rows
    shows_rows rows says = record { before = says.0; during = says.1; same = says.2.same; shown = says.3 }

    selects_open : (rows : List Row) → Selects g sql old rows → IsTrue (state g old).is_open
    selects_open rows says = says.2.was_open (shown_open sql _ _ rows says.3)

    -- on a clean disk, a read of one table without a fault found all rows, or a value of another type than its column
    found_one : {Z : Type 0} (r : Result (Vec A Z) ReadFault) → ReadsRows g sql old forms shown r new
        → GivesTable g (select_of_part part).since (select_of_part part).in_table shown r old new
        → HasCleanDisk (state g new)
        → IfOk (rows_or_none r) (FoundBySelects g old this_select (λ all. AreAllRows (state g old).now ((part, map shown all.items) ∷ [])))
    found_one (Ok all) reads gives clean =
        let says = reads.rows clean in
        (each_of_one (λ s. (rows : List Row) × SelectShows g old s.0 rows × AreTyped s.1 rows) (sql, forms) (says.0, shows_rows says.0 says.1, says.3), each_of_one (λ read. AreRows (state g old).now read.0 read.1) (part, map shown all.items) (gives clean))
    found_one (Err read.OtherType) reads gives clean =
        let says = reads.other clean refl in
        record {
          all = each_of_one (λ s. (rows : List Row) × SelectShows g old s.0 rows) (sql, forms) (says.0, shows_rows says.0 says.1);
          select = (sql, forms);
          one = inl refl;
          rows = says.0;
          shows = shows_rows says.0 says.1;
          other = says.2;
        }
    found_one (Err read.Memory) reads gives clean = tt
    found_one (Err read.Store) reads gives clean = tt
    found_one (Err read.Refused) reads gives clean = tt

    open_one : {Z : Type 0} (r : Result (Vec A Z) ReadFault) → ReadsRows g sql old forms shown r new
        → HasCleanDisk (state g new) → IfOk (rows_or_none r) (λ _. IsTrue (state g old).is_open)
    open_one (Ok all) reads clean = let says = reads.rows clean in selects_open says.0 says.1
    open_one (Err read.OtherType) reads clean = let says = reads.other clean refl in selects_open says.0 says.1
    open_one (Err read.Memory) reads clean = tt
    open_one (Err read.Store) reads clean = tt
    open_one (Err read.Refused) reads clean = tt

    refuses : (fault : ReadFault) → RefusesToSelect g sql old fault → RefusesOne g old this_select fault
    refuses fault refused = record { select = (sql, forms); one = inl refl; before = old; leaves = leaves_none old idle; refused = refused }

    may_lack_memory : RefusesToSelect g sql old read.Memory ⊎ ((rows : List Row) × Selects g sql old rows)
        → FailsToRead g old this_select Memory
    may_lack_memory (inl refused) = inl (refuses read.Memory refused)
    may_lack_memory (inr says) = inr (record { select = (sql, forms); one = inl refl; before = old; leaves = leaves_none old idle; rows = says.0; answered = says.1 })

    fails_one : {Z : Type 0} (r : Result (Vec A Z) ReadFault) → ReadsRows g sql old forms shown r new
        → HasCleanDisk (state g new) → IfErr (rows_or_none r) (FailsToRead g old this_select)
    fails_one (Ok all) reads clean = tt
    fails_one (Err read.OtherType) reads clean = tt
    fails_one (Err read.Memory) reads clean = may_lack_memory (reads.memory clean refl)
    fails_one (Err read.Store) reads clean = inl (refuses read.Store (reads.refused clean not_store store_no_memory))
    fails_one (Err read.Refused) reads clean = inr (refuses read.Refused (reads.refused clean not_refused refused_no_memory))

    -- a read of one table with the result `r` (`ReadsRows`, `GivesTable`) is one by the list with its SELECT alone
    -- (`ReadsSome`), with the result that loading makes of `r`
    pub reads_one : {Z : Type 0} (r : Result (Vec A Z) ReadFault) → ReadsRows g sql old forms shown r new
        → GivesTable g (select_of_part part).since (select_of_part part).in_table shown r old new
        → (kept : Result (Option (Vec A Z)) LoadFault) → kept ≡ rows_or_none r
        → ReadsSome g old this_select (λ all. AreAllRows (state g old).now ((part, map shown all.items) ∷ [])) kept new
    reads_one r reads gives kept is = record {
      was_open = λ clean. subst (λ k. IfOk k (λ _. IsTrue (state g old).is_open)) (sym is) (open_one r reads clean);
      found = λ clean. subst (λ k. IfOk k (FoundBySelects g old this_select (λ all. AreAllRows (state g old).now ((part, map shown all.items) ∷ [])))) (sym is) (found_one r reads gives clean);
      fails = λ clean. subst (λ k. IfErr k (FailsToRead g old this_select)) (sym is) (fails_one r reads clean);
      leaves = record {
        stays = λ clean. rests_stays (state g old) (state g new) settled (omega (arith, reads.survives.clean, clean)) (reads.rests clean);
        survives = reads.survives;
        idle = reads.idle;
      };
    }

  -- ---- two stages, of which the second begins where the first ended

  module _ (old mid : Held S) (same : (state g mid).now ≡ (state g old).now) where
    shows_then : (sql : List ℕ) (rows : List Row) → SelectShows g mid sql rows → SelectShows g old sql rows
    shows_then sql rows says = record { before = says.before; during = says.during; same = says.same ∙ same; shown = says.shown }

    all_show_then : (selects : List (List ℕ × List Form)) → AllSelectsShow g mid selects → AllSelectsShow g old selects
    all_show_then selects all select one = let says = all select one in (says.0, shows_then select.0 says.0 says.1)

    found_then : {A : Type 0} (selects : List (List ℕ × List Form)) (P Q : A → Type 0) (o : Option A)
        → ((a : A) → P a → Q a) → FoundBySelects g mid selects P o → FoundBySelects g old selects Q o
    found_then selects P Q (Some a) weaker found = (λ select one. let says = found.0 select one in (says.0, shows_then select.0 says.0 says.1, says.2), weaker a found.1)
    found_then selects P Q None weaker found = record {
      all = all_show_then selects found.all;
      select = found.select;
      one = found.one;
      rows = found.rows;
      shows = shows_then found.select.0 found.rows found.shows;
      other = found.other;
    }

  refuses_then : (old mid : Held S) → AfterReads g old mid → (selects : List (List ℕ × List Form)) (fault : ReadFault)
      → RefusesOne g mid selects fault → RefusesOne g old selects fault
  refuses_then old mid first selects fault refused = record {
    select = refused.select;
    one = refused.one;
    before = refused.before;
    leaves = leaves_then old mid refused.before first refused.leaves;
    refused = refused.refused;
  }

  answers_then : (old mid : Held S) → AfterReads g old mid → (selects : List (List ℕ × List Form))
      → AnswersOne g mid selects → AnswersOne g old selects
  answers_then old mid first selects answers = record {
    select = answers.select;
    one = answers.one;
    before = answers.before;
    leaves = leaves_then old mid answers.before first answers.leaves;
    rows = answers.rows;
    answered = answers.answered;
  }

  -- a fault of reading by `selects` after other reads is one that reading by them may return from the start
  pub fails_then : (old mid : Held S) → AfterReads g old mid → (selects : List (List ℕ × List Form)) (fault : LoadFault)
      → FailsToRead g mid selects fault → FailsToRead g old selects fault
  fails_then old mid first selects Store (inl refused) = inl (refuses_then old mid first selects read.Store refused)
  fails_then old mid first selects Store (inr refused) = inr (refuses_then old mid first selects read.Refused refused)
  fails_then old mid first selects (Damaged rule) fails = fails
  fails_then old mid first selects NotACampaign fails = fails
  fails_then old mid first selects OtherFormat fails = fails
  fails_then old mid first selects Memory (inl refused) = inl (refuses_then old mid first selects read.Memory refused)
  fails_then old mid first selects Memory (inr answers) = inr (answers_then old mid first selects answers)

  -- each SELECT of the list `few` is in the list `more`
  module _ (old : Held S) (few more : List (List ℕ × List Form)) (within : (select : List ℕ × List Form) → Has few select → Has more select) where
    refuses_within : (fault : ReadFault) → RefusesOne g old few fault → RefusesOne g old more fault
    refuses_within fault refused = record { select = refused.select; one = within refused.select refused.one; before = refused.before; leaves = refused.leaves; refused = refused.refused }

    answers_within : AnswersOne g old few → AnswersOne g old more
    answers_within answers = record { select = answers.select; one = within answers.select answers.one; before = answers.before; leaves = answers.leaves; rows = answers.rows; answered = answers.answered }

    fails_within : (fault : LoadFault) → FailsToRead g old few fault → FailsToRead g old more fault
    fails_within Store (inl refused) = inl (refuses_within read.Store refused)
    fails_within Store (inr refused) = inr (refuses_within read.Refused refused)
    fails_within (Damaged rule) fails = fails
    fails_within NotACampaign fails = fails
    fails_within OtherFormat fails = fails
    fails_within Memory (inl refused) = inl (refuses_within read.Memory refused)
    fails_within Memory (inr answers) = inr (answers_within answers)

    other_within : AllSelectsShow g old more → HasOtherType g old few → HasOtherType g old more
    other_within all other = record { all = all; select = other.select; one = within other.select other.one; rows = other.rows; shows = other.shows; other = other.other }

  typed_shows : (old : Held S) (selects : List (List ℕ × List Form)) → AllSelectsShowTyped g old selects
      → AllSelectsShow g old selects
  typed_shows old selects typed select one = let says = typed select one in (says.0, says.1)

  found_both : {A B : Type 0} (xs ys : List (List ℕ × List Form)) (P : A → Type 0) (Q : B → Type 0) (old : Held S) (a : Option A) (b : Option B)
      → FoundBySelects g old xs P a → FoundBySelects g old ys Q b
      → FoundBySelects g old (xs ++ ys) (λ x. P x.0 × Q x.1) (option_zip a b)
  found_both xs ys P Q old (Some a) (Some b) p q = (each_of_both (λ s. (rows : List Row) × SelectShows g old s.0 rows × AreTyped s.1 rows) xs ys p.0 q.0, (p.1, q.1))
  found_both xs ys P Q old (Some a) None p q = other_within old ys (xs ++ ys) (has_right xs ys) (each_of_both (λ s. (rows : List Row) × SelectShows g old s.0 rows) xs ys (typed_shows old xs p.0) q.all) q
  found_both xs ys P Q old None (Some b) p q = other_within old xs (xs ++ ys) (has_left xs ys) (each_of_both (λ s. (rows : List Row) × SelectShows g old s.0 rows) xs ys p.all (typed_shows old ys q.0)) p
  found_both xs ys P Q old None None p q = other_within old xs (xs ++ ys) (has_left xs ys) (each_of_both (λ s. (rows : List Row) × SelectShows g old s.0 rows) xs ys p.all q.all) p

  -- on a clean disk, what reads after `mid` found with `P` was found with `Q` in the tables of `old`, if `P` gives `Q`
  found_before : {A : Type 0} (old mid new : Held S) → AfterReads g old mid
      → (selects : List (List ℕ × List Form)) (P Q : A → Type 0) (r : Result (Option A) LoadFault)
      → ReadsSome g mid selects P r new → (o : Option A) → r ≡ Ok o
      → ((state g mid).now ≡ (state g old).now → (a : A) → P a → Q a) → HasCleanDisk (state g new) → FoundBySelects g old selects Q o
  found_before old mid new before selects P Q r reads o was weaker clean =
      let up = subst (λ r. IfOk r (λ _. IsTrue (state g mid).is_open)) was (reads.was_open clean) in
      let same = ((before.stays (omega (arith, reads.leaves.survives.clean, clean))).same up).0 in
      found_then old mid same selects P Q o (weaker same) (subst (λ r. IfOk r (FoundBySelects g mid selects P)) was (reads.found clean))

  reads_as : {A : Type 0} (selects : List (List ℕ × List Form)) (P Q : A → Type 0) (old new : Held S) (r : Result (Option A) LoadFault)
      → ((a : A) → P a → Q a) → ReadsSome g old selects P r new → ReadsSome g old selects Q r new
  reads_as {A} selects P Q old new r weaker reads = record { was_open = reads.was_open; found = λ clean. found r (reads.found clean); fails = reads.fails; leaves = reads.leaves }
    where
      found : (r : Result (Option A) LoadFault) → IfOk r (FoundBySelects g old selects P)
          → IfOk r (FoundBySelects g old selects Q)
      found (Ok (Some a)) h = (h.0, weaker a h.1)
      found (Ok None) h = h
      found (Err fault) h = tt

  -- a fault of reading by the first list of SELECTs, `xs`, is also one of reading by both lists
  pub first_fails : {A B : Type 0} (xs ys : List (List ℕ × List Form)) (P : A → Type 0) (Q : B → Type 0) (old new : Held S) (fault : LoadFault) (one : Result (Option A) LoadFault) (r : Result (Option B) LoadFault)
      → ReadsSome g old xs P one new → one ≡ Err fault → IsErrAnd r (λ says. says ≡ fault) → ReadsSome g old (xs ++ ys) Q r new
  first_fails xs ys P Q old new fault one (Ok o) first was says = absurd says
  first_fails xs ys P Q old new fault one (Err f) first was says = record {
    was_open = λ _. tt;
    found = λ _. tt;
    fails = λ clean. subst (FailsToRead g old (xs ++ ys)) (sym says) (fails_within old xs (xs ++ ys) (has_left xs ys) fault (subst (λ r. IfErr r (FailsToRead g old xs)) was (first.fails clean)));
    leaves = first.leaves;
  }

  -- reading by `xs` ended at `mid` without a fault, and found `a`; reading by `ys` begins there
  module _ {A B : Type 0} (xs ys : List (List ℕ × List Form)) (P : A → Type 0) (Q : B → Type 0) (old mid new : Held S) (one : Result (Option A) LoadFault) (two : Result (Option B) LoadFault)
      (first : ReadsSome g old xs P one mid) (second : ReadsSome g mid ys Q two new) (a : Option A) (was_first : one ≡ Ok a) where
    -- if reading by the first list succeeds, a fault of reading by the second, `ys`, is one of reading by both
    pub second_fails : {C : Type 0} (R : C → Type 0) (fault : LoadFault) (r : Result (Option C) LoadFault)
        → two ≡ Err fault → IsErrAnd r (λ says. says ≡ fault) → ReadsSome g old (xs ++ ys) R r new
    second_fails R fault (Ok o) was says = absurd says
    second_fails R fault (Err f) was says = record {
      was_open = λ _. tt;
      found = λ _. tt;
      fails = λ clean.
          subst (FailsToRead g old (xs ++ ys)) (sym says)
          (fails_within old ys (xs ++ ys) (has_right xs ys) fault (fails_then old mid first.leaves ys fault (subst (λ r. IfErr r (FailsToRead g mid ys)) was (second.fails clean))));
      leaves = leaves_then old mid new first.leaves second.leaves;
    }

    reads_both : (Q2 : B → Type 0) (b : Option B) → two ≡ Ok b
        → ((state g mid).now ≡ (state g old).now → (b : B) → Q b → Q2 b) → (o : Option (A × B)) → o ≡ option_zip a b
        → ReadsSome g old (xs ++ ys) (λ x. P x.0 × Q2 x.1) (Ok o) new
    reads_both Q2 b was weaker o is = record {
      was_open = λ clean. subst (λ r. IfOk r (λ _. IsTrue (state g old).is_open)) was_first (first.was_open (clean_mid clean));
      found = λ clean.
          subst (FoundBySelects g old (xs ++ ys) _) (sym is) (found_both xs ys P Q2 old a b
          (subst (λ r. IfOk r (FoundBySelects g old xs P)) was_first (first.found (clean_mid clean)))
          (found_before old mid new first.leaves ys Q Q2 two second b was weaker clean));
      fails = λ _. tt;
      leaves = leaves_then old mid new first.leaves second.leaves;
    }
      where
        clean_mid : HasCleanDisk (state g new) → HasCleanDisk (state g mid)
        clean_mid clean = omega (arith, second.leaves.survives.clean, clean)

  -- if both succeed, reading all rows of some tables and then of others reads all rows of both; `some` and `others`
  -- give the rows of what was read, by part
  pub both_read : {A B : Type 0} (xs ys : List (List ℕ × List Form)) (some : A → ReadRows) (others : B → ReadRows) (old mid new : Held S) (one : Result (Option A) LoadFault) (two : Result (Option B) LoadFault)
      → ReadsSome g old xs (λ a. AreAllRows (state g old).now (some a)) one mid → ReadsSome g mid ys (λ b. AreAllRows (state g mid).now (others b)) two new
      → (a : Option A) → one ≡ Ok a → (b : Option B) → two ≡ Ok b → (o : Option (A × B)) → o ≡ option_zip a b → ReadsSome g old (xs ++ ys) (λ x. AreAllRows (state g old).now (some x.0 ++ others x.1)) (Ok o) new
  both_read xs ys some others old mid new one two first second a was_first b was o is =
      reads_as (xs ++ ys) _ _ old new (Ok o) (λ x are. each_of_both (λ read. AreRows (state g old).now read.0 read.1) (some x.0) (others x.1) are.0 are.1)
      (reads_both xs ys (λ a. AreAllRows (state g old).now (some a)) (λ b. AreAllRows (state g mid).now (others b)) old mid new one two first second a was_first (λ b. AreAllRows (state g old).now (others b)) b was
      (λ same b are. subst (λ (db : Database). AreAllRows db (others b)) same are) o is)

  -- ---- by the format

  found_with : {A B : Type 0} (old : Held S) (selects : List (List ℕ × List Form)) (P : A → Type 0) (Q : A × B → Type 0) (b : B)
      → ((a : A) → P a → Q (a, b)) → (o : Option A) → FoundBySelects g old selects P o
      → FoundBySelects g old selects Q (option_zip o (Some b))
  found_with old selects P Q b weaker (Some a) found = (found.0, weaker a found.1)
  found_with old selects P Q b weaker None found = found

  -- if `some` has all rows of the first format's parts, and `others` no row of the other parts, both together are rows
  -- of that format
  of_first : (db : Database) (some others : ReadRows) → AreAllRows db some
      → map (λ read. read.0) some ≡ other_parts First → AreNone others
      → map (λ read. read.0) others ≡ second_format_parts → AreOfFormat First db (some ++ others)
  of_first db some others are early none late = record {
    each =
        each_of_both (λ read. (Has (parts_in First) read.0 × AreRows db read.0 read.1) ⊎ ((¬ Has (parts_in First) read.0) × (read.1 ≡ []))) some others (λ read there. inl (inr (is_there some (other_parts First) early read there), are read there))
        (λ read there. inr (not_early read.0 (is_there others second_format_parts late read there), none read there));
  }
    where
      is_there : (reads : ReadRows) (parts : List Part) → map (λ read. read.0) reads ≡ parts → (read : Part × List Row)
          → Has reads read → Has parts read.0
      is_there reads parts same read there = subst (λ l. Has l read.0) same (has_map (λ (read : Part × List Row). read.0) reads read there)

      no : (b : Bool) → not b ≡ true → b ≡ false
      no true is = absurd (true≢false (sym is))
      no false is = refl

      not_early : (part : Part) → Has second_format_parts part → ¬ Has (parts_in First) part
      not_early part there = not_among (parts_in First) part (no (is_among (parts_in First) part) (test_has (λ p. not (is_among (parts_in First) p)) second_format_parts part refl there))

  -- in the first format: if all rows of its parts are read (`some`), and no row is taken of the others (`others`), each
  -- part has the rows that the format gives it (`AreOfFormat`)
  pub reads_first : {A B : Type 0} (selects : List (List ℕ × List Form)) (some : A → ReadRows) (others : B → ReadRows) (old new : Held S) (one : Result (Option A) LoadFault)
      → ReadsSome g old selects (λ a. AreAllRows (state g old).now (some a)) one new
      → (a : Option A) → one ≡ Ok a → (b : B) → AreNone (others b) → ((a : A) → map (λ read. read.0) (some a) ≡ other_parts First) → map (λ read. read.0) (others b) ≡ second_format_parts
      → (o : Option (A × B)) → o ≡ option_zip a (Some b) → ReadsSome g old selects (λ x. AreOfFormat First (state g old).now (some x.0 ++ others x.1)) (Ok o) new
  reads_first selects some others old new one first a was b none early late o is = record {
    was_open = λ clean. subst (λ r. IfOk r (λ _. IsTrue (state g old).is_open)) was (first.was_open clean);
    found = λ clean.
        subst (FoundBySelects g old selects (λ x. AreOfFormat First (state g old).now (some x.0 ++ others x.1))) (sym is)
        (found_with old selects (λ a. AreAllRows (state g old).now (some a)) (λ x. AreOfFormat First (state g old).now (some x.0 ++ others x.1)) b
        (λ a are. of_first (state g old).now (some a) (others b) are (early a) none late) a (subst (λ r. IfOk r (FoundBySelects g old selects (λ a. AreAllRows (state g old).now (some a)))) was (first.found clean)));
    fails = λ _. tt;
    leaves = first.leaves;
  }

  -- in the second format: if all rows of the parts are read, each has the rows that the format gives it (`AreOfFormat`)
  pub reads_second : {A : Type 0} (selects : List (List ℕ × List Form)) (rows : A → ReadRows) (old new : Held S) (r : Result (Option A) LoadFault)
      → ReadsSome g old selects (λ a. AreAllRows (state g old).now (rows a)) r new
      → ReadsSome g old selects (λ a. AreOfFormat Second (state g old).now (rows a)) r new
  reads_second selects rows old new r reads = reads_as selects _ _ old new r (λ a are. record { each = λ read there. inl (every_part read.0, are read there) }) reads

  -- a fault of reading by `selects` is also one of reading by them to find something else (`Q`)
  pub fails_as : {A B : Type 0} (selects : List (List ℕ × List Form)) (P : A → Type 0) (Q : B → Type 0) (old new : Held S) (fault : LoadFault) (one : Result (Option A) LoadFault) (r : Result (Option B) LoadFault)
      → ReadsSome g old selects P one new → one ≡ Err fault → IsErrAnd r (λ says. says ≡ fault) → ReadsSome g old selects Q r new
  fails_as selects P Q old new fault one (Ok o) first was says = absurd says
  fails_as selects P Q old new fault one (Err f) first was says = record {
    was_open = λ _. tt;
    found = λ _. tt;
    fails = λ clean. subst (FailsToRead g old selects) (sym says) (subst (λ r. IfErr r (FailsToRead g old selects)) was (first.fails clean));
    leaves = first.leaves;
  }

  -- what reading in the format `is` gives, reading in `f` gives, which is the same format
  pub reads_by : {A : Type 0} (some others : List (List ℕ × List Form)) (rows : A → ReadRows) (old new : Held S) (r : Result (Option A) LoadFault) (f is : Format)
      → f ≡ is
      → ReadsSome g old (selects_by is some others) (λ a. AreOfFormat is (state g old).now (rows a)) r new → ReadsSome g old (selects_by f some others) (λ a. AreOfFormat f (state g old).now (rows a)) r new
  reads_by some others rows old new r f is same reads = subst (λ f. ReadsSome g old (selects_by f some others) (λ a. AreOfFormat f (state g old).now (rows a)) r new) (sym same) reads

  -- what was found by reading after other reads is so of the tables as they were before these, on a clean disk
  pub format_before : {A : Type 0} (f : Format) (rows : A → ReadRows) (old mid new : Held S) → AfterReads g old mid
      → (selects : List (List ℕ × List Form)) (r : Result (Option A) LoadFault)
      → ReadsSome g mid selects (λ a. AreOfFormat f (state g mid).now (rows a)) r new → (o : Option A) → r ≡ Ok o
      → HasCleanDisk (state g new) → FoundBySelects g old selects (λ a. AreOfFormat f (state g old).now (rows a)) o
  format_before f rows old mid new before selects r reads o was clean =
      found_before old mid new before selects (λ a. AreOfFormat f (state g mid).now (rows a)) (λ a. AreOfFormat f (state g old).now (rows a)) r reads o was (λ same a are. subst (λ (db : Database). AreOfFormat f db (rows a)) same are) clean

-- if neither of two lists of parts has a row, both together have none
pub both_none : (some others : ReadRows) → AreNone some → AreNone others → AreNone (some ++ others)
both_none some others first second = each_of_both (λ read. read.1 ≡ []) some others first second

-- `selects_by` gives the SELECTs of all tables of a format but `campaign`, if `some` are those of the first format, and
-- `some` with `others` those of the second
same_selects : (some others : List (List ℕ × List Form)) → some ≡ other_selects First
    → some ++ others ≡ other_selects Second → (f : Format) → selects_by f some others ≡ other_selects f
same_selects some others first second First = first
same_selects some others first second Second = second

-- To read by `some` and, in the second format, by `others` is to read all tables of the format but `campaign`. For this
-- `some` are the SELECTs of those of the first format, and `others` those that the second has besides.
pub reads_others : {A S : Type 0} (g : Ghosts S) (some others : List (List ℕ × List Form)) (P : A → Type 0) (old new : Held S) (r : Result (Option A) LoadFault) (f : Format)
    → some ≡ other_selects First → some ++ others ≡ other_selects Second
    → ReadsSome g old (selects_by f some others) P r new → ReadsSome g old (other_selects f) P r new
reads_others g some others P old new r f first second reads = subst (λ selects. ReadsSome g old selects P r new) (same_selects some others first second f) reads
