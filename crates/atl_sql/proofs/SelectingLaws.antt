-- Laws on a SELECT inside a transaction: what it leaves, and what is left once the transaction is rolled back.
-- `rows` are the rows that it shows, and `e` is the error of a SELECT that is refused. `r` is the result of the call
-- that reads, and `g` the kind of store. `KeepsCommit` says that nothing was committed, if the connection is open.
-- `Asks` promises that Ok has the rows that the SELECT shows, and Err the fault of its refusal; `ReadsRows` promises it
-- of rows read by their forms.
use Rattle.std.proofs.Common.{◌≡◌, ◌≢◌, ◌≤◌, ◌⊎◌, ℕ, Bool, List, [], true, false, cond, IsTrue, Option, Some, None, Result, Ok, Err, IsErrAnd, IfOk, IfErr, map, length, refl, sym, ap, ◌∙◌, subst, inl, inr, arith}
use Rattle.std.specs.declared.vec.Vec.{Vec}
use Rattle.sqlite_trees.specs.declared.store.Store.{Ghosts}
use Rattle.sqlite_schema.specs.declared.command.Returning.{Returning}
use Rattle.sqlite.specs.declared.error.Error.{Error}
use Rattle.sqlite.specs.Held.{Held, state}
use Rattle.sqlite.specs.Order.{Row}
use Rattle.sqlite.specs.State.{State, HasCleanDisk, Survives, KeepsCommit, IsRolledBack, Writes, Shown, ShowsRows, FailsToQuery, FailsToShow, IsNotRun, IsTooLate}
use Rattle.sqlite.proofs.InsideLemmas.{unchanged_keeps}
use Rattle.sqlite.proofs.Callers.{survives_begin}
use Rattle.atl_sql.specs.Errors.{is_memory, is_failure, read_fault}
use Rattle.atl_sql.specs.Reading.{Rests, IsAsked, Asks, ReadsRows, RefusesToSelect}
use Rattle.atl_columns.specs.Forms.{Form}
use Rattle.atl_sql.specs.Stored.{first_columns, AreTyped}
use Rattle.atl_sql.specs.declared.fault.ReadFault.{ReadFault}
use Rattle.atl_sql.specs.declared.fault.ReadFault.TheVariants.{Store, Refused, Memory, OtherType}
use Rattle.atl_sql.proofs.KeepLaws.{survives_more, if_ok, if_err}

-- a statement `sql` with these parameters leads from `old`, which is inside a transaction, to `new`
module _ (old new : State) (inside : IsTrue old.in_transaction) (sql : List ℕ) (params : Row) where
  writes_keep : (what : Option Returning) (command : _) (text : List ℕ) (row : Row) (count : ℕ)
      → Writes old new what command text row count → KeepsCommit old new
  writes_keep what command text row count w = record { was_open = λ _. w.shown.was_open; committed = λ _. w.shown.committed_is ∙ ap (λ b. cond b old.committed new.now) inside }

  shows_keep : (c : _) (row : Row) (rows : List Row) (what : Option Returning) → ShowsRows old new sql c row rows what
      → KeepsCommit old new
  shows_keep c row rows None h = unchanged_keeps old new (inl h.3)
  shows_keep c row rows (Some what) h = writes_keep (Some what) _ _ row h.0 h.1

  -- a query that shows its rows commits nothing
  pub shown_keeps : (rows : List Row) → Shown sql params old new rows → KeepsCommit old new
  unfolding Shown
  shown_keeps rows h = shows_keep h.0 _ rows h.0.returning h.2

  fails_keep : (c : _) (row : Row) (e : Error) (what : Option Returning) → FailsToShow old new sql c row e what
      → KeepsCommit old new
  fails_keep c row e None h = unchanged_keeps old new (inl h.3)
  fails_keep c row e (Some what) (inl h) = unchanged_keeps old new (inl h.1)
  fails_keep c row e (Some what) (inr h) = unchanged_keeps old new (inr h.3)

  -- a refused query commits nothing, also one that needs a transaction where none is open (`IsTooLate`)
  pub refused_keeps : (e : Error) → FailsToQuery sql params old new e ⊎ IsTooLate sql params old new e
      → KeepsCommit old new
  unfolding FailsToQuery IsNotRun
  refused_keeps e (inl (inl (inl h))) = unchanged_keeps old new (inl h.1)
  refused_keeps e (inl (inl (inr h))) = unchanged_keeps old new (inr h.3)
  refused_keeps e (inl (inr h)) = fails_keep h.0 _ e h.0.returning h.2
  refused_keeps e (inr h) = unchanged_keeps old new (inl h.5)

-- ---- once the transaction is rolled back

pub no_fewer : (faults : ℕ) → faults ≤ faults
no_fewer faults = omega arith

-- The connection is `old` at first, `begun` once a transaction has begun, `mid` after the SELECT, and `end` after the
-- rollback, outside a transaction. Premises: after each step a crash leaves nothing new, and no failure is forgotten
-- (`Survives`). On a clean disk the rollback undoes all.
module _ {S : Type 0} (g : Ghosts S) (sql : List ℕ) (old begun mid end : Held S) (begins : begun ≡ record old { in_transaction = true }) (ended : end.in_transaction ≡ false)
    (one : Survives (state g begun) (state g mid) (λ _. ⊥)) (back : HasCleanDisk (state g end) → IsRolledBack (state g mid) (state g end)) (two : Survives (state g mid) (state g end) (λ _. ⊥)) where
  begun_inside : IsTrue (state g begun).in_transaction
  begun_inside = ap (λ (h : Held S). h.in_transaction) begins

  survived : Survives (state g old) (state g end) (λ _. ⊥)
  survived = survives_begin g old (state g end) _ (subst (λ h. Survives (state g h) (state g end) (λ _. ⊥)) begins (survives_more (state g begun) (state g mid) (state g end) one two))

  -- if the SELECT committed nothing and the disk is clean, the rollback leaves the tables of the last commit, and a
  -- connection that is open only if it was before (`Rests`)
  rests : (HasCleanDisk (state g mid) → KeepsCommit (state g begun) (state g mid)) → HasCleanDisk (state g end)
      → Rests (state g old) (state g end)
  rests keeps clean =
      let kept = subst (λ h. KeepsCommit (state g h) (state g mid)) begins (keeps (omega (arith, two.clean))) in
      let rolled = back clean in
      record {
        was_open = λ up. kept.was_open (rolled.was_open up);
        same = λ up. let was = rolled.undone up in let same = kept.committed (rolled.was_open up) in (inl (was.0 ∙ same), was.1 ∙ same);
      }

  asked_after_begin : IsAsked (state g old) (state g begun)
  asked_after_begin = subst (λ h. IsAsked (state g old) (state g h)) (sym begins) (record { was_open = λ up. up; is_open = λ up. up; same = refl; limit = refl; faults = no_fewer (state g old).faults })

  -- if the SELECT showed rows, and these are the result, it was asked as promised (`Asks`)
  pub showed : {Z : Type 0} (rows : Vec Row Z) → (HasCleanDisk (state g mid) → Shown sql [] (state g begun) (state g mid) rows.items) → Asks g sql old {Z = Z} (Ok rows) end
  showed rows ok = record {
    rows = λ clean. (begun, mid, asked_after_begin, ok (omega (arith, two.clean)));
    refused = λ _. tt;
    rests = rests (λ before. shown_keeps _ _ begun_inside sql [] rows.items (ok before));
    survives = survived;
    idle = ended;
  }

  -- a SELECT that is refused inside the transaction failed as a query, and not because none was open (`IsTooLate`)
  not_late : (e : Error)
      → FailsToQuery sql [] (state g begun) (state g mid) e ⊎ IsTooLate sql [] (state g begun) (state g mid) e
      → FailsToQuery sql [] (state g begun) (state g mid) e
  not_late e (inl failed) = failed
  not_late e (inr late) = absurd (let no = sym begun_inside ∙ late.3 in cc)

  was_refused : {Z : Type 0} (e : Error) (fault : ReadFault) → fault ≡ read_fault e → (HasCleanDisk (state g mid) → FailsToQuery sql [] (state g begun) (state g mid) e ⊎ IsTooLate sql [] (state g begun) (state g mid) e) → Asks g sql old {Z = Z} (Err fault) end
  was_refused e fault is err = record {
    rows = λ _. tt;
    refused = λ clean. (begun, mid, e, asked_after_begin, not_late e (err (omega (arith, two.clean))), is);
    rests = rests (λ before. refused_keeps _ _ begun_inside sql [] e (err before));
    survives = survived;
    idle = ended;
  }

  -- if the SELECT was refused with the error `e`, whose fault is the result `r`, it was asked as promised (`Asks`)
  pub says : {Z : Type 0} (e : Error) (r : Result (Vec Row Z) ReadFault) → IsErrAnd r (λ fault. fault ≡ read_fault e) → (HasCleanDisk (state g mid) → FailsToQuery sql [] (state g begun) (state g mid) e ⊎ IsTooLate sql [] (state g begun) (state g mid) e) → Asks g sql old {Z = Z} r end
  says e (Ok rows) is err = absurd is
  says e (Err fault) is err = was_refused e fault is err

-- ---- each row read

not_other : (e : Error) → read_fault e ≡ OtherType → ⊥
not_other e same = by_memory (is_memory e) (is_failure e) same
  where
    by_memory : (a b : Bool) → cond a Memory (cond b Store Refused) ≡ OtherType → ⊥
    by_memory true b is = cc
    by_memory false true is = cc
    by_memory false false is = cc

-- the fault of a SELECT that is refused is never OtherType, which only a value of a row that was shown can give
pub never_other : {S : Type 0} (g : Ghosts S) (sql : List ℕ) (old : Held S) (fault : ReadFault)
    → RefusesToSelect g sql old fault → fault ≡ OtherType → ⊥
never_other g sql old fault says same = not_other says.2 (sym says.5 ∙ same)

if_both : {A E : Type 0} (P Q : A → Type 0) (r : Result A E) → IfOk r P → IfOk r Q → IfOk r (λ a. P a × Q a)
if_both P Q (Ok a) p q = (p, q)
if_both P Q (Err e) p q = tt

-- The SELECT `sql` is asked between `old` and `new`. The columns have these forms, and `shown` gives the row that a
-- value is read of.
module _ {S A Z : Type 0} (g : Ghosts S) (sql : List ℕ) (old new : Held S) (forms : List Form) (shown : A → Row) where
  -- if the SELECT was refused, and the result `r` hands on its fault, all was read as promised (`ReadsRows`)
  pub unasked : {Y : Type 0} (fault : ReadFault) (r : Result (Vec A Z) ReadFault) → Asks g sql old {Z = Y} (Err fault) new → IsErrAnd r (λ says. says ≡ fault) → ReadsRows g sql old forms shown r new
  unasked fault (Ok all) asks is = absurd is
  unasked fault (Err says) asks is = record {
    rows = λ _. tt;
    other = λ clean same. absurd (never_other g sql old says (subst (RefusesToSelect g sql old) (sym is) (asks.refused clean)) same);
    refused = λ clean _ _. subst (RefusesToSelect g sql old) (sym is) (asks.refused clean);
    memory = λ clean same. inl (subst (RefusesToSelect g sql old) (sym is ∙ same) (asks.refused clean));
    rests = asks.rests;
    survives = asks.survives;
    idle = asks.idle;
  }

  -- If the SELECT showed rows, and `r` is what parsing these (`lent`) gave, all was read as promised (`ReadsRows`).
  -- Premises: Ok has a value of each row, all in their forms; Err is OtherType only if some aren't, and else Memory.
  pub parsed : {Y : Type 0} (rows : Vec Row Y) (lent : List Row) (r : Result (Vec A Z) ReadFault)
      → Asks g sql old (Ok rows) new → lent ≡ rows.items
      → IfOk r (λ all. map shown all.items ≡ map (first_columns (length forms)) lent) → IfOk r (λ _. AreTyped forms lent) → IfErr r (λ fault. fault ≡ OtherType → ¬ AreTyped forms lent) → IfErr r (λ fault. fault ≢ OtherType → fault ≡ Memory) → ReadsRows g sql old forms shown r new
  parsed rows lent r asks same ok typed other which = record {
    rows = λ clean. if_ok r (λ all says. (rows.items, asks.rows clean, says.0 ∙ ap (map (first_columns (length forms))) same, subst (λ l. AreTyped forms l) same says.1)) (if_both _ _ r ok typed);
    other = λ clean. if_err r (λ fault says is. (rows.items, asks.rows clean, subst (λ l. ¬ AreTyped forms l) same (says is))) other;
    refused = λ clean. if_err r (λ fault says no never. absurd (never (says no))) which;
    memory = λ clean. if_err r (λ fault says is. inr (rows.items, asks.rows clean)) which;
    rests = asks.rests;
    survives = asks.survives;
    idle = asks.idle;
  }
