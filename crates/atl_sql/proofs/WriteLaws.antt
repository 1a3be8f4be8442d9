-- Laws on writes inside a transaction: what one statement, or several steps together, do, and which error they give.
-- `own` is the set of statements that a write may run; `Does` says what the write does, of the states before and after.
-- On a clean disk a write (`Writes`) that ends with Ok did `Does` by statements of `own`; an error is one a call gave.
-- `a` is the connection before the first step; `b`, `c` and `d` are it after each step. `g` is the kind of store.
-- `r` is the result of the steps: what the last one returned, or the error of the one that failed.
use Rattle.std.proofs.Common.{◌≡◌, ℕ, List, false, IsTrue, Result, Ok, Err, IsErr, IsErrAnd, OnOk, refl, sym, ◌∙◌, subst, inl, inr, arith}
use Rattle.std.specs.Borrow.{MutBor}
use Rattle.std.proofs.lemmas.Bool.{cases_Bool}
use Rattle.sqlite_trees.specs.declared.store.Store.{Ghosts}
use Rattle.sqlite.specs.declared.error.Error.{Error}
use Rattle.sqlite.specs.declared.error.Error.TheVariants.{SqliteFailure}
use Rattle.sqlite.specs.declared.error.ErrorCode.TheVariants.{TransactionState}
use Rattle.sqlite.specs.Held.{Held, state}
use Rattle.sqlite.specs.Order.{Row}
use Rattle.sqlite.specs.State.{State, HasCleanDisk, Survives, KeepsCommit, ExecutesInside}
use Rattle.sqlite.proofs.InsideLemmas.{inside_keeps}
use Rattle.atl_sql.specs.Writes.{Writes, RunsStatement}
use Rattle.atl_descriptions.specs.Sets.{Set}
use Rattle.atl_descriptions.specs.Statements.{Statements, OneStatement, RowStatements}
use Rattle.atl_sql.proofs.CauseLaws.{gives, gives_after, gives_among, reached_then, reached_among, property_of_equal_error}
use Rattle.atl_sql.proofs.KeepLaws.{survives_more, keeps_more, on_ok, if_err}

-- a result that is an error meets `OnOk` for each claim P, since `OnOk` asks P of an Ok result alone
pub on_ok_of_error : {A E : Type 0} (r : Result A E) (P : Type 0) → IsErr r → OnOk r P
on_ok_of_error (Ok a) P failed = absurd cc
on_ok_of_error (Err e) P failed = tt

-- the result is this error, handed on from a call
abbrev pub HandsOn : {A : Type 0} → Error → Result A Error → Type 0
HandsOn e r = IsErr r × IsErrAnd r (λ f. f ≡ e)

-- steps by statements of `own` have done `Does` without an error, if the disk is clean (`Writes`)
abbrev pub HasDone : {S : Type 0} → Ghosts S → Statements → (State → State → Type 0) → MutBor (Held S) → MutBor (Held S)
    → Type 0
HasDone g own Does old new = Writes g own Does {A = Unit {0}} (Ok (tt {0})) old new

-- if nothing is done, a crash leaves only what it could have left before, and no failure is forgotten (`Survives`)
pub survives_start : (s : State) → Survives s s (λ _. ⊥)
survives_start s =
    record { clean = omega arith; shield = λ h. h; counts = omega arith; limit = refl; closes = λ clean up. inl up; crash = λ clean db may. inl may }

abbrev Any : State → State → Type 0
Any old new = Unit {0}

module _ {S : Type 0} (g : Ghosts S) where
  -- ---- one statement

  -- the statement `sql` with these parameters leads from `old` to `new` of one connection; a crash leaves nothing new
  module _ (old new : MutBor (Held S)) (sql : List ℕ) (params : Row) (same : new.ghost_name ≡ old.ghost_name) (survives : Survives (state g old.now) (state g new.now) (λ _. ⊥)) where
    -- if no transaction had begun, the statement's result is the error TransactionState, and nothing changed
    abbrev Ended : Result ℕ Error → Type 0
    Ended r =
        (state g old.now).in_transaction ≡ false → (r ≡ Err (SqliteFailure TransactionState)) × (new.now ≡ old.now)

    -- if the disk is clean, the statement ran with this result inside a transaction
    abbrev Ran : Result ℕ Error → Type 0
    Ran r =
        HasCleanDisk (state g new.now) → IsTrue (state g old.now).in_transaction → ExecutesInside 0 sql params
        (state g old.now) (state g new.now) r

    keeps : (r : Result ℕ Error) → Ended r → Ran r → HasCleanDisk (state g new.now)
        → KeepsCommit (state g old.now) (state g new.now)
    keeps r ended ran clean = elim (cases_Bool (state g old.now).in_transaction) [
      | inl inside ↦ inside_keeps (state g old.now) (state g new.now) 0 false sql params r (ran clean inside)
      | inr outside ↦ subst (λ (h : Held S). KeepsCommit (state g old.now) (state g h)) (sym (ended outside).1) (record { was_open = λ up. up; committed = λ _. refl })
    ]

    -- a statement that ended with the error `e`, which `result` hands on, is a step as promised (`Writes`)
    pub fails : {A : Type 0} (Does : State → State → Type 0) (e : Error) (result : Result A Error) → Ended (Err e)
        → Ran (Err e) → HandsOn e result → Writes g (OneStatement sql params) Does result old new
    fails Does e result ended ran failed = record {
      same_reference = same;
      does = λ _. on_ok_of_error result _ failed.0;
      goes_on = λ _. on_ok_of_error result _ failed.0;
      reaches = λ clean inside. on_ok_of_error result _ failed.0;
      error_given = λ clean inside. property_of_equal_error _ result e failed.1 (gives g (OneStatement sql params) e old.now new.now inside (inl (sql, params, (refl, refl), ran clean inside)));
      kept = keeps (Err e) ended ran;
      survives = survives;
    }

    -- a statement that ran is a step as promised (`Writes`) that does `RunsStatement`
    pub runs : {A : Type 0} (count : ℕ) (a : A) → Ended (Ok count) → Ran (Ok count)
        → Writes g (OneStatement sql params) (RunsStatement sql params) (Ok a) old new
    runs count a ended ran = record {
      same_reference = same;
      does = λ clean. elim (cases_Bool (state g old.now).in_transaction) [
        | inl inside ↦ (inside, count, ran clean inside)
        | inr outside ↦ absurd (let e = (ended outside).0 in cc)
      ];
      goes_on = λ clean. elim (cases_Bool (state g old.now).in_transaction) [
        | inl inside ↦ (ran clean inside).1.mode ∙ sym inside
        | inr outside ↦ absurd (let e = (ended outside).0 in cc)
      ];
      reaches = λ clean inside. (1, (new.now, (sql, params, (refl, refl), count, ran clean inside), refl));
      error_given = λ clean inside. tt;
      kept = keeps (Ok count) ended ran;
      survives = survives;
    }

  -- ---- one step after another

  -- a write that does `First` does each `Does` that follows from it
  pub weaker : {own : Statements} {First Does : State → State → Type 0} {A : Type 0} {r : Result A Error} {a b : MutBor (Held S)}
      → ((old new : State) → First old new → Does old new) → Writes g own First r a b → Writes g own Does r a b
  weaker {r = r} less one =
      record { same_reference = one.same_reference; does = λ clean. on_ok r (less _ _) (one.does clean); goes_on = one.goes_on; reaches = one.reaches; error_given = one.error_given; kept = one.kept; survives = one.survives }

  -- a write by statements of `own` is one by statements of `more`, if `more` has all of them
  pub writes_among_more : {own more : Statements} {Does : State → State → Type 0} {A : Type 0} {r : Result A Error} {a b : MutBor (Held S)}
      → ((sql : List ℕ) (params : Row) → own sql params → more sql params) → Writes g own Does r a b
      → Writes g more Does r a b
  writes_among_more {own = own} {more = more} {r = r} {a = a} {b = b} within one = record {
    same_reference = one.same_reference;
    does = one.does;
    goes_on = one.goes_on;
    reaches = λ clean inside. on_ok r (reached_among g own more within a.now b.now) (one.reaches clean inside);
    error_given = λ clean inside. if_err r (λ e. gives_among g own more within e a.now b.now) (one.error_given clean inside);
    kept = one.kept;
    survives = one.survives;
  }

  -- a write by this one statement is one by statements of `own`, if `own` has it
  pub among_only : {own : Statements} {Does : State → State → Type 0} {A : Type 0} {r : Result A Error} {a b : MutBor (Held S)} (text : List ℕ) (values : Row)
      → own text values → Writes g (OneStatement text values) Does r a b → Writes g own Does r a b
  among_only {own = own} text values is one =
      writes_among_more (λ sql params only. subst (λ s. own s params) (sym only.0) (subst (own text) (sym only.1) is))
      one

  -- a write by statements of this text with these rows is one by statements of `own`, if `own` has all of them
  pub among_each : {own : Statements} {Does : State → State → Type 0} {A : Type 0} {r : Result A Error} {a b : MutBor (Held S)} (text : List ℕ) (rows : Set)
      → ((row : Row) → rows row → own text row) → Writes g (RowStatements text rows) Does r a b
      → Writes g own Does r a b
  among_each {own = own} text rows are one =
      writes_among_more (λ sql params each. subst (λ s. own s params) (sym each.0) (are params each.1)) one

  -- two writes one after the other, the first without an error, are one write with the result of the second, and do
  -- `Does`, if `Does` follows from what the two do
  pub two_steps : {own : Statements} {First Second Does : State → State → Type 0} {A X : Type 0} {x : X} {r : Result A Error} {a b c : MutBor (Held S)}
      → ((old mid new : State) → First old mid → Second mid new → Does old new) → Writes g own First (Ok x) a b
      → Writes g own Second r b c → Writes g own Does r a c
  two_steps {own = own} {r = r} {a = a} {b = b} {c = c} both one two =
      let before : HasCleanDisk (state g c.now) → HasCleanDisk (state g b.now) = λ clean. omega (arith, two.survives.clean) in
      record {
        same_reference = two.same_reference ∙ one.same_reference;
        does = λ clean. on_ok r (both _ _ _ (one.does (before clean))) (two.does clean);
        goes_on = λ clean. on_ok r (λ same. same ∙ one.goes_on (before clean)) (two.goes_on clean);
        reaches = λ clean inside.
            let first = one.reaches (before clean) inside in
            on_ok r (reached_then g own first.0 _ _ _ first.1) (two.reaches clean (subst IsTrue (sym (one.goes_on (before clean))) inside));
        error_given = λ clean inside.
            let still : IsTrue (state g b.now).in_transaction = subst IsTrue (sym (one.goes_on (before clean))) inside in
            if_err r (λ e. gives_after g own e a.now b.now c.now inside still (one.reaches (before clean) inside) (before clean) (one.kept (before clean)) one.survives two.survives.counts) (two.error_given clean still);
        kept = keeps_more _ _ _ two.survives one.kept two.kept;
        survives = survives_more _ _ _ one.survives two.survives;
      }

  -- a write that ended with an error, which `r` hands on, ended so whatever it was to do
  pub stops : {own : Statements} {First Does : State → State → Type 0} {A X : Type 0} {e : Error} {r : Result A Error} {a b : MutBor (Held S)}
      → Writes g own First {A = X} (Err e) a b → HandsOn e r → Writes g own Does r a b
  stops {e = e} {r = r} one failed = record {
    same_reference = one.same_reference;
    does = λ _. on_ok_of_error r _ failed.0;
    goes_on = λ _. on_ok_of_error r _ failed.0;
    reaches = λ clean inside. on_ok_of_error r _ failed.0;
    error_given = λ clean inside. property_of_equal_error _ r e failed.1 (one.error_given clean inside);
    kept = one.kept;
    survives = one.survives;
  }

  -- after a write without an error, a second that ended with an error, handed on by `r`, ends both so, whatever they do
  pub stops_second : {own : Statements} {First Second Does : State → State → Type 0} {A X Z : Type 0} {x : X} {e : Error} {r : Result A Error} {a b c : MutBor (Held S)}
      → Writes g own First (Ok x) a b → Writes g own Second {A = Z} (Err e) b c → HandsOn e r → Writes g own Does r a c
  stops_second {e = e} one two failed =
      stops (two_steps {Does = Any} {r = Err e} (λ old mid new first second. tt) one two) failed

  -- three writes one after the other, the first two without an error, are one write with the result of the third, and
  -- do `Does`, if `Does` follows from what the three do
  pub three_steps : {own : Statements} {First Second Third Does : State → State → Type 0} {A X Y : Type 0} {x : X} {y : Y} {r : Result A Error} {a b c d : MutBor (Held S)}
      → ((old one two new : State) → First old one → Second one two → Third two new → Does old new)
      → Writes g own First (Ok x) a b → Writes g own Second (Ok y) b c → Writes g own Third r c d
      → Writes g own Does r a d
  three_steps {y = y} {r = r} {c = c} all one two three =
      let whole = two_steps {Does = Any} {r = r} (λ old mid new first second. tt) (two_steps {Does = Any} {r = Ok y} (λ old mid new first second. tt) one two) three in
      record {
        same_reference = whole.same_reference;
        does = λ clean.
            let before : HasCleanDisk (state g c.now) = omega (arith, three.survives.clean) in
            on_ok r (all _ _ _ _ (one.does (omega (arith, before, two.survives.clean))) (two.does before)) (three.does clean);
        goes_on = whole.goes_on;
        reaches = whole.reaches;
        error_given = whole.error_given;
        kept = whole.kept;
        survives = whole.survives;
      }

  -- steps that did `First`, and one more that did `Second`, all without an error, did `Does`, if it follows from both
  pub goes_on : {own : Statements} {First Second Does : State → State → Type 0} {u : Unit {0}} {a b c : MutBor (Held S)}
      → ((old mid new : State) → First old mid → Second mid new → Does old new) → HasDone g own First a b
      → Writes g own Second (Ok u) b c → HasDone g own Does a c
  goes_on both so_far more = two_steps both so_far more

  -- to run no statement does `Does`, if `Does` holds of each state and itself
  pub begins : {own : Statements} {Does : State → State → Type 0} {A : Type 0} {a : A} {b : MutBor (Held S)}
      → ((s : State) → Does s s) → Writes g own Does (Ok a) b b
  begins none =
      record { same_reference = refl; does = λ _. none _; goes_on = λ _. refl; reaches = λ clean inside. (0, refl); error_given = λ clean inside. tt; kept = λ _. record { was_open = λ up. up; committed = λ _. refl }; survives = survives_start _ }
