-- Laws on causes: an error that a step returns was given by a statement of the step, or by the commit (`Gives`).
-- `own` is the set of statements that the step may run; `more` is a set that has all of these. `e` is the error.
-- `old` and `new` are a connection, or its state, before and after a call, step or transaction. `g` is the kind of
-- store.
use Rattle.std.proofs.Common.{◌≡◌, ◌⊎◌, ◌≤◌, ℕ, List, zero, suc, true, false, true≢false, IsTrue, Result, Ok, Err, IsErrAnd, IfErr, refl, sym, ap, ◌∙◌, subst, inl, inr, arith}
use Rattle.std.proofs.lemmas.Bool.{cases_Bool}
use Rattle.sqlite_disk.specs.Disk.{MoreFaults}
use Rattle.sqlite_trees.specs.declared.store.Store.{Ghosts}
use Rattle.sqlite_trees.specs.declared.error.StoreError.{StoreError}
use Rattle.sqlite_trees.specs.declared.error.StoreError.TheVariants.{OutOfMemory, Io, Corrupt, Full, Broken, Unstorable}
use Rattle.sqlite.specs.declared.error.Error.{Error}
use Rattle.sqlite.specs.declared.error.Error.TheVariants.{SqliteFailure}
use Rattle.sqlite.specs.declared.error.ErrorCode.TheVariants as code
use Rattle.sqlite.specs.Held.{Held, state}
use Rattle.sqlite.specs.Order.{Row}
use Rattle.sqlite.specs.State.{State, HasCleanDisk, Survives, KeepsCommit, ExecutesIn, IsNotRun, Fails, HasCause, store_error, shows_rows}
use Rattle.sqlite.proofs.InsideLemmas.{keeps_then}
use Rattle.atl_sql.specs.Errors.{is_memory}
use Rattle.atl_descriptions.specs.Statements.{Statements}
use Rattle.atl_sql.specs.Causes.{IsGiven, IsBroken, IsRefused, Gives, Leads, IsReached}

more_later : (a b c : ℕ) → b ≤ c → MoreFaults a b → MoreFaults a c
more_later a b c later more = omega (arith, later, more)

-- if the count of the disk's failures rose from `b` to `c`, or is at the top of a u64 (`MoreFaults`), so it is from
-- `a`, which is at most `b`, to `c`
pub more_before : (a b c : ℕ) → a ≤ b → MoreFaults b c → MoreFaults a c
more_before a b c before more = omega (arith, before, more)

-- ---- one call

-- one call leads from `old` to `new`
module _ (old new : State) where
  abbrev Caused : Error → Type 0
  Caused e = IsBroken old new ⊎ IsRefused e old new

  no_memory : (e : Error) → e ≡ SqliteFailure code.OutOfMemory → is_memory e ≡ false → ⊥
  no_memory e is other = true≢false (sym (ap is_memory is) ∙ other)

  by_cause : (too_big : Type 0) (e : Error) (cause : StoreError) → e ≡ store_error cause
      → HasCause old new too_big cause → is_memory e ≡ false → Caused e
  by_cause too_big e OutOfMemory is has other = absurd (no_memory e is other)
  by_cause too_big e Io is has other = inl (inl has)
  by_cause too_big e Corrupt is has other = inl (inl has)
  by_cause too_big e Full is has other = inl (inl has)
  by_cause too_big e Broken is has other = inl (inr has)
  by_cause too_big e Unstorable is has other = inr (inl is)

  by_failure : (too_big : Type 0) (e : Error) → Fails old new too_big e → is_memory e ≡ false → Caused e
  by_failure too_big e failed = by_cause too_big e failed.0 failed.1 failed.2

  execution_caused : (sql : List ℕ) (params : Row) (e : Error) → ExecutesIn false sql params old new (Err e)
      → is_memory e ≡ false → Caused e
  unfolding ExecutesIn IsNotRun
  execution_caused sql params e (inl (inl refused)) other = inr (inr refused.1)
  execution_caused sql params e (inl (inr failed)) other = by_failure _ e failed other
  execution_caused sql params e (inr ran) other = elim (cases_Bool (shows_rows false ran.0)) [
    | inl shows ↦ inr (inr (rw shows at ran.2).1)
    | inr runs ↦ elim (rw runs at ran.2) [ inl refused ↦ inr (inr refused.1) | inr failed ↦ by_failure _ e failed other ]
  ]

  call_caused : (own : Statements) (e : Error) → IsGiven own e old new → is_memory e ≡ false → Caused e
  call_caused own e (inl ran) other =
      elim ran.3 [ inl whole ↦ execution_caused ran.0 ran.1 e whole.0 other | inr ends ↦ inr (inr ends.2) ]
  call_caused own e (inr (inside, inl failed)) other = by_failure _ e failed other
  call_caused own e (inr (inside, inr late)) other = inr (inr late.2)

module _ {S : Type 0} (g : Ghosts S) (own : Statements) where
  -- if `count` statements of `own` lead from `a` to `b`, and some lead from `b` to `c`, some lead from `a` to `c`
  pub reached_then : (count : ℕ) (a b c : Held S) → Leads g own count a b → IsReached g own b c → IsReached g own a c
  reached_then zero a b c same rest = subst (λ h. IsReached g own h c) (sym same) rest
  reached_then (suc count) a b c first rest = let whole = reached_then count first.0 b c first.2 rest in (suc whole.0, (first.0, first.1, whole.1))

-- ---- statements that are among others

module _ {S : Type 0} (g : Ghosts S) (own more : Statements) (among : (sql : List ℕ) (params : Row) → own sql params → more sql params) where
  leads_among : (count : ℕ) (old new : Held S) → Leads g own count old new → Leads g more count old new
  leads_among zero old new same = same
  leads_among (suc count) old new (mid, ran, rest) =
      (mid, (ran.0, ran.1, among ran.0 ran.1 ran.2, ran.3, ran.4), leads_among count mid new rest)

  pub reached_among : (old new : Held S) → IsReached g own old new → IsReached g more old new
  reached_among old new reached = (reached.0, leads_among reached.0 old new reached.1)

  given_among : (e : Error) (before after : State) → IsGiven own e before after → IsGiven more e before after
  given_among e before after (inl ran) = inl (ran.0, ran.1, among ran.0 ran.1 ran.2, ran.3)
  given_among e before after (inr fails) = inr fails

  pub gives_among : (e : Error) (old new : Held S) → Gives g own e old new → Gives g more e old new
  gives_among e old new gave = record {
    before = gave.before;
    after = gave.after;
    reached = reached_among _ gave.before gave.reached;
    kept = gave.kept;
    given = given_among e _ _ gave.given;
    cause = gave.cause;
  }

-- ---- from one call to the whole transaction

-- e is the error that a step returns. `old` and `new` are the connection before and after the step, or before and after
-- a whole transaction; `mid` is the connection at a moment in between.
module _ {S : Type 0} (g : Ghosts S) (own : Statements) (e : Error) where
  as_begun : (old : Held S) → IsTrue (state g old).in_transaction → record old { in_transaction = true } ≡ old
  as_begun old inside = ap (λ b. record old { in_transaction = b }) (sym inside)

  -- if a statement of `own`, or the commit, gave an error inside a transaction, the transaction gives it (`Gives`)
  pub gives : (old new : Held S) → IsTrue (state g old).in_transaction → IsGiven own e (state g old) (state g new)
      → Gives g own e old new
  gives old new inside given =
      record { before = old; after = new; reached = (0, as_begun old inside); kept = record { was_open = λ up. up; committed = λ _. refl }; given = given; cause = call_caused (state g old) (state g new) own e given }

  -- Inside a transaction, an error that it gives from `mid` on is one that it gives from `old` on (`Gives`). Premises:
  -- statements of `own` lead from `old` to `mid` on a clean disk, commit nothing and forget no failure (`Survives`). At
  -- `new` the disk has failed at least as often as at `mid`.
  pub gives_after : (old mid new : Held S) → IsTrue (state g old).in_transaction → IsTrue (state g mid).in_transaction
      → IsReached g own old mid → HasCleanDisk (state g mid) → KeepsCommit (state g old) (state g mid)
      → Survives (state g old) (state g mid) (λ _. ⊥) → (state g mid).faults ≤ (state g new).faults
      → Gives g own e mid new → Gives g own e old new
  gives_after old mid new was is reached clean kept survives counts gave = record {
    before = gave.before;
    after = gave.after;
    reached =
        let rest = subst (λ h. IsReached g own h gave.before) (as_begun mid is) gave.reached in
        subst (λ h. IsReached g own h gave.before) (sym (as_begun old was)) (reached_then g own reached.0 _ _ _ reached.1 rest);
    kept = keeps_then (state g old) (state g mid) (state g gave.before) kept gave.kept;
    given = gave.given;
    cause = λ other. elim (gave.cause other) [
      | inl (inl more) ↦ inl (inl (more_before _ _ _ survives.counts more))
      | inl (inr shut) ↦ inl (elim (cases_Bool (state g old).is_open) [
        | inl was ↦ elim (survives.closes clean was) [ inl up ↦ absurd (true≢false (sym up ∙ shut)) | inr more ↦ inl (more_later _ _ _ counts more) ]
        | inr was ↦ inr was
      ])
      | inr refused ↦ inr refused
    ];
  }

  -- an error that a transaction gives up to `mid` is one that it gives up to `new`, if by then no failure is forgotten
  pub gives_until : (old mid new : Held S) → (state g mid).faults ≤ (state g new).faults → Gives g own e old mid
      → Gives g own e old new
  gives_until old mid new counts gave = record {
    before = gave.before;
    after = gave.after;
    reached = gave.reached;
    kept = gave.kept;
    given = gave.given;
    cause = λ other. elim (gave.cause other) [ inl (inl more) ↦ inl (inl (more_later _ _ _ counts more)) | inl (inr shut) ↦ inl (inr shut) | inr refused ↦ inr refused ];
  }

  -- an error that a transaction gives, counted from the connection as it is once the transaction has begun (`begun`),
  -- is one that it gives counted from the connection before that (`old`)
  pub gives_begun : (old begun new : Held S) → begun ≡ record old { in_transaction = true } → Gives g own e begun new
      → Gives g own e old new
  gives_begun old begun new begins gave =
      let same : Gives g own e (record old { in_transaction = true }) new = subst (λ h. Gives g own e h new) begins gave in
      record {
        before = same.before;
        after = same.after;
        reached = same.reached;
        kept = record { was_open = same.kept.was_open; committed = same.kept.committed };
        given = same.given;
        cause = same.cause;
      }

-- if the result `r` is the error `e`, and P holds of `e`, P holds of the error of `r`
pub property_of_equal_error : {A E : Type 0} (P : E → Type 0) (r : Result A E) (e : E) → IsErrAnd r (λ f. f ≡ e) → P e
    → IfErr r P
property_of_equal_error P (Ok a) e says p = tt
property_of_equal_error P (Err f) e says p = subst P (sym says) p
