-- Laws on a transaction as a whole: steps one after the other inside it, its commit, and what it leaves if it fails.
-- BEGIN leads from `old` to `begun`, the steps inside from there to `mid`, and commit or rollback to `end`. A step does
-- `Does` to tables that are as `Before` says.
-- `g` is the kind of store, in memory or in files, and `state g conn` the state of the database under a connection. Of
-- two steps the first leads from `a` to `b`, and the second on to `c` or `d`.
use Rattle.std.proofs.Common.{◌≡◌, [], false, true, true≢false, IsTrue, Result, Ok, Err, OnOk, IfErr, sym, ap, subst, ◌∙◌, inl, inr, arith}
use Rattle.std.specs.Borrow.{MutBor}
use Rattle.sqlite.specs.declared.error.Error.{Error}
use Rattle.sqlite.specs.Steps.{FailsToCommit}
use Rattle.sqlite_trees.specs.declared.store.Store.{Ghosts}
use Rattle.sqlite.specs.Effect.{Database}
use Rattle.sqlite.specs.Held.{Held, state}
use Rattle.sqlite.specs.State.{State, HasCleanDisk, Survives, Shows, KeepsCounts, KeepsCommit, IsRolledBack}
use Rattle.sqlite.proofs.StateLemmas.{survives_then}
use Rattle.sqlite.proofs.Callers.{survives_begin}
use Rattle.atl_sql.specs.Inside.{HasTables, DoesAndKeeps, DoesInside, DoesBoth, Commits, LeavesOff, MayLeave}
use Rattle.atl_descriptions.specs.Statements.{Statements}
use Rattle.atl_sql.specs.Writes.{Writes, Transacts}
use Rattle.atl_sql.proofs.KeepLaws.{on_ok, if_err}
use Rattle.atl_sql.proofs.CauseLaws.{gives, gives_after, gives_until, gives_begun, property_of_equal_error}
use Rattle.atl_sql.proofs.CarryLaws.{carries_then}
use Rattle.atl_sql.proofs.WriteLaws.{on_ok_of_error, HandsOn, weaker, two_steps}
use Rattle.atl_containers.proofs.SlotLaws.{on_err}

-- two steps, the first on tables that are as `Before` says, the second on the ten tables, are one step that does both
pub inside_then : (Before : Database → Type 0) (First Second : Database → Database → Type 0) (a b c : State)
    → DoesInside Before First a b → DoesInside HasTables Second b c → DoesInside Before (DoesBoth First Second) a c
inside_then Before First Second a b c one two = (
  two.0 ∙ one.0,
  λ has.
      let was = one.1 has in
      let now = two.1 was.tables in
      record { does = (b.now, was.does, now.does); tables = now.tables; carries = carries_then a.now b.now c.now was.carries now.carries },
)

-- a step that does `Does`, on tables that are as `Before` says, does also `Less`, which follows from both
pub inside_weaker : (Before : Database → Type 0) (Does Less : Database → Database → Type 0) (a b : State)
    → (Before a.now → Does a.now b.now → Less a.now b.now) → DoesInside Before Does a b → DoesInside Before Less a b
inside_weaker Before Does Less a b weaker h =
    (h.0, λ has. let did = h.1 has in record { does = weaker has did.does; tables = did.tables; carries = did.carries })

-- A write is a step of a transaction. `own` are the statements that it may run, and `r` is its result.
module _ {S : Type 0} (g : Ghosts S) {own : Statements} {A : Type 0} {r : Result A Error} where
  -- a write whose step does `First` is also one that does `Does`, which follows from it
  pub done_as : {First Does : Database → Database → Type 0} {a b : MutBor (Held S)}
      → ((old new : Database) → First old new → Does old new) → Writes g own (DoesInside HasTables First) r a b
      → Writes g own (DoesInside HasTables Does) r a b
  done_as {First = First} {Does = Does} said one =
      weaker g (λ old new did. inside_weaker HasTables First Does old new (λ has. said old.now new.now) did) one

  -- a write that succeeds and a second one after it are one write, which does `Does`, if this follows from what both do
  pub then_done : {First Second Does : Database → Database → Type 0} {X : Type 0} {x : X} {a b d : MutBor (Held S)}
      → ((old mid new : Database) → First old mid → Second mid new → Does old new)
      → Writes g own (DoesInside HasTables First) (Ok x) a b → Writes g own (DoesInside HasTables Second) r b d
      → Writes g own (DoesInside HasTables Does) r a d
  then_done {First = First} {Second = Second} {Does = Does} both one two =
      two_steps g (λ old mid new first second. inside_weaker HasTables (DoesBoth First Second) Does old new (λ has did. both old.now did.0 new.now did.1 did.2) (inside_then HasTables First Second old mid new first second)) one two

module _ {S : Type 0} (g : Ghosts S) (old begun mid end : Held S) (begins : begun ≡ record old { in_transaction = true }) (Before : Database → Type 0) (Does : Database → Database → Type 0) where
  -- BEGIN, step and end together: on a clean disk a crash leaves what it could before, or the step done (`Survives`).
  -- Premises: what a crash may leave is unchanged by the step; the end adds at most the tables after the step.
  pub crash_after : Survives (state g begun) (state g mid) (λ _. ⊥)
      → (HasCleanDisk (state g mid) → DoesInside Before Does (state g begun) (state g mid))
      → Survives (state g mid) (state g end) (λ db. db ≡ (state g mid).now.trees)
      → Survives (state g old) (state g end) (MayLeave Before Does (state g old))
  crash_after one inside two =
      let same : (state g begun).now ≡ (state g old).now = ap (λ (h : Held S). (state g h).now) begins in
      survives_then (state g old) (state g mid) (state g end) _ _ (MayLeave Before Does (state g old)) (λ _ db none. absurd none)
      (λ clean db is. (
        (state g mid).now,
        λ has. subst (λ d. DoesAndKeeps Does d (state g mid).now) same ((inside (omega (arith, two.clean))).1 (subst Before (sym same) has)),
        is,
      ))
      (survives_begin g old (state g mid) _ (rw begins at one)) two

  -- BEGIN, step and commit together, on a clean disk: the step is done and all is committed (`Commits`). Premises: the
  -- step is done and the commit succeeds; to what a crash may leave the commit adds at most the tables after the step.
  pub committed_after : (HasCleanDisk (state g mid) → DoesInside Before Does (state g begun) (state g mid))
      → Survives (state g mid) (state g end) (λ db. db ≡ (state g mid).now.trees)
      → (HasCleanDisk (state g end) → IsTrue (state g mid).in_transaction × Shows (state g mid) (state g end) (state g mid).now (state g mid).now false × KeepsCounts (state g mid) (state g end) × ((state g end).marks ≡ []))
      → HasCleanDisk (state g end) → Commits Before Does (state g old) (state g end)
  committed_after inside two done clean =
      let shows = (done clean).1 in
      let same : (state g begun).now ≡ (state g old).now = ap (λ (h : Held S). (state g h).now) begins in
      record {
        does = λ was.
            let did = (inside (omega (arith, two.clean))).1 (subst Before (sym same) was) in
            subst (λ db. DoesAndKeeps Does (state g old).now db) (sym shows.now_is) (subst (λ d. DoesAndKeeps Does d (state g mid).now) same did);
        committed = shows.committed_is ∙ sym shows.now_is;
        idle = shows.mode;
        is_open = shows.is_open;
      }

-- At `end` the connection is in no transaction (`over`). `own` are the statements that the step may run.
module _ {S : Type 0} (g : Ghosts S) (old : Held S) (begun mid : MutBor (Held S)) (begins : begun.now ≡ record old { in_transaction = true }) (Before : Database → Type 0) (Does : Database → Database → Type 0) (end : Held S) (over : end.in_transaction ≡ false) where
  rolled_back : KeepsCommit (state g begun.now) (state g mid.now) → IsRolledBack (state g mid.now) (state g end)
      → LeavesOff (state g old) (state g end)
  rolled_back kept back = record {
    was_open = λ up. subst IsTrue (ap (λ (h : Held S). (state g h).is_open) begins) (kept.was_open (back.was_open up));
    undone = λ up.
        let was : (state g mid.now).committed ≡ (state g old).committed = kept.committed (back.was_open up) ∙ ap (λ (h : Held S). (state g h).committed) begins in
        let now = back.undone up in
        (now.0 ∙ was, now.1 ∙ was);
    idle = over;
  }

  inside_begun : IsTrue (state g begun.now).in_transaction
  inside_begun = ap (λ (h : Held S). h.in_transaction) begins

  -- If the step fails with the error `e`, and is rolled back on a clean disk, the whole is a transaction (`Transacts`)
  -- whose result `r` hands on `e`. A premise: the rollback adds nothing to what a crash may leave.
  pub left_off : {own : Statements} {Inner : State → State → Type 0} {A B : Type 0} (r : Result A Error) {e : Error}
      → HandsOn e r → Writes g own Inner {A = B} (Err e) begun mid
      → (HasCleanDisk (state g end) → IsRolledBack (state g mid.now) (state g end))
      → Survives (state g mid.now) (state g end) (λ _. ⊥) → Transacts g own Before Does r old end
  left_off {own = own} r {e = e} failed did back survives = record {
    ok = λ _. on_ok_of_error r _ failed.0;
    err = λ clean. on_err r (rolled_back (did.kept (omega (arith, survives.clean))) (back clean));
    error_given = λ clean. property_of_equal_error _ r e failed.1 (gives_begun g own e old begun.now end begins (gives_until g own e begun.now mid.now end survives.counts (did.error_given (omega (arith, survives.clean)) inside_begun)));
    crash = survives_then (state g old) (state g mid.now) (state g end) _ _ (MayLeave Before Does (state g old)) (λ _ db none. absurd none) (λ _ db none. absurd none) (survives_begin g old (state g mid.now) _ (rw begins at did.survives)) survives;
    idle = over;
  }

  -- If the step is done, the whole is a transaction with the commit's result `r` (`Transacts`). Premises: on a clean
  -- disk the commit did as `r` says; to what a crash may leave it adds at most the tables after the step.
  pub committed : {own : Statements} {A B : Type 0} {b : B} (r : Result A Error)
      → Writes g own (DoesInside Before Does) (Ok b) begun mid
      → (HasCleanDisk (state g end) → OnOk r (IsTrue (state g mid.now).in_transaction × Shows (state g mid.now) (state g end) (state g mid.now).now (state g mid.now).now false × KeepsCounts (state g mid.now) (state g end) × ((state g end).marks ≡ [])))
      → (HasCleanDisk (state g end) → IfErr r (FailsToCommit (state g mid.now) (state g end)))
      → Survives (state g mid.now) (state g end) (λ db. db ≡ (state g mid.now).now.trees)
      → Transacts g own Before Does r old end
  committed {own = own} r did done fails survives = record {
    ok = λ clean. on_ok r (λ shown. committed_after g old begun.now mid.now end begins Before Does did.does survives (λ _. shown) clean) (done clean);
    err = λ clean.
        let before : HasCleanDisk (state g mid.now) = omega (arith, survives.clean) in
        let inside : (state g mid.now).in_transaction ≡ true = (did.does before).0 ∙ ap (λ (h : Held S). h.in_transaction) begins in
        if_err r (λ e failed. elim failed [ inl fails ↦ rolled_back (did.kept before) fails.3 | inr late ↦ absurd (true≢false (sym inside ∙ late.1)) ]) (fails clean);
    error_given = λ clean.
        let before : HasCleanDisk (state g mid.now) = omega (arith, survives.clean) in
        let inside : IsTrue (state g mid.now).in_transaction = (did.does before).0 ∙ ap (λ (h : Held S). h.in_transaction) begins in
        let reached = did.reaches before inside_begun in
        if_err r (λ e failed. gives_begun g own e old begun.now end begins (gives_after g own e begun.now mid.now end inside_begun inside reached before (did.kept before) did.survives survives.counts (gives g own e mid.now end inside (inr (inside, failed))))) (fails clean);
    crash = crash_after g old begun.now mid.now end begins Before Does did.survives did.does survives;
    idle = over;
  }
