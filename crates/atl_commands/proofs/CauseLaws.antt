-- Laws on the cause of a fault: for Memory a call of the write ran out of memory, for Store it gave another error.
-- `own` has the SQL statements of the write, and `old` and `new` are the connection before and after it. A disk is
-- clean if each read has returned what was written (docs/PROVED.md, "Premises").
-- `g` is the kind of store, in memory or in files. `create_fault` and `write_fault` give the fault for an error of the
-- database: Memory if the error is out of memory, else Store.
use Rattle.std.proofs.Common.{◌≡◌, ◌≢◌, Bool, true, false, cond, Result, Ok, Err, IfErr, refl, sym, subst, inr}
use Rattle.std.specs.Prelude.{IsErrAnd}
use Rattle.sqlite_trees.specs.declared.store.Store.{Ghosts}
use Rattle.sqlite.specs.Held.{Held, state}
use Rattle.sqlite.specs.State.{HasCleanDisk}
use Rattle.atl_descriptions.specs.Statements.{Statements}
use Rattle.atl_sql.specs.Causes.{IsFaultOfError}
use Rattle.atl_sql.specs.Errors.{is_memory}
use Rattle.atl_keeping.specs.Faults.{create_fault, write_fault}
use Rattle.atl_keeping.specs.declared.fault.CreateFault.TheVariants as create
use Rattle.atl_keeping.specs.declared.fault.WriteFault.{WriteFault}
use Rattle.atl_keeping.specs.declared.fault.WriteFault.TheVariants as write
use Rattle.atl_commands.specs.Answering.{fault_of_write}
use Rattle.atl_commands.specs.Causes.{GivesError, HasCause}

-- if a test chose between two different values, the chosen value shows the test's result
module _ {F : Type 0} (memory other : F) (apart : memory ≢ other) where
  is_first : (b : Bool) → memory ≡ cond b memory other → b ≡ true
  is_first true is = refl
  is_first false is = absurd (apart is)

  is_second : (b : Bool) → other ≡ cond b memory other → b ≡ false
  is_second true is = absurd (apart (sym is))
  is_second false is = refl

module _ {S : Type 0} (g : Ghosts S) (own : Statements) (old new : Held S) where
  creates_apart : create.Memory ≢ create.Store
  creates_apart is = let e = is in cc

  writes_apart : write.Memory ≢ write.Store
  writes_apart is = let e = is in cc

  -- if the fault Memory of creating the tables is that of an error of a statement of `own`, or of the commit, this
  -- error is out of memory
  pub creation_lacked : IsFaultOfError g own create_fault old new create.Memory → GivesError g own true old new
  creation_lacked (e, is, given) =
      record { error = e; memory_is = is_first create.Memory create.Store creates_apart (is_memory e) is; given = given }

  -- if the fault Store of creating the tables is that of an error of a statement of `own`, or of the commit, this error
  -- is another than out of memory
  pub creation_failed : IsFaultOfError g own create_fault old new create.Store → GivesError g own false old new
  creation_failed (e, is, given) =
      record { error = e; memory_is = is_second create.Memory create.Store creates_apart (is_memory e) is; given = given }

  write_lacked_memory : IsFaultOfError g own write_fault old new write.Memory → GivesError g own true old new
  write_lacked_memory (e, is, given) =
      record { error = e; memory_is = is_first write.Memory write.Store writes_apart (is_memory e) is; given = given }

  write_gave_other_error : IsFaultOfError g own write_fault old new write.Store → GivesError g own false old new
  write_gave_other_error (e, is, given) =
      record { error = e; memory_is = is_second write.Memory write.Store writes_apart (is_memory e) is; given = given }

  -- if a write's fault reports, on a clean disk, an error of one of its calls, this error is the cause of the service's
  -- fault: out of memory for Memory, another for Store (`HasCause`)
  pub write_has_cause : (fault : WriteFault)
      → (HasCleanDisk (state g new) → IsFaultOfError g own write_fault old new fault)
      → HasCause g own old new (fault_of_write fault)
  write_has_cause write.Memory says = inr (λ clean. write_lacked_memory (says clean))
  write_has_cause write.Store says = λ clean. write_gave_other_error (says clean)

  -- A call, whose result is `r`, failed with this fault of a write. If on a clean disk the fault reports an error of
  -- the write, the service's fault for it has its cause (`HasCause`).
  pub call_has_cause : {A : Type 0} (fault : WriteFault) (r : Result A WriteFault) → IsErrAnd r (λ f. f ≡ fault)
      → (HasCleanDisk (state g new) → IsFaultOfError g own write_fault old new fault)
      → IfErr r (λ f. HasCause g own old new (fault_of_write f))
  call_has_cause fault (Ok a) is says = tt
  call_has_cause fault (Err f) is says =
      subst (λ x. HasCause g own old new (fault_of_write x)) (sym is) (write_has_cause fault says)
