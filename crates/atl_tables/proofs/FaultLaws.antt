-- Laws of the first fault of lists of conditions, and of calls that return it (`IsFaultOrMemory`, `Gives`, `Reads`). r
-- is the result of a call (in `stops_first` that of the definition), e the call's error, and `view` turns the call's
-- value into v, the definition's value. `fault` is a first fault, and fs and gs are lists of conditions.
use Rattle.std.proofs.Common.{◌≡◌, [], ◌∷◌, ◌++◌, Option, Some, None, Result, Ok, Err, refl, sym, subst, ◌∙◌}
use Rattle.std.specs.Result.{IsErrAnd}
use Rattle.std.proofs.lemmas.Result.{err_from_is_err_and}
use Rattle.atl_tables.specs.declared.fault.WorldFault.{WorldFault}
use Rattle.atl_tables.specs.declared.fault.WorldFault.TheVariants.{Memory}
use Rattle.atl_tables.specs.Faults.{Conditions, fault_of, first_fault, fault_or_value, Reads}
use Rattle.atl_tables.specs.Results.{IsFaultOrMemory, Gives}

-- if a call returned the error e where the definition gives r (`Reads`), e is Memory, or the first fault of any
-- conditions that begin with r's fault (`IsFaultOrMemory`)
pub stops_first : {X Y : Type 0} (view : X → Y) (e : WorldFault) (r : Result Y WorldFault) (fs : Conditions)
    → Reads view (Err e) r → IsFaultOrMemory e (first_fault (fault_of r ∷ fs))
stops_first view Memory r fs h = tt
stops_first view e r fs h = rw h refl

pub fault_is_of_second_list : (fs gs : Conditions) → first_fault fs ≡ None → first_fault (fs ++ gs) ≡ first_fault gs
fault_is_of_second_list [] gs h = refl
fault_is_of_second_list (None ∷ fs) gs h = fault_is_of_second_list fs gs h
fault_is_of_second_list (Some f ∷ fs) gs h = absurd (cc)

fault_is_of_first_list : (f : WorldFault) (fs gs : Conditions) → first_fault fs ≡ Some f
    → first_fault (fs ++ gs) ≡ Some f
fault_is_of_first_list f [] gs h = absurd (cc)
fault_is_of_first_list f (None ∷ fs) gs h = fault_is_of_first_list f fs gs h
fault_is_of_first_list f (Some x ∷ fs) gs h = h

-- an error that a call may return by the conditions fs (`IsFaultOrMemory`), it may return by fs and gs
pub error_of_first_list_is_of_joined : (e : WorldFault) (fs gs : Conditions) → IsFaultOrMemory e (first_fault fs)
    → IsFaultOrMemory e (first_fault (fs ++ gs))
error_of_first_list_is_of_joined Memory fs gs h = tt
error_of_first_list_is_of_joined e fs gs h = fault_is_of_first_list e fs gs h

-- where fs have no fault, an error that a call may return by gs, it may return by fs and gs
pub error_of_second_list_is_of_joined : (e : WorldFault) (fs gs : Conditions) → first_fault fs ≡ None
    → IsFaultOrMemory e (first_fault gs) → IsFaultOrMemory e (first_fault (fs ++ gs))
error_of_second_list_is_of_joined e fs gs h s = subst (IsFaultOrMemory e) (sym (fault_is_of_second_list fs gs h)) s

pub joined_list_has_no_fault : (fs gs : Conditions) → first_fault fs ≡ None → first_fault gs ≡ None
    → first_fault (fs ++ gs) ≡ None
joined_list_has_no_fault fs gs h s = fault_is_of_second_list fs gs h ∙ s

-- where fs have no fault, a result by the conditions gs (`Gives`) is one by fs and gs
pub result_by_second_list_is_by_joined : {X Y : Type 0} (view : X → Y) (r : Result X WorldFault) (fs gs : Conditions) (v : Y)
    → first_fault fs ≡ None → Gives view r (first_fault gs) v → Gives view r (first_fault (fs ++ gs)) v
result_by_second_list_is_by_joined view (Ok x) fs gs v h g = (fault_is_of_second_list fs gs h ∙ g.0, g.1)
result_by_second_list_is_by_joined view (Err e) fs gs v h g = error_of_second_list_is_of_joined e fs gs h g

-- what a call may return by `fault` and v (`Gives`), it may return if the definition gives `fault`, or v if it is None
pub gives_implies_reads : {X Y : Type 0} (view : X → Y) (r : Result X WorldFault) (fault : Option WorldFault) (v : Y)
    → Gives view r fault v → Reads view r (fault_or_value fault v)
gives_implies_reads view (Ok x) fault v h = rw (h.0, h.1) refl
gives_implies_reads view (Err Memory) fault v h = tt
gives_implies_reads view (Err e) fault v h = rw h refl

-- an error that a call may return by one condition, it may return by all conditions that begin with it
pub error_of_condition_is_of_list : (e : WorldFault) (fault : Option WorldFault) (fs : Conditions)
    → IsFaultOrMemory e fault → IsFaultOrMemory e (first_fault (fault ∷ fs))
error_of_condition_is_of_list Memory fault fs h = tt
error_of_condition_is_of_list e fault fs h = rw h refl

-- a result by one condition (`Gives`) is one by the list of this condition alone
pub result_by_condition_is_by_list : {X Y : Type 0} (view : X → Y) (r : Result X WorldFault) (fault : Option WorldFault) (v : Y)
    → Gives view r fault v → Gives view r (first_fault (fault ∷ [])) v
result_by_condition_is_by_list view r None v h = h
result_by_condition_is_by_list view r (Some f) v h = h

-- if r, here the result of a function, is the error e that `?` returns, and e is the first fault of the conditions, or
-- Memory (`IsFaultOrMemory`), the function returns what it should (`Gives`)
pub gives_error : {X Y : Type 0} (view : X → Y) (r : Result X WorldFault) (e : WorldFault) (fault : Option WorldFault) (v : Y)
    → IsErrAnd r (λ f. f ≡ e) → IsFaultOrMemory e fault → Gives view r fault v
gives_error view r e fault v h s = let p = err_from_is_err_and r h in rw (p.1, p.2) s
