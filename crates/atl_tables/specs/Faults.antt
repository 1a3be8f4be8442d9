-- Lists of conditions on a world file: the first condition that is broken is the fault of the file.
use Rattle.std.specs.Prelude.{◌≡◌, List, [], ◌∷◌, Option, Some, None, Result, Ok, Err}
use Rattle.atl_tables.specs.declared.fault.WorldFault.{WorldFault}
use Rattle.atl_tables.specs.declared.fault.WorldFault.TheVariants.{Memory}

-- a list of conditions in the order in which faults count: None for one that holds, its fault for one that is broken
abbrev pub Conditions : Type 0
Conditions = List (Option WorldFault)

-- the fault of a result, None if it is a value
abbrev pub fault_of : {A : Type 0} → Result A WorldFault → Option WorldFault
fault_of (Ok x) = None
fault_of (Err f) = Some f

-- the value of a result, or the default d if it is a fault
abbrev pub value_or : {A : Type 0} → A → Result A WorldFault → A
value_or d (Ok x) = x
value_or d (Err f) = d

-- the fault of the first condition that is broken, None if all hold
abbrev pub first_fault : Conditions → Option WorldFault
first_fault [] = None
first_fault (None ∷ fs) = first_fault fs
first_fault (Some f ∷ fs) = Some f

-- the result of a call: the fault if there is one (Some), else the value x
abbrev pub fault_or_value : {A : Type 0} → Option WorldFault → A → Result A WorldFault
fault_or_value None x = Ok x
fault_or_value (Some f) x = Err f

-- A call returned what the definition gives, `read`: the same fault, or a value that `view` turns into the definition's
-- value. Or it returned Memory, whatever `read` is.
abbrev pub Reads : {X Y : Type 0} → (X → Y) → Result X WorldFault → Result Y WorldFault → Type 0
Reads view (Ok x) read = read ≡ Ok (view x)
Reads view (Err Memory) read = Unit {0}
Reads view (Err fault) read = read ≡ Err fault
