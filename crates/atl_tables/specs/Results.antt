-- For proofs alone: what a call that reads a part of the world file returns: its value, its first fault, or Memory.
use Rattle.std.specs.Prelude.{◌≡◌, Option, Some, None, Result, Ok, Err}
use Rattle.atl_tables.specs.declared.fault.WorldFault.{WorldFault}
use Rattle.atl_tables.specs.declared.fault.WorldFault.TheVariants.{Memory}

-- the error e that a call returned is `fault`, the first fault of its conditions; or it is Memory, whatever `fault` is
abbrev pub IsFaultOrMemory : WorldFault → Option WorldFault → Type 0
IsFaultOrMemory Memory fault = Unit {0}
IsFaultOrMemory e fault = fault ≡ Some e

-- A call returned a value that `view` turns into `value`, and `fault`, the first fault of its conditions, is None. Or
-- it returned this fault, or Memory.
abbrev pub Gives : {X Y : Type 0} → (X → Y) → Result X WorldFault → Option WorldFault → Y → Type 0
Gives view (Ok x) fault value = (fault ≡ None) × (value ≡ view x)
Gives view (Err e) fault value = IsFaultOrMemory e fault
