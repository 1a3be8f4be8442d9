-- The number, name and path of each fault of a world. See docs/FORMATS.md, "Faults of a world file".
use Rattle.std.specs.Prelude.{ℕ, List, codes, Option, Some, None}
use Rattle.atl_tables.specs.declared.fault.WorldFault.{WorldFault}
use Rattle.atl_tables.specs.declared.fault.WorldFault.TheVariants.{NotToml, Missing, WrongType, OutOfRange, TwoNames, UnknownName, BadNeighbour, NoLand, Memory}

-- the number and the name of a fault; Memory has no number, since it is no fault of a text
abbrev pub fault_number_and_name : WorldFault → Option ℕ × List ℕ
fault_number_and_name NotToml = (Some 1, codes "NotToml")
fault_number_and_name (Missing p) = (Some 2, codes "Missing")
fault_number_and_name (WrongType p) = (Some 3, codes "WrongType")
fault_number_and_name (OutOfRange p) = (Some 4, codes "OutOfRange")
fault_number_and_name (TwoNames p) = (Some 5, codes "TwoNames")
fault_number_and_name (UnknownName p) = (Some 6, codes "UnknownName")
fault_number_and_name (BadNeighbour p) = (Some 7, codes "BadNeighbour")
fault_number_and_name NoLand = (Some 8, codes "NoLand")
fault_number_and_name Memory = (None, codes "Memory")

-- the number of a fault, from 1 to 8; Memory has none
abbrev pub fault_number : WorldFault → Option ℕ
fault_number fault = (fault_number_and_name fault).0

-- the name of a fault, as in `WrongType`
abbrev pub fault_name : WorldFault → List ℕ
fault_name fault = (fault_number_and_name fault).1

-- the path of the key, table, array or element that a fault is about; NotToml, NoLand and Memory have none
abbrev pub fault_path : WorldFault → Option (List ℕ)
fault_path (Missing p) = Some p
fault_path (WrongType p) = Some p
fault_path (OutOfRange p) = Some p
fault_path (TwoNames p) = Some p
fault_path (UnknownName p) = Some p
fault_path (BadNeighbour p) = Some p
fault_path fault = None
