-- The numbers of the refusals, and the names of refusals and faults. See docs/FORMATS.md, "Refusals".
use Rattle.std.specs.Prelude.{ℕ, List, codes}
use Rattle.atl_commands.specs.declared.command.Refusal.{Refusal}
use Rattle.atl_commands.specs.declared.command.Refusal.TheVariants.{BadName, BadPassText, NameTaken, Full, NoFaction, WrongPass, Gone, TooLong, NoHeader, BadHeader, WrongFaction, WrongMonth, MonthLimit, WrongDice}
use Rattle.atl_commands.specs.declared.command.Fault.{Fault}
use Rattle.atl_commands.specs.declared.command.Fault.TheVariants.{Memory, Store, Closed}

-- the number and the name of each refusal
abbrev pub refusal : Refusal → ℕ × List ℕ
refusal BadName = (1, codes "BadName")
refusal BadPassText = (2, codes "BadPassText")
refusal NameTaken = (3, codes "NameTaken")
refusal Full = (4, codes "Full")
refusal NoFaction = (5, codes "NoFaction")
refusal WrongPass = (6, codes "WrongPass")
refusal Gone = (7, codes "Gone")
refusal TooLong = (8, codes "TooLong")
refusal NoHeader = (9, codes "NoHeader")
refusal BadHeader = (10, codes "BadHeader")
refusal WrongFaction = (11, codes "WrongFaction")
refusal WrongMonth = (12, codes "WrongMonth")
refusal MonthLimit = (13, codes "MonthLimit")
refusal WrongDice = (14, codes "WrongDice")

-- the number of a refusal, from 1 to 14
abbrev pub number_of : Refusal → ℕ
number_of why = (refusal why).0

-- the name of a refusal, in ASCII
abbrev pub refusal_name : Refusal → List ℕ
refusal_name why = (refusal why).1

-- the name of a fault of a command, in ASCII
abbrev pub fault_name : Fault → List ℕ
fault_name Memory = codes "Memory"
fault_name Store = codes "Store"
fault_name Closed = codes "Closed"
