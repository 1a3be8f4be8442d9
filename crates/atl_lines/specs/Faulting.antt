-- The numbers and names of line faults. See docs/FORMATS.md, "Line faults".
use Rattle.std.specs.Prelude.{ℕ, List, codes}
use Rattle.atl_lines.specs.declared.fault.LineFault.{LineFault}
use Rattle.atl_lines.specs.declared.fault.LineFault.TheVariants.{NoUnit, UnknownOrder, BadNumber, UnknownThing, MissingWord, BadByte, BadAlias, NestedForm, EndAlone, BadDirection, BadName}

-- the number and the name of a line fault
abbrev pub line_fault : LineFault → ℕ × List ℕ
line_fault NoUnit = (1, codes "NoUnit")
line_fault UnknownOrder = (2, codes "UnknownOrder")
line_fault BadNumber = (3, codes "BadNumber")
line_fault UnknownThing = (4, codes "UnknownThing")
line_fault MissingWord = (5, codes "MissingWord")
line_fault BadByte = (6, codes "BadByte")
line_fault BadAlias = (7, codes "BadAlias")
line_fault NestedForm = (8, codes "NestedForm")
line_fault EndAlone = (9, codes "EndAlone")
line_fault BadDirection = (10, codes "BadDirection")
line_fault BadName = (11, codes "BadName")

-- the number of a line fault, from 1 to 11
abbrev pub fault_number : LineFault → ℕ
fault_number fault = (line_fault fault).0

-- the name of a line fault, as in `BadNumber`
abbrev pub fault_name : LineFault → List ℕ
fault_name fault = (line_fault fault).1
