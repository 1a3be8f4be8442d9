-- Which verbs events name, and the numbers and names of event faults. See docs/RULES.md, "Events".
use Rattle.std.specs.Prelude.{ℕ, List, [], ◌∷◌, codes}
use Rattle.atl_world.specs.Verbs.{keyword}
use Rattle.atl_records.specs.declared.event.EventVerb.{EventVerb}
use Rattle.atl_records.specs.declared.event.EventVerb.TheVariants.{Order, Upkeep}
use Rattle.atl_records.specs.declared.event.EventFault.{EventFault}
use Rattle.atl_records.specs.declared.event.EventFault.TheVariants.{NotYours, NotHere, NotEnough, NoRoom, Guarded, NotOwner, NotInside, UnitLimit, AtSea, NoMen, WrongNumber, NotGuarding, NoSkill, NoMaterial, Complete, StructureLimit, NoWay, TooHeavy, NotComplete, NoCrew, NotLearning, CannotTeach, NoFee, NoMarket}

-- the keyword of an event's verb in capitals, as reports print it: that of the order, or UPKEEP
abbrev pub event_keyword : EventVerb → List ℕ
event_keyword (Order verb) = keyword verb
event_keyword Upkeep = codes "UPKEEP"

-- the number, from 1 to 24, and the name of each event fault
abbrev pub event_fault : EventFault → ℕ × List ℕ
event_fault NotYours = (1, codes "NotYours")
event_fault NotHere = (2, codes "NotHere")
event_fault NotEnough = (3, codes "NotEnough")
event_fault NoRoom = (4, codes "NoRoom")
event_fault Guarded = (5, codes "Guarded")
event_fault NotOwner = (6, codes "NotOwner")
event_fault NotInside = (7, codes "NotInside")
event_fault UnitLimit = (8, codes "UnitLimit")
event_fault AtSea = (9, codes "AtSea")
event_fault NoMen = (10, codes "NoMen")
event_fault WrongNumber = (11, codes "WrongNumber")
event_fault NotGuarding = (12, codes "NotGuarding")
event_fault NoSkill = (13, codes "NoSkill")
event_fault NoMaterial = (14, codes "NoMaterial")
event_fault Complete = (15, codes "Complete")
event_fault StructureLimit = (16, codes "StructureLimit")
event_fault NoWay = (17, codes "NoWay")
event_fault TooHeavy = (18, codes "TooHeavy")
event_fault NotComplete = (19, codes "NotComplete")
event_fault NoCrew = (20, codes "NoCrew")
event_fault NotLearning = (21, codes "NotLearning")
event_fault CannotTeach = (22, codes "CannotTeach")
event_fault NoFee = (23, codes "NoFee")
event_fault NoMarket = (24, codes "NoMarket")

-- the number of an event fault, from 1 to 24
abbrev pub event_fault_number : EventFault → ℕ
event_fault_number fault = (event_fault fault).0

-- the name of an event fault, as reports print it
abbrev pub event_fault_name : EventFault → List ℕ
event_fault_name fault = (event_fault fault).1

-- all 24 event faults, in the order of their numbers
abbrev pub event_faults : List EventFault
event_faults =
    NotYours ∷ NotHere ∷ NotEnough ∷ NoRoom ∷ Guarded ∷ NotOwner ∷ NotInside ∷ UnitLimit
    ∷ AtSea ∷ NoMen ∷ WrongNumber ∷ NotGuarding ∷ NoSkill ∷ NoMaterial ∷ Complete ∷ StructureLimit
    ∷ NoWay ∷ TooHeavy ∷ NotComplete ∷ NoCrew ∷ NotLearning ∷ CannotTeach ∷ NoFee ∷ NoMarket ∷ []
