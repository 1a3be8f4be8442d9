-- The reading of a mailing: its faction, orders and faulty lines. `#END` counts in any case (`begins`).
-- See docs/RULES.md, "Reading a mailing". The reader's state says which unit is named, and which block of FORM is open.
use Rattle.std.specs.Prelude.{◌≡◌, ℕ, ◌+◌, Bool, List, [], ◌∷◌, length, map, codes, Result, Ok, Err, nat_lt, if◌then◌else◌}
use Rattle.std.specs.List.{flat_map}
use Rattle.atl_words.specs.Limits.{most_bytes}
use Rattle.atl_world.specs.Worlds.{WorldValue}
use Rattle.atl_lines.specs.declared.order.UnitRef.{UnitRef}
use Rattle.atl_lines.specs.declared.reading.ReaderState.{ReaderState}
use Rattle.atl_lines.specs.declared.reading.ReaderState.TheVariants.{Nowhere}
use Rattle.atl_lines.specs.declared.fault.FaultyLine.{FaultyLine}
use Rattle.atl_words.specs.declared.mail_fault.MailFault.{MailFault}
use Rattle.atl_words.specs.declared.mail_fault.MailFault.TheVariants.{TooLong, NoHeader, BadHeader, Memory}
use Rattle.atl_orders.specs.declared.mailing.Entry.{Entry}
use Rattle.atl_orders.specs.declared.mailing.Mailing.{Mailing}
use Rattle.atl_lines.specs.Aliasing.{no_alias}
use Rattle.atl_words.specs.Header.{HeaderValue, header_from}
use Rattle.atl_words.specs.Words.{words, begins}
use Rattle.atl_words.specs.TextLines.{lines}
use Rattle.atl_lines.specs.Orders.{OrderValue, order_value}
use Rattle.atl_lines.specs.Reading.{Effect, nothing, faulty, says, line_step}

-- an order of a mailing: its line's number, the unit that it is for, and the order
pub record EntryValue : Type 0 where
  -- the number of the order's line, from 1 on over the whole text
  pub line : ℕ
  pub target : UnitRef
  pub order_value : OrderValue

-- The effect of each line, with its number, up to the first line of `#END`, which is left out, or to the last line. The
-- first line has the number n, the reader is in `state` before it, and `given` says which aliases earlier lines gave.
unfoldable pub effects : WorldValue → ℕ → ReaderState → (ℕ → Bool) → List (List ℕ) → List (ℕ × Effect)
effects world n state given [] = []
effects world n state given (line ∷ rest) =
    if begins (codes "#END") (words line) then []
    else (n, (line_step world state given line).effect)
    ∷ effects world (n + 1) (line_step world state given line).state (line_step world state given line).given rest

-- the order that line n gives by its effect, with line and unit, as a list of one; the empty list if it gives no order
abbrev pub entry_of : ℕ × Effect → List EntryValue
entry_of (n, nothing) = []
entry_of (n, faulty fault) = []
entry_of (n, says unit order_value) = record { line = n; target = unit; order_value = order_value } ∷ []

-- the fault that line n has by its effect, as a list of one faulty line; the empty list if it has no fault
abbrev pub fault_of : ℕ × Effect → List FaultyLine
fault_of (n, nothing) = []
fault_of (n, faulty fault) = record { line = n; fault = fault } ∷ []
fault_of (n, says unit order_value) = []

-- what reading a mailing gives: its faction, its orders, and its faulty lines
pub record Reading : Type 0 where
  pub faction : ℕ
  pub entries : List EntryValue
  pub faults : List FaultyLine

-- the faction, orders and faulty lines of a mailing, given its header; or the fault of the header
abbrev pub after_header : WorldValue → Result HeaderValue MailFault → Result Reading MailFault
after_header world (Err fault) = Err fault
after_header world (Ok h) = Ok (record {
  faction = h.faction;
  entries = flat_map entry_of (effects world h.next Nowhere no_alias h.rest);
  faults = flat_map fault_of (effects world h.next Nowhere no_alias h.rest);
})

-- the faction, orders and faulty lines that a text gives; TooLong for more than most_bytes bytes, else NoHeader without
-- a line that begins with `#ATLANTIS`, else BadHeader if the first such line names no faction
unfoldable pub reading : WorldValue → List ℕ → Result Reading MailFault
reading world text =
    if nat_lt most_bytes (length text) then Err TooLong
    else after_header world (header_from 1 (lines text))

-- ---- what the code returns

-- an order with its line and unit, as the code returned it, with its name as bytes in place of a span of the text
abbrev pub entry_value : List ℕ → Entry → EntryValue
entry_value text e = record { line = e.line; target = e.target; order_value = order_value text e.order }

-- the faction, orders and faulty lines of a mailing that the code returned, with names as bytes
abbrev pub reading_of : Mailing → Reading
reading_of m = record { faction = m.faction; entries = map (entry_value m.text) m.entries; faults = m.faults }

-- a mailing that the code returned is exactly what its own text gives with a world
abbrev pub IsReadWith : WorldValue → Mailing → Type 0
IsReadWith world m = reading world m.text ≡ Ok (reading_of m)

-- `AgreesOrMemory view result read`: what a call returned, `result`, agrees with `read`, the result of the definition.
-- Both are the same fault, or `view` of the call's value is the definition's value. Or the call returned Memory,
-- whatever the definition gives.
abbrev pub AgreesOrMemory : {X Y : Type 0} → (X → Y) → Result X MailFault → Result Y MailFault → Type 0
AgreesOrMemory view (Ok x) read = read ≡ Ok (view x)
AgreesOrMemory view (Err Memory) read = Unit {0}
AgreesOrMemory view (Err TooLong) read = read ≡ Err TooLong
AgreesOrMemory view (Err NoHeader) read = read ≡ Err NoHeader
AgreesOrMemory view (Err BadHeader) read = read ≡ Err BadHeader
