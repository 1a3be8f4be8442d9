-- The rules for reading a mailing, as relations: of one line, of all lines after the header, and of a text.
-- See docs/RULES.md, "Reading a mailing". `state` is the reader's state before the line, or before the first of the
-- lines: which unit is named, and which block is open. `given` says which aliases earlier FORM lines gave: an alias is
-- the number by which a mailing names a new unit. A block is what FORM opens, up to END or UNIT. Its orders are for
-- this unit, or in a skipped block, after a faulty FORM, for nobody. `#ATLANTIS` and `#END` count in any case.
use Rattle.std.specs.Prelude.{◌≡◌, ℕ, ◌+◌, ◌<◌, ◌≤◌, ◌++◌, Bool, true, false, List, [], ◌∷◌, length, codes, Option, Some, None, Result, Ok, Err}
use Rattle.std.specs.List.{All, list_all, flat_map}
use Rattle.atl_world.specs.Worlds.{WorldValue}
use Rattle.atl_lines.specs.declared.order.UnitRef.{UnitRef}
use Rattle.atl_lines.specs.declared.order.UnitRef.TheVariants.{Number}
use Rattle.atl_lines.specs.declared.fault.FaultyLine.{FaultyLine}
use Rattle.atl_lines.specs.declared.fault.LineFault.{LineFault}
use Rattle.atl_lines.specs.declared.fault.LineFault.TheVariants.{NoUnit, UnknownOrder, BadByte, BadAlias, NestedForm, EndAlone}
use Rattle.atl_world.specs.declared.verb.Verb.{Verb}
use Rattle.atl_lines.specs.declared.reading.Keyword.{Keyword}
use Rattle.atl_lines.specs.declared.reading.Keyword.TheVariants as keywords
use Rattle.atl_lines.specs.declared.reading.ReaderState.{ReaderState}
use Rattle.atl_lines.specs.declared.reading.ReaderState.TheVariants.{Nowhere, At, Forming, Skipping}
use Rattle.atl_words.specs.declared.mail_fault.MailFault.{MailFault}
use Rattle.atl_words.specs.declared.mail_fault.MailFault.TheVariants.{TooLong, NoHeader, BadHeader}
use Rattle.atl_words.specs.Limits.{most_bytes}
use Rattle.atl_lines.specs.Aliasing.{no_alias, with_alias}
use Rattle.atl_words.specs.TextLines.{lines}
use Rattle.atl_words.specs.Words.{WordText, words, begins}
use Rattle.atl_lines.specs.Operands.{number_at, alias_at}
use Rattle.atl_lines.specs.Orders.{OrderValue, read_order}
use Rattle.atl_lines.specs.Reading.{is_plain, keyword_of, nothing, faulty, says, LineStep, step, form_value, target, state_naming_unit, line_step}
use Rattle.atl_orders.specs.Mailing.{EntryValue, entry_of, fault_of, effects, Reading, reading}
use Rattle.atl_words.specs.Header.{faction_of}

-- the reader's state once the open block is closed: the unit that was named before it, if one was, is named again; None
-- if no block is open
abbrev pub state_after_block : ReaderState → Option ReaderState
state_after_block Nowhere = None
state_after_block (At n) = None
state_after_block (Forming parent alias) = Some (At parent)
state_after_block (Skipping parent) = Some (state_naming_unit parent)

-- a word, which is the first of a line, is this keyword (`keyword_of`)
abbrev pub FirstWordIs : WordText → Keyword → Type 0
FirstWordIs w k = keyword_of w ≡ Some k

-- the rules for a line with words, by the first word w and the words ws after it: the line has the step s
pub data WordsSay (world : WorldValue) (state : ReaderState) (given : ℕ → Bool)
    (w : WordText) (ws : List WordText) (s : LineStep) : Type 0 where
  -- UNIT with a number: further orders are for the unit of this number, and an open block ends
  unit_named : FirstWordIs w keywords.Unit → (n : ℕ) (rest : List WordText) → number_at ws ≡ Ok (n, rest)
      → s ≡ step nothing (At n) given → WordsSay world state given w ws s
  -- UNIT with a faulty number or none: the line has this fault, further orders are for no unit, and an open block ends
  unit_faulty : FirstWordIs w keywords.Unit → (fault : LineFault) → number_at ws ≡ Err fault
      → s ≡ step (faulty fault) Nowhere given → WordsSay world state given w ws s
  -- END in a block: the block is closed
  block_closed : FirstWordIs w keywords.End → (out : ReaderState) → state_after_block state ≡ Some out
      → s ≡ step nothing out given → WordsSay world state given w ws s
  -- END outside of blocks: the line has the fault EndAlone
  end_alone : FirstWordIs w keywords.End → state_after_block state ≡ None
      → s ≡ step (faulty EndAlone) state given → WordsSay world state given w ws s
  -- FORM in a block: the line has the fault NestedForm, and the block stays open
  form_nested : FirstWordIs w keywords.Form → (out : ReaderState) → state_after_block state ≡ Some out
      → s ≡ step (faulty NestedForm) state given → WordsSay world state given w ws s
  -- FORM where no unit is named: the line has the fault NoUnit, and a block opens that is skipped
  form_nowhere : FirstWordIs w keywords.Form → state ≡ Nowhere
      → s ≡ step (faulty NoUnit) (Skipping None) given → WordsSay world state given w ws s
  -- FORM for a named unit outside of blocks, with a faulty alias or none: it has this fault, and a skipped block opens
  form_faulty : FirstWordIs w keywords.Form → (n : ℕ) → state ≡ At n → (fault : LineFault) → alias_at ws ≡ Err fault
      → s ≡ step (faulty fault) (Skipping (Some n)) given → WordsSay world state given w ws s
  -- FORM for a named unit outside of blocks, with an alias given before: the fault BadAlias, and a skipped block opens
  form_again : FirstWordIs w keywords.Form → (n : ℕ) → state ≡ At n
      → (alias : ℕ) (rest : List WordText) → alias_at ws ≡ Ok (alias, rest) → given alias ≡ true
      → s ≡ step (faulty BadAlias) (Skipping (Some n)) given → WordsSay world state given w ws s
  -- FORM for a named unit outside of blocks, with a new alias: the line gives the order FORM for this unit, the alias
  -- is given now, and the new unit's block opens
  form_new : FirstWordIs w keywords.Form → (n : ℕ) → state ≡ At n
      → (alias : ℕ) (rest : List WordText) → alias_at ws ≡ Ok (alias, rest) → given alias ≡ false
      → s ≡ step (says (Number n) (form_value alias)) (Forming n alias) (with_alias given alias)
      → WordsSay world state given w ws s
  -- an order where no unit is named, or in a block that is skipped: the line has the fault NoUnit
  order_nowhere : (verb : Verb) → FirstWordIs w (keywords.Order verb) → target state ≡ None
      → s ≡ step (faulty NoUnit) state given → WordsSay world state given w ws s
  -- an order for the named unit, or in a block for the new unit, whose words have a fault: the line has this fault
  order_faulty : (verb : Verb) → FirstWordIs w (keywords.Order verb) → (unit : UnitRef) → target state ≡ Some unit
      → (fault : LineFault) → read_order world verb ws ≡ Err fault
      → s ≡ step (faulty fault) state given → WordsSay world state given w ws s
  -- an order whose words have no fault: it is for the named unit, or in a block for the new unit
  order_said : (verb : Verb) → FirstWordIs w (keywords.Order verb) → (unit : UnitRef) → target state ≡ Some unit
      → (order_value : OrderValue) → read_order world verb ws ≡ Ok order_value
      → s ≡ step (says unit order_value) state given → WordsSay world state given w ws s
  -- any other first word: the line has the fault UnknownOrder
  unknown : keyword_of w ≡ None
      → s ≡ step (faulty UnknownOrder) state given → WordsSay world state given w ws s

-- The rules for one line of a mailing: the line has the step s. After the first rule each byte may be in a line.
pub data LineSays (world : WorldValue) (state : ReaderState) (given : ℕ → Bool) (line : List ℕ) (s : LineStep) : Type 0 where
  -- a line with a byte that no line may have: it has the fault BadByte
  bad_byte : list_all is_plain line ≡ false
      → s ≡ step (faulty BadByte) state given → LineSays world state given line s
  -- a line without words, such as a comment: it gives nothing
  no_word : list_all is_plain line ≡ true → words line ≡ []
      → s ≡ step nothing state given → LineSays world state given line s
  -- a line with words: it has the step that the rules for its words (`WordsSay`) allow
  some_words : list_all is_plain line ≡ true → (w : WordText) (ws : List WordText) → words line ≡ w ∷ ws
      → WordsSay world state given w ws s → LineSays world state given line s

-- The rules for the lines after the header: which orders and which faulty lines they give. The arguments before the
-- lines are the first line's number, the reader's state and the given aliases.
pub data BodySays (world : WorldValue) : ℕ → ReaderState → (ℕ → Bool) → List (List ℕ)
    → List EntryValue → List FaultyLine → Type 0 where
  -- where no line is left, there are no further orders and faulty lines
  text_ended : (n : ℕ) (state : ReaderState) (given : ℕ → Bool) → BodySays world n state given [] [] []
  -- a line that begins with `#END`: no orders and no faulty lines, from this line on
  orders_ended : (n : ℕ) (state : ReaderState) (given : ℕ → Bool) (line : List ℕ) (rest : List (List ℕ))
      → begins (codes "#END") (words line) ≡ true → BodySays world n state given (line ∷ rest) [] []
  -- any other line: its order or its fault, if it has one, and then those of the lines after it
  one_line : (n : ℕ) (state : ReaderState) (given : ℕ → Bool) (line : List ℕ) (rest : List (List ℕ))
      → begins (codes "#END") (words line) ≡ false
      → (s : LineStep) → LineSays world state given line s
      → (entries : List EntryValue) (faults : List FaultyLine) → BodySays world (n + 1) s.state s.given rest entries faults
      → BodySays world n state given (line ∷ rest) (entry_of (n, s.effect) ++ entries) (fault_of (n, s.effect) ++ faults)

-- whether a line is a header: its first word is `#ATLANTIS`
abbrev pub is_header : List ℕ → Bool
is_header line = begins (codes "#ATLANTIS") (words line)

-- no line of a list is a header
abbrev pub HaveNoHeader : List (List ℕ) → Type 0
HaveNoHeader lines = All (λ line. is_header line ≡ false) lines

-- `header` is the first header in a list of lines: `above` are the lines above it, and `below` those below it
pub record HaveHeader (lines above : List (List ℕ)) (header : List ℕ) (below : List (List ℕ)) : Type 0 where
  pub whole : lines ≡ above ++ header ∷ below
  pub leads : is_header header ≡ true
  pub first : HaveNoHeader above

-- The rules for a whole text: it is read as `read`, a mailing or a fault. After the first rule the text isn't too long.
pub data TextSays (world : WorldValue) (text : List ℕ) (read : Result Reading MailFault) : Type 0 where
  -- a text of more than most_bytes bytes: it is no mailing, by the fault TooLong
  too_long : most_bytes < length text
      → read ≡ Err TooLong → TextSays world text read
  -- a text without a header: it is no mailing, by the fault NoHeader
  no_header : length text ≤ most_bytes → HaveNoHeader (lines text)
      → read ≡ Err NoHeader → TextSays world text read
  -- a text whose first header names no faction: it is no mailing, by the fault BadHeader
  bad_header : length text ≤ most_bytes
      → (above : List (List ℕ)) (header : List ℕ) (below : List (List ℕ)) → HaveHeader (lines text) above header below
      → faction_of (words header) ≡ None
      → read ≡ Err BadHeader → TextSays world text read
  -- a text whose first header names a faction: a mailing of this faction, with what the lines below the header give
  mailing : length text ≤ most_bytes
      → (above : List (List ℕ)) (header : List ℕ) (below : List (List ℕ)) → HaveHeader (lines text) above header below
      → (faction : ℕ) → faction_of (words header) ≡ Some faction
      → (entries : List EntryValue) (faults : List FaultyLine)
      → BodySays world (length above + 2) Nowhere no_alias below entries faults
      → read ≡ Ok (record { faction = faction; entries = entries; faults = faults }) → TextSays world text read

-- In any world and state, and with any aliases given before, the step that the function `line_step` gives a line is the
-- one that the rules `LineSays` allow, and no other.
abbrev pub LineRules : Type 0
LineRules =
    ((world : WorldValue) (state : ReaderState) (given : ℕ → Bool) (line : List ℕ)
    → LineSays world state given line (line_step world state given line))
    × ((world : WorldValue) (state : ReaderState) (given : ℕ → Bool) (line : List ℕ) (s : LineStep)
    → LineSays world state given line s → s ≡ line_step world state given line)

-- the orders of lines, up to the first `#END`, if any, by the function `effects`; the first line has the number n
abbrev pub entries_from : WorldValue → ℕ → ReaderState → (ℕ → Bool) → List (List ℕ) → List EntryValue
entries_from world n state given lines = flat_map entry_of (effects world n state given lines)

-- the faulty lines, up to the first `#END`, if any, by the function `effects`; the first line has the number n
abbrev pub faults_from : WorldValue → ℕ → ReaderState → (ℕ → Bool) → List (List ℕ) → List FaultyLine
faults_from world n state given lines = flat_map fault_of (effects world n state given lines)

-- The law for any list of lines after the header, of which the first has the number n. The orders and the faulty lines
-- that the function `effects` gives are those that the rules `BodySays` allow, in the same order, and no others. This
-- holds for any world, any state of the reader before the lines, and any aliases given so far.
abbrev pub BodyRules : Type 0
BodyRules =
    ((world : WorldValue) (n : ℕ) (state : ReaderState) (given : ℕ → Bool) (lines : List (List ℕ))
    → BodySays world n state given lines (entries_from world n state given lines) (faults_from world n state given lines))
    × ((world : WorldValue) (n : ℕ) (state : ReaderState) (given : ℕ → Bool) (lines : List (List ℕ))
    (entries : List EntryValue) (faults : List FaultyLine)
    → BodySays world n state given lines entries faults
    → (entries ≡ entries_from world n state given lines) × (faults ≡ faults_from world n state given lines))

-- The result that `reading` gives a text with a world is the one that the rules `TextSays` allow, and no other.
abbrev pub TextRules : Type 0
TextRules =
    ((world : WorldValue) (text : List ℕ) → TextSays world text (reading world text))
    × ((world : WorldValue) (text : List ℕ) (read : Result Reading MailFault)
    → TextSays world text read → read ≡ reading world text)
