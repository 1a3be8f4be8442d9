-- The effect of one line of a mailing. See docs/RULES.md, "Reading a mailing". Where a comment says nothing else,
-- `state` is the reader's state before the line: which unit is named, and which block is open. `given` says which
-- aliases earlier FORM lines gave: an alias is the number by which a mailing names a new unit. A block is what FORM
-- opens, up to END or UNIT. Its orders are for the new unit; those of a skipped block, after a faulty FORM, for nobody.
use Rattle.std.specs.Prelude.{ℕ, Bool, ◌&&◌, ◌||◌, List, [], ◌∷◌, codes, Option, Some, None, Result, Ok, Err, nat_le, ◌==◌, if◌then◌else◌}
use Rattle.std.specs.List.{list_all}
use Rattle.std.specs.Option.{option_map}
use Rattle.atl_world.specs.Letters.{space, tilde}
use Rattle.atl_world.specs.Worlds.{WorldValue}
use Rattle.atl_words.specs.Letters.{tab}
use Rattle.atl_lines.specs.declared.order.UnitRef.{UnitRef}
use Rattle.atl_lines.specs.declared.order.UnitRef.TheVariants.{Number, Alias}
use Rattle.atl_lines.specs.declared.fault.LineFault.{LineFault}
use Rattle.atl_lines.specs.declared.fault.LineFault.TheVariants.{NoUnit, UnknownOrder, BadByte, BadAlias, NestedForm, EndAlone}
use Rattle.atl_lines.specs.declared.reading.Keyword.{Keyword}
use Rattle.atl_lines.specs.declared.reading.Keyword.TheVariants as keywords
use Rattle.atl_lines.specs.declared.reading.ReaderState.{ReaderState}
use Rattle.atl_lines.specs.declared.reading.ReaderState.TheVariants.{Nowhere, At, Forming, Skipping}
use Rattle.atl_lines.specs.Aliasing.{with_alias}
use Rattle.atl_words.specs.Words.{WordText, words, is_word}
use Rattle.atl_lines.specs.Verbs.{verb_of}
use Rattle.atl_lines.specs.Operands.{number_at, alias_at}
use Rattle.atl_lines.specs.declared.order.Operands.TheVariants as operands
use Rattle.atl_world.specs.declared.verb.Verb.TheVariants as verbs
use Rattle.atl_lines.specs.Orders.{OrderValue, order_of, read_order}

-- whether a byte may be in a line: tab, and from space to `~`
abbrev pub is_plain : ℕ → Bool
is_plain b = b == tab || (nat_le space b && nat_le b tilde)

-- the keyword that a word is, in any case: UNIT, END, FORM, or that of a verb (`verb_of`); None if it is no keyword
abbrev pub keyword_of : WordText → Option Keyword
keyword_of w =
    if is_word (codes "UNIT") w then Some keywords.Unit
    else if is_word (codes "END") w then Some keywords.End
    else if is_word (codes "FORM") w then Some keywords.Form
    else option_map keywords.Order (verb_of w)

-- the effect of a line: nothing, a fault, or an order for a unit
pub data Effect : Type 0 where
  nothing : Effect
  faulty : LineFault → Effect
  says : UnitRef → OrderValue → Effect

-- the step of a line: its effect, the reader's state after it (`state`), and which aliases were given so far (`given`)
pub record LineStep : Type 0 where
  pub effect : Effect
  pub state : ReaderState
  pub given : ℕ → Bool

-- the step of a line (`LineStep`) made of its effect, the reader's state after it, and the aliases given so far
abbrev pub step : Effect → ReaderState → (ℕ → Bool) → LineStep
step effect state given = record { effect = effect; state = state; given = given }

-- The unit that an order is for, in a state of the reader: the unit that is named, or in an open block the new unit by
-- its alias. It is None if no unit is named, or in a skipped block.
abbrev pub target : ReaderState → Option UnitRef
target Nowhere = None
target (At n) = Some (Number n)
target (Forming parent alias) = Some (Alias alias)
target (Skipping parent) = None

-- the reader's state outside of blocks in which the unit of this number is named, or no unit if it is None
abbrev pub state_naming_unit : Option ℕ → ReaderState
state_naming_unit None = Nowhere
state_naming_unit (Some n) = At n

-- The step of a UNIT line, by the number read after UNIT or its fault. An open block ends, and further orders are for
-- the unit of this number; with a fault, which is the line's, they are for no unit.
abbrev pub unit_step : (ℕ → Bool) → Result (ℕ × List WordText) LineFault → LineStep
unit_step given (Ok n) = step nothing (At n.0) given
unit_step given (Err fault) = step (faulty fault) Nowhere given

-- The step of an END line: the open block ends, and the unit that was named before it, if one was, is named again. If
-- no block is open, the fault is EndAlone, and the state stays.
abbrev pub end_step : ReaderState → (ℕ → Bool) → LineStep
end_step Nowhere given = step (faulty EndAlone) Nowhere given
end_step (At n) given = step (faulty EndAlone) (At n) given
end_step (Forming parent alias) given = step nothing (At parent) given
end_step (Skipping parent) given = step nothing (state_naming_unit parent) given

-- the order FORM with an alias
abbrev pub form_value : ℕ → OrderValue
form_value alias = order_of verbs.Form (operands.Alias alias)

-- The step of a FORM line for the unit `parent`, outside of blocks, by the alias read after FORM or its fault. A new
-- alias gives the order FORM for this unit, is given from now on, and its block opens. On a fault, which is BadAlias
-- for an alias given before, a skipped block opens.
abbrev pub block_step : ℕ → (ℕ → Bool) → Result (ℕ × List WordText) LineFault → LineStep
block_step parent given (Ok n) =
    if given n.0
    then step (faulty BadAlias) (Skipping (Some parent)) given
    else step (says (Number parent) (form_value n.0)) (Forming parent n.0) (with_alias given n.0)
block_step parent given (Err fault) = step (faulty fault) (Skipping (Some parent)) given

-- The step of a FORM line. For the unit named outside of blocks, a block opens (`block_step`). If no unit is named, the
-- fault is NoUnit, and a skipped block opens. Inside a block the fault is NestedForm, and the open block stays.
abbrev pub form_step : ReaderState → (ℕ → Bool) → List WordText → LineStep
form_step Nowhere given ws = step (faulty NoUnit) (Skipping None) given
form_step (At n) given ws = block_step n given (alias_at ws)
form_step (Forming parent alias) given ws = step (faulty NestedForm) (Forming parent alias) given
form_step (Skipping parent) given ws = step (faulty NestedForm) (Skipping parent) given

-- the effect of an order's line, given the unit that it is for: the order, or the fault of its words
abbrev pub effect_for : UnitRef → Result OrderValue LineFault → Effect
effect_for unit (Ok order_value) = says unit order_value
effect_for unit (Err fault) = faulty fault

-- the effect of an order's line, given the unit that it is for, if any: NoUnit if it is for none, whatever fault its
-- words have; else the order, or the fault of its words
abbrev pub order_effect : Option UnitRef → Result OrderValue LineFault → Effect
order_effect None order_value = faulty NoUnit
order_effect (Some unit) order_value = effect_for unit order_value

-- the step of a line by its keyword and the words after it; the fault is UnknownOrder if there is no keyword. This
-- fault, and an order other than FORM, leave state and aliases.
abbrev pub keyword_step : WorldValue → ReaderState → (ℕ → Bool) → Option Keyword → List WordText → LineStep
keyword_step world state given None ws = step (faulty UnknownOrder) state given
keyword_step world state given (Some keywords.Unit) ws = unit_step given (number_at ws)
keyword_step world state given (Some keywords.End) ws = end_step state given
keyword_step world state given (Some keywords.Form) ws = form_step state given ws
keyword_step world state given (Some (keywords.Order verb)) ws =
    step (order_effect (target state) (read_order world verb ws)) state given

-- the step of a line by its words; a line without words changes nothing
abbrev pub words_step : WorldValue → ReaderState → (ℕ → Bool) → List WordText → LineStep
words_step world state given [] = step nothing state given
words_step world state given (w ∷ ws) = keyword_step world state given (keyword_of w) ws

-- the step of one line: if a byte may not be in a line, BadByte, and state and aliases stay; else that of its words
unfoldable pub line_step : WorldValue → ReaderState → (ℕ → Bool) → List ℕ → LineStep
line_step world state given line =
    if list_all is_plain line then words_step world state given (words line)
    else step (faulty BadByte) state given
