-- How the words after a keyword are read. NEW and the directions are read in any case (`is_word`).
-- See docs/RULES.md, "Orders" and "Names in orders". MissingWord comes where the line has no such word; the other fault
-- that a comment names is that of a word that isn't as said. Of a unit, BadAlias is for the word after NEW: the alias,
-- by which the mailing names a new unit.
use Rattle.std.specs.Prelude.{ℕ, List, [], ◌∷◌, codes, Option, Some, None, Result, Ok, Err, ◌==◌, if◌then◌else◌}
use Rattle.atl_words.specs.Limits.{last_alias, most_number}
use Rattle.atl_world.specs.Worlds.{WorldValue}
use Rattle.atl_world.specs.Steps.{◌>>=◌}
use Rattle.atl_world.specs.Lookup.{item_named, skill_named, kind_named}
use Rattle.atl_lines.specs.declared.order.UnitRef.{UnitRef}
use Rattle.atl_lines.specs.declared.order.UnitRef.TheVariants.{Number, Alias}
use Rattle.atl_world.specs.declared.direction.Direction.{Direction}
use Rattle.atl_world.specs.declared.direction.Direction.TheVariants.{North, South, East, West}
use Rattle.atl_lines.specs.declared.fault.LineFault.{LineFault}
use Rattle.atl_lines.specs.declared.fault.LineFault.TheVariants.{BadNumber, UnknownThing, MissingWord, BadAlias, BadDirection}
use Rattle.atl_words.specs.Words.{WordText, is_word, not_zero, number_of}

-- the value of an option as a result, or the given fault where the option has none
abbrev pub or_fault : {X : Type 0} → LineFault → Option X → Result X LineFault
or_fault fault None = Err fault
or_fault fault (Some x) = Ok x

-- the next word, and the words after it; else MissingWord
abbrev pub word_at : List WordText → Result (WordText × List WordText) LineFault
word_at [] = Err MissingWord
word_at (w ∷ ws) = Ok (w, ws)

-- the next word as a number from 1 to `most`, and the words after it; else MissingWord or `fault`
unfoldable pub count_at : ℕ → LineFault → List WordText → Result (ℕ × List WordText) LineFault
count_at most fault ws = do
  w ← word_at ws
  n ← or_fault fault (not_zero (number_of most w.0.bytes))
  Ok (n, w.1)

-- the next word as a number from 1 to 999,999,999, and the words after it; else MissingWord or BadNumber
abbrev pub number_at : List WordText → Result (ℕ × List WordText) LineFault
number_at ws = count_at most_number BadNumber ws

-- the next word as an alias from 1 to 9,999, and the words after it; else MissingWord or BadAlias
abbrev pub alias_at : List WordText → Result (ℕ × List WordText) LineFault
alias_at ws = count_at last_alias BadAlias ws

-- a unit by its number, or by NEW and an alias, and the words after it; else MissingWord, BadNumber or BadAlias
unfoldable pub unit_at : List WordText → Result (UnitRef × List WordText) LineFault
unit_at ws = do
  w ← word_at ws
  if is_word (codes "NEW") w.0
      then (alias_at w.1 >>= λ n. Ok (Alias n.0, n.1))
      else (number_at ws >>= λ n. Ok (Number n.0, n.1))

-- the number of the item that the next word names (`item_named`); else MissingWord or UnknownThing
abbrev pub item_at : WorldValue → List WordText → Result ℕ LineFault
item_at world ws = do
  w ← word_at ws
  or_fault UnknownThing (item_named world w.0.bytes w.0.quoted)

-- an amount from 1 to 999,999,999, then an item's number (`item_at`); else MissingWord, BadNumber or UnknownThing
abbrev pub amount_of_item_at : WorldValue → List WordText → Result (ℕ × ℕ) LineFault
amount_of_item_at world ws = do
  amount ← number_at ws
  item ← item_at world amount.1
  Ok (amount.0, item)

-- the number of the skill that the next word names (`skill_named`); else MissingWord or UnknownThing
abbrev pub skill_at : WorldValue → List WordText → Result ℕ LineFault
skill_at world ws = do
  w ← word_at ws
  or_fault UnknownThing (skill_named world w.0.bytes w.0.quoted)

-- the number of the kind of structure that the next word names (`kind_named`); else MissingWord or UnknownThing
abbrev pub kind_at : WorldValue → List WordText → Result ℕ LineFault
kind_at world ws = do
  w ← word_at ws
  or_fault UnknownThing (kind_named world w.0.bytes w.0.quoted)

-- the direction that a word names, None if it names none
abbrev pub direction_of : WordText → Option Direction
direction_of w =
    if is_word (codes "NORTH") w then Some North
    else if is_word (codes "SOUTH") w then Some South
    else if is_word (codes "EAST") w then Some East
    else if is_word (codes "WEST") w then Some West
    else None

-- the next word as a direction; else MissingWord or BadDirection
abbrev pub direction_at : List WordText → Result Direction LineFault
direction_at ws = do
  w ← word_at ws
  or_fault BadDirection (direction_of w.0)

-- the unit whose number, from 1 to 999,999,999, a word writes; else BadNumber
abbrev pub unit_by_number : WordText → Result UnitRef LineFault
unit_by_number w = or_fault BadNumber (not_zero (number_of most_number w.bytes)) >>= λ n. Ok (Number n)

-- the unit whose alias, from 1 to 9,999, a word after NEW writes; else BadAlias
abbrev pub new_unit_ref : WordText → Result UnitRef LineFault
new_unit_ref w = or_fault BadAlias (not_zero (number_of last_alias w.bytes)) >>= λ n. Ok (Alias n)

-- the result of reading one unit, put in front of the result of reading further units; or the first fault
abbrev pub and_then_units : Result UnitRef LineFault → Result (List UnitRef) LineFault → Result (List UnitRef) LineFault
and_then_units unit units = unit >>= λ u. units >>= λ us. Ok (u ∷ us)

-- the units that all words up to the line's end name, none or more; else the first fault, MissingWord for a last NEW
unfoldable pub units_of : List WordText → Result (List UnitRef) LineFault
units_of [] = Ok []
units_of (w ∷ []) = if is_word (codes "NEW") w then Err MissingWord else and_then_units (unit_by_number w) (Ok [])
units_of (w ∷ v ∷ ws) =
    if is_word (codes "NEW") w then and_then_units (new_unit_ref v) (units_of ws)
    else and_then_units (unit_by_number w) (units_of (v ∷ ws))

-- the units that all words up to the line's end name; else the first fault, MissingWord where there are no words
abbrev pub some_units_at : List WordText → Result (List UnitRef) LineFault
some_units_at [] = Err MissingWord
some_units_at (w ∷ ws) = units_of (w ∷ ws)
