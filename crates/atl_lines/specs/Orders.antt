-- What each order says: its verb, and its operands, which the words after it name. Words after these are ignored. The
-- shape of a verb says which operands it takes. A missing word is the fault MissingWord. See docs/RULES.md, "Orders".
use Rattle.std.specs.Prelude.{ℕ, List, [], ◌∷◌, codes, Option, Some, None, Result, Ok, Err, ◌==◌, if◌then◌else◌}
use Rattle.std.specs.List.{slice_range}
use Rattle.atl_world.specs.Names.{name_ok}
use Rattle.atl_world.specs.Worlds.{WorldValue}
use Rattle.atl_world.specs.Lookup.{name_of}
use Rattle.atl_lines.specs.declared.order.NameKind.{NameKind}
use Rattle.atl_lines.specs.declared.order.NameKind.TheVariants as kinds
use Rattle.atl_lines.specs.declared.order.Span.{Span}
use Rattle.atl_lines.specs.declared.order.Operands.{Operands}
use Rattle.atl_lines.specs.declared.order.Operands.TheVariants as operands
use Rattle.atl_lines.specs.declared.order.Order.{Order}
use Rattle.atl_lines.specs.declared.fault.LineFault.{LineFault}
use Rattle.atl_lines.specs.declared.fault.LineFault.TheVariants.{BadNumber, UnknownThing, BadName}
use Rattle.atl_world.specs.declared.verb.Shape.{Shape}
use Rattle.atl_world.specs.declared.verb.Shape.TheVariants as shapes
use Rattle.atl_world.specs.declared.verb.Verb.{Verb}
use Rattle.atl_world.specs.Verbs.{row_of}
use Rattle.atl_words.specs.Words.{WordText, is_word, number_of}
use Rattle.atl_world.specs.Steps.{◌>>=◌}
use Rattle.atl_lines.specs.Operands.{or_fault, word_at, number_at, alias_at, unit_at, item_at, amount_of_item_at, skill_at, kind_at, direction_at, some_units_at}

-- an order, with a name by its bytes, and items, skills and kinds by their numbers in the world
abbrev pub OrderValue : Type 0
OrderValue = Order (List ℕ)

-- what the words after a verb name, with a name by its bytes
abbrev pub OperandsValue : Type 0
OperandsValue = Operands (List ℕ)

-- the operands of a verb with a flag, by the word after it: false for 0, true for 1; else MissingWord or BadNumber
abbrev pub read_flag : List WordText → Result OperandsValue LineFault
read_flag ws = do
  w ← word_at ws
  n ← or_fault BadNumber (number_of 1 w.0.bytes)
  Ok (operands.Flag (n == 1))

-- the operands of a verb that takes one unit or more, read from all words up to the line's end; or their first fault
abbrev pub read_units : List WordText → Result OperandsValue LineFault
read_units ws = do
  units ← some_units_at ws
  Ok (operands.Units units)

-- the operands of a verb that takes a unit and a number, read from the words after it; or their first fault
abbrev pub read_unit_and_number : List WordText → Result OperandsValue LineFault
read_unit_and_number ws = do
  to ← unit_at ws
  number ← number_at to.1
  Ok (operands.UnitAndNumber to.0 number.0)

-- the operands of a verb that takes a unit, an amount and an item, read from the words after it; or their first fault
abbrev pub read_unit_and_goods : WorldValue → List WordText → Result OperandsValue LineFault
read_unit_and_goods world ws = do
  to ← unit_at ws
  goods ← amount_of_item_at world to.1
  Ok (operands.UnitAndGoods to.0 goods.0 goods.1)

-- what gets a new name by the word after NAME, in any case: unit, faction, building or ship; None for another word
abbrev pub kind_of_name : WordText → Option NameKind
kind_of_name w =
    if is_word (codes "UNIT") w then Some kinds.Unit
    else if is_word (codes "FACTION") w then Some kinds.Faction
    else if is_word (codes "BUILDING") w then Some kinds.Building
    else if is_word (codes "SHIP") w then Some kinds.Ship
    else None

-- the operands of NAME: what gets a new name, and the name; or BadName if the name breaks the rule of names
abbrev pub name_operands : NameKind → List ℕ → Result OperandsValue LineFault
name_operands what bytes = if name_ok bytes then Ok (operands.Name what bytes) else Err BadName

-- the operands of NAME, read from its words: what gets a new name (`kind_of_name`, else UnknownThing), and the name
-- (`name_of`, else BadName); MissingWord where one of the two words is missing
abbrev pub read_name : List WordText → Result OperandsValue LineFault
read_name ws = do
  w ← word_at ws
  what ← or_fault UnknownThing (kind_of_name w.0)
  v ← word_at w.1
  name_operands what (name_of v.0.bytes v.0.quoted)

-- the operands of a verb that takes a kind of structure or nothing, read from the words after it; or their first fault
abbrev pub read_kind : WorldValue → List WordText → Result OperandsValue LineFault
read_kind world [] = Ok (operands.Kind None)
read_kind world (w ∷ ws) = do
  kind ← kind_at world (w ∷ ws)
  Ok (operands.Kind (Some kind))

-- the operands of a verb that has this shape, read from the words after it; or their first fault
abbrev pub read_operands : WorldValue → Shape → List WordText → Result OperandsValue LineFault
read_operands world shapes.Nothing ws = Ok operands.Nothing
read_operands world shapes.Alias ws = alias_at ws >>= λ alias. Ok (operands.Alias alias.0)
read_operands world shapes.Flag ws = read_flag ws
read_operands world shapes.Number ws = number_at ws >>= λ n. Ok (operands.Number n.0)
read_operands world shapes.Unit ws = unit_at ws >>= λ unit. Ok (operands.Unit unit.0)
read_operands world shapes.Units ws = read_units ws
read_operands world shapes.UnitAndNumber ws = read_unit_and_number ws
read_operands world shapes.UnitAndGoods ws = read_unit_and_goods world ws
read_operands world shapes.Goods ws = amount_of_item_at world ws >>= λ goods. Ok (operands.Goods goods.0 goods.1)
read_operands world shapes.Name ws = read_name ws
read_operands world shapes.Direction ws = direction_at ws >>= λ d. Ok (operands.Direction d)
read_operands world shapes.Kind ws = read_kind world ws
read_operands world shapes.Skill ws = skill_at world ws >>= λ skill. Ok (operands.Skill skill)
read_operands world shapes.Item ws = item_at world ws >>= λ item. Ok (operands.Item item)

-- the order that has a verb and its operands
abbrev pub order_of : Verb → OperandsValue → OrderValue
order_of verb named = record { verb = verb; operands = named }

-- the order that a verb and the words after it give, or the first fault of these words
unfoldable pub read_order : WorldValue → Verb → List WordText → Result OrderValue LineFault
read_order world verb ws = do
  named ← read_operands world (row_of verb).shape ws
  Ok (order_of verb named)

-- ---- orders that the code returns, in which a name is a span of the text

-- the name that a span of a text means, as far as the text has the span: in a span without quotes `_` is a space
abbrev pub name_in : List ℕ → Span → List ℕ
name_in text span = name_of (slice_range text span.start span.end) span.quoted

-- operands that the code returned, with a name as its bytes in place of its span in the text
abbrev pub named : List ℕ → Operands Span → OperandsValue
named text operands.Nothing = operands.Nothing
named text (operands.Alias alias) = operands.Alias alias
named text (operands.Flag flag) = operands.Flag flag
named text (operands.Number n) = operands.Number n
named text (operands.Unit unit) = operands.Unit unit
named text (operands.Units units) = operands.Units units
named text (operands.UnitAndNumber to n) = operands.UnitAndNumber to n
named text (operands.UnitAndGoods to amount item) = operands.UnitAndGoods to amount item
named text (operands.Goods amount item) = operands.Goods amount item
named text (operands.Name what span) = operands.Name what (name_in text span)
named text (operands.Direction d) = operands.Direction d
named text (operands.Kind kind) = operands.Kind kind
named text (operands.Skill skill) = operands.Skill skill
named text (operands.Item item) = operands.Item item

-- an order that the code returned, with a name as its bytes in place of its span in the text
abbrev pub order_value : List ℕ → Order Span → OrderValue
order_value text order = order_of order.verb (named text order.operands)
