-- What holds of all mailings that are read: a faction in range, strictly ascending line numbers, and orders in bounds.
-- The operands of an order are what the words after its verb name. The verb's shape says of which kind they are.
use Rattle.std.specs.Prelude.{◌≡◌, ◌≤◌, ◌<◌, ℕ, true, List, [], ◌∷◌, length, Some, None, Ok}
use Rattle.std.specs.List.{All}
use Rattle.atl_words.specs.Limits.{most_number, last_alias, last_faction}
use Rattle.atl_world.specs.Names.{name_ok}
use Rattle.atl_world.specs.Worlds.{WorldValue}
use Rattle.atl_lines.specs.declared.order.UnitRef.{UnitRef}
use Rattle.atl_lines.specs.declared.order.UnitRef.TheVariants.{Number, Alias}
use Rattle.atl_lines.specs.declared.order.Operands.TheVariants as operands
use Rattle.atl_world.specs.declared.verb.Shape.{Shape}
use Rattle.atl_world.specs.declared.verb.Shape.TheVariants as shapes
use Rattle.atl_lines.specs.Orders.{OperandsValue, OrderValue}
use Rattle.atl_world.specs.Verbs.{row_of}
use Rattle.atl_orders.specs.Mailing.{EntryValue, Reading, reading}

-- `IsWithin most n`: the number n is from 1 to `most`
abbrev pub IsWithin : ℕ → ℕ → Type 0
IsWithin most n = (1 ≤ n) × (n ≤ most)

-- a number is from 1 to 999,999,999
abbrev pub IsNumber : ℕ → Type 0
IsNumber n = IsWithin most_number n

-- an alias, the number by which a mailing names a new unit, is from 1 to 9,999
abbrev pub IsAlias : ℕ → Type 0
IsAlias alias = IsWithin last_alias alias

-- a reference to a unit is a number from 1 to 999,999,999, or an alias from 1 to 9,999
abbrev pub IsUnitRef : UnitRef → Type 0
IsUnitRef (Number n) = IsNumber n
IsUnitRef (Alias alias) = IsAlias alias

-- The operands of an order are in bounds: numbers and aliases in range, in a list one unit or more, names by the rule,
-- and items, skills and kinds that the world has. A flag, a direction, no operand and no kind always are.
abbrev pub AreOperandsOf : WorldValue → OperandsValue → Type 0
AreOperandsOf world operands.Nothing = Unit {0}
AreOperandsOf world (operands.Alias alias) = IsAlias alias
AreOperandsOf world (operands.Flag flag) = Unit {0}
AreOperandsOf world (operands.Number n) = IsNumber n
AreOperandsOf world (operands.Unit unit) = IsUnitRef unit
AreOperandsOf world (operands.Units units) = (0 < length units) × All IsUnitRef units
AreOperandsOf world (operands.UnitAndNumber to n) = IsUnitRef to × IsNumber n
AreOperandsOf world (operands.UnitAndGoods to amount item) = IsUnitRef to × IsNumber amount × (item < length world.items)
AreOperandsOf world (operands.Goods amount item) = IsNumber amount × (item < length world.items)
AreOperandsOf world (operands.Name what bytes) = name_ok bytes ≡ true
AreOperandsOf world (operands.Direction direction) = Unit {0}
AreOperandsOf world (operands.Kind None) = Unit {0}
AreOperandsOf world (operands.Kind (Some kind)) = kind < length world.kinds
AreOperandsOf world (operands.Skill skill) = skill < length world.skills
AreOperandsOf world (operands.Item item) = item < length world.items

-- the shape of operands: of which kind each is, such as a unit and a number
abbrev pub shape_of : OperandsValue → Shape
shape_of operands.Nothing = shapes.Nothing
shape_of (operands.Alias alias) = shapes.Alias
shape_of (operands.Flag flag) = shapes.Flag
shape_of (operands.Number n) = shapes.Number
shape_of (operands.Unit unit) = shapes.Unit
shape_of (operands.Units units) = shapes.Units
shape_of (operands.UnitAndNumber to n) = shapes.UnitAndNumber
shape_of (operands.UnitAndGoods to amount item) = shapes.UnitAndGoods
shape_of (operands.Goods amount item) = shapes.Goods
shape_of (operands.Name what bytes) = shapes.Name
shape_of (operands.Direction direction) = shapes.Direction
shape_of (operands.Kind kind) = shapes.Kind
shape_of (operands.Skill skill) = shapes.Skill
shape_of (operands.Item item) = shapes.Item

-- an order says what it is: its operands have the shape that the order table gives its verb, and are in bounds for the
-- world (`AreOperandsOf`)
pub record IsOrderOf (world : WorldValue) (order_value : OrderValue) : Type 0 where
  pub shape : shape_of order_value.operands ≡ (row_of order_value.verb).shape
  pub operands : AreOperandsOf world order_value.operands

-- an order of a mailing says what it is and is in bounds (`IsOrderOf`), as is the reference to the unit that it is for
pub record IsEntry (world : WorldValue) (e : EntryValue) : Type 0 where
  pub target : IsUnitRef e.target
  pub order : IsOrderOf world e.order_value

-- the line numbers of a mailing's orders are strictly ascending, and all are above the number given
abbrev pub LinesRise : ℕ → List EntryValue → Type 0
LinesRise n [] = Unit {0}
LinesRise n (e ∷ es) = (n < e.line) × LinesRise e.line es

-- A mailing as read is in bounds: its faction is from 1 to 9,999, and each order and the unit that it is for are in
-- bounds (`IsEntry`). The line numbers of the orders are above 0 and strictly ascending.
pub record IsReading (world : WorldValue) (r : Reading) : Type 0 where
  pub faction : IsWithin last_faction r.faction
  pub entries : All (IsEntry world) r.entries
  pub lines : LinesRise 0 r.entries

-- Every text that is read as a mailing, with any world, gives a faction, orders and line numbers that are in bounds for
-- this world, and orders whose operands have the shape of their verbs (`IsReading`).
abbrev pub ReadingsKeepBounds : Type 0
ReadingsKeepBounds = (world : WorldValue) (text : List ℕ) (r : Reading) → reading world text ≡ Ok r → IsReading world r
