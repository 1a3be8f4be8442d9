-- The order table. See docs/RULES.md, "Orders" and "Orders of a month".
use Rattle.std.specs.Prelude.{ℕ, List, codes, Option, Some, None}
use Rattle.atl_world.specs.declared.verb.Row.{Row as CodeRow}
use Rattle.atl_world.specs.declared.verb.Shape.{Shape}
use Rattle.atl_world.specs.declared.verb.Shape.TheVariants as shapes
use Rattle.atl_world.specs.declared.verb.Slot.{Slot}
use Rattle.atl_world.specs.declared.verb.Slot.TheVariants.{MonthLong, Selling, Buying, Taxing, Recruiting}
use Rattle.atl_world.specs.declared.verb.Verb.{Verb}
use Rattle.atl_world.specs.declared.verb.Verb.TheVariants.{Form, Name, Guard, Enter, Leave, Promote, Give, Pay, Transfer, Sell, Buy, Tax, Recruit, Quit, Move, Sail, Build, Teach, Study, Produce, Work}

-- a row of the order table: the keyword, the shape of the words after it (what they name), and the order's slot, if any
pub record Row : Type 0 where
  pub keyword : List ℕ
  pub shape : Shape
  pub slot : Option Slot

-- the row of the order table with a keyword, a shape, and a slot or None
abbrev pub row : List ℕ → Shape → Option Slot → Row
row keyword shape slot = record { keyword = keyword; shape = shape; slot = slot }

-- the order table: the row of each verb; a mailing's last order for a unit in a slot replaces its earlier ones
abbrev pub row_of : Verb → Row
row_of Form = row (codes "FORM") shapes.Alias None
row_of Name = row (codes "NAME") shapes.Name None
row_of Guard = row (codes "GUARD") shapes.Flag None
row_of Enter = row (codes "ENTER") shapes.Number None
row_of Leave = row (codes "LEAVE") shapes.Nothing None
row_of Promote = row (codes "PROMOTE") shapes.Unit None
row_of Give = row (codes "GIVE") shapes.UnitAndGoods None
row_of Pay = row (codes "PAY") shapes.UnitAndNumber None
row_of Transfer = row (codes "TRANSFER") shapes.UnitAndNumber None
row_of Sell = row (codes "SELL") shapes.Goods (Some Selling)
row_of Buy = row (codes "BUY") shapes.Goods (Some Buying)
row_of Tax = row (codes "TAX") shapes.Nothing (Some Taxing)
row_of Recruit = row (codes "RECRUIT") shapes.Number (Some Recruiting)
row_of Quit = row (codes "QUIT") shapes.Number None
row_of Move = row (codes "MOVE") shapes.Direction (Some MonthLong)
row_of Sail = row (codes "SAIL") shapes.Direction (Some MonthLong)
row_of Build = row (codes "BUILD") shapes.Kind (Some MonthLong)
row_of Teach = row (codes "TEACH") shapes.Units (Some MonthLong)
row_of Study = row (codes "STUDY") shapes.Skill (Some MonthLong)
row_of Produce = row (codes "PRODUCE") shapes.Item (Some MonthLong)
row_of Work = row (codes "WORK") shapes.Nothing (Some MonthLong)

-- the keyword of a verb, in capitals
abbrev pub keyword : Verb → List ℕ
keyword verb = (row_of verb).keyword

-- the row of the definitions that has the keyword, the shape and the slot of a row of the code
abbrev pub row_value : CodeRow → Row
row_value r = row r.keyword.now r.shape r.slot
