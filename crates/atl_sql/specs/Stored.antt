-- Rows whose values are in the forms of their columns.
use Rattle.std.specs.Prelude.{ℕ, List}
use Rattle.sqlite.specs.Order.{Row}
use Rattle.sqlite_rules.specs.Lists.{Has}
use Rattle.atl_columns.specs.Fields.{columns_from}
use Rattle.atl_columns.specs.Forms.{Form, IsTyped}

-- the first `count` columns of a row; NULL past its end
abbrev pub first_columns : ℕ → Row → Row
first_columns = columns_from 0

-- the first values of each of the rows can be read in these forms, one for each (`IsTyped`)
abbrev pub AreTyped : List Form → List Row → Type 0
AreTyped forms rows = (row : Row) → Has rows row → IsTyped forms row
