-- The columns of a row as a first column and the others, and what columns of a table in a schema are.
use Rattle.std.specs.Prelude.{◌≡◌, ℕ, true, List, [], ◌∷◌, map, Option, Some, None}
use Rattle.std.specs.List.{range_with_len}
use Rattle.sqlite_value.specs.declared.value.Value.{Value}
use Rattle.sqlite_value.specs.Order.{Row, column}
use Rattle.sqlite_value.specs.declared.value.Value.TheVariants.{Null}
use Rattle.sqlite_value.specs.declared.keys.Collation.TheVariants.{Binary}
use Rattle.sqlite_schema.specs.declared.schema.Kind.{Kind}
use Rattle.sqlite_schema.specs.declared.schema.Column.{Column}
use Rattle.sqlite_rules.specs.Cast.{cast}
use Rattle.atl_columns.specs.Forms.{Form, kind_of}

-- the values in `count` columns of a row, from the column at index `at` on; NULL past the row's end
abbrev pub columns_from : ℕ → ℕ → Row → Row
columns_from at count row = map (column row) (range_with_len at count)

-- a column of this name and kind, STRICT and NOT NULL, without a default; texts in it are compared by their bytes
abbrev pub strict_column : List ℕ → Kind → Column
strict_column name kind = record { name = name; kind = kind; is_strict = true; not_null = true; default = Null; collation = Binary }

-- a column for each of these names and forms in their order (`strict_column`); where one list is longer, its rest is
-- left out
abbrev pub strict_columns : List Form → List (List ℕ) → List Column
strict_columns [] names = []
strict_columns (form ∷ forms) [] = []
strict_columns (form ∷ forms) (name ∷ names) = strict_column name (kind_of form) ∷ strict_columns forms names

-- the row has exactly one value for each column, and the column's type leaves the value as it is (`cast`)
abbrev pub Fits : List Column → Row → Type 0
Fits [] [] = Unit {0}
Fits [] (v ∷ vs) = ⊥
Fits (c ∷ cs) [] = ⊥
Fits (c ∷ cs) (v ∷ vs) = (cast c.kind v ≡ v) × Fits cs vs

-- the pair of two values if both are there, else None
abbrev pub both : {X Y : Type 0} → Option X → Option Y → Option (X × Y)
both None b = None
both (Some x) None = None
both (Some x) (Some y) = Some (x, y)

-- the row of several fields: `one` writes the first field as a value, and `more` the others as the values after it
abbrev pub encode_then : {X Y : Type 0} → (X → Value) → (Y → Row) → X × Y → Row
encode_then one more x = one x.0 ∷ more x.1

-- the fields of a row: `one` reads the first value, and `more` the others; None if either can't, or the row is empty
abbrev pub decode_then : {X Y : Type 0} → (Value → Option X) → (Row → Option Y) → Row → Option (X × Y)
decode_then one more [] = None
decode_then one more (v ∷ vs) = both (one v) (more vs)

-- no fields, for a row without values; None for a row that has one
abbrev pub decode_end : Row → Option (Unit {0})
decode_end [] = Some tt
decode_end (v ∷ vs) = None
