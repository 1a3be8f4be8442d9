-- The texts of the statements, made of the names of a table and of its columns; and sets of statements.
-- A number `key` says how many columns, the first ones, are the key.
use Rattle.std.specs.Prelude.{◌≡◌, ◌+◌, ◌++◌, ℕ, List, [], ◌∷◌, codes, drop, length, map, take}
use Rattle.std.specs.List.{range_with_len}
use Rattle.sqlite.specs.Table.{Table}
use Rattle.sqlite.specs.Order.{Row}
use Rattle.sqlite_rules.specs.Lists.{Has}
use Rattle.atl_descriptions.specs.Sets.{Set}
use Rattle.atl_descriptions.specs.Tables.{all_parts, creation_of}

-- the names of a table's columns, in their order
abbrev pub column_names : Table → List (List ℕ)
column_names t = map (λ c. c.name) t.columns

-- the texts one after another, with `between` between each two
abbrev pub join_texts : List ℕ → List (List ℕ) → List ℕ
join_texts between [] = []
join_texts between (x ∷ []) = x
join_texts between (x ∷ y ∷ more) = x ++ between ++ join_texts between (y ∷ more)

-- the texts one after another, with a comma and a space between each two
abbrev pub comma_list : List (List ℕ) → List ℕ
comma_list = join_texts (codes ", ")

-- the text of the parameter with this number, from 1 to 9, such as `?1`
abbrev pub parameter : ℕ → List ℕ
parameter n = codes "?" ++ (48 + n) ∷ []

-- for each column name the text `NAME = ?N`, with `N` counted upwards from `n`, and at most 9
abbrev pub equations : ℕ → List (List ℕ) → List (List ℕ)
equations n [] = []
equations n (name ∷ more) = (name ++ codes " = " ++ parameter n) ∷ equations (n + 1) more

-- the text of the INSERT of a row of at most 9 values, which are the parameters in the order of the columns; where a
-- row has its key, the first `key` columns, it sets that row's other columns
abbrev pub upsert : Table → ℕ → List ℕ
upsert t key =
    codes "INSERT INTO " ++ t.name ++ codes " (" ++ comma_list (column_names t)
    ++ codes ") VALUES (" ++ comma_list (map parameter (range_with_len 1 (length t.columns)))
    ++ codes ") ON CONFLICT (" ++ comma_list (take key (column_names t))
    ++ codes ") DO UPDATE SET " ++ comma_list (equations (key + 1) (drop key (column_names t)))

-- the text of the DELETE of the rows whose key, the first `key` columns (at most 9), is given by the parameters
abbrev pub deletion : Table → ℕ → List ℕ
deletion t key =
    codes "DELETE FROM " ++ t.name ++ codes " WHERE " ++ join_texts (codes " AND ") (equations 1 (take key (column_names t)))

-- the SELECT that shows the columns `names` of all rows of a table, in the order of its key, the first `key` columns
abbrev pub selection_of : List (List ℕ) → Table → ℕ → List ℕ
selection_of names t key =
    codes "SELECT " ++ comma_list names ++ codes " FROM " ++ t.name
    ++ codes " ORDER BY " ++ comma_list (take key (column_names t))

-- the SELECT that shows all columns of all rows of a table, in the order of its key, the first `key` columns
abbrev pub selection : Table → ℕ → List ℕ
selection t key = selection_of (column_names t) t key

-- the SELECT that shows all columns of all rows of a table, and then the rowid, in the order of the first `key` columns
abbrev pub selection_with_ids : Table → ℕ → List ℕ
selection_with_ids t key = selection_of (column_names t ++ codes "rowid" ∷ []) t key

-- The text of the INSERT of the campaign row, in the second format. If the row is there, it sets all columns but `id`,
-- `format` and `world`.
abbrev pub campaign_upsert : List ℕ
campaign_upsert =
    codes "INSERT INTO campaign (id, format, month, next_faction, next_unit, next_structure, pass, world) VALUES (1, 2, ?1, ?2, ?3, ?4, ?5, ?6) ON CONFLICT (id) DO UPDATE SET month = ?1, next_faction = ?2, next_unit = ?3, next_structure = ?4, pass = ?5"

-- The text of the INSERT of the campaign row, in the second format. If the row is there, it sets `format` and `world`
-- alone.
abbrev pub upgrading_upsert : List ℕ
upgrading_upsert =
    codes "INSERT INTO campaign (id, format, month, next_faction, next_unit, next_structure, pass, world) VALUES (1, 2, ?1, ?2, ?3, ?4, ?5, ?6) ON CONFLICT (id) DO UPDATE SET format = 2, world = ?6"

-- ---- sets of statements

-- a set of statements, each a text with the values of its parameters
abbrev pub Statements : Type 1
Statements = List ℕ → Row → Type 0

-- the statements of this text, each with one of these rows as its parameters
abbrev pub RowStatements : List ℕ → Set → Statements
RowStatements text rows sql params = (sql ≡ text) × rows params

-- the one statement of this text with these parameters
abbrev pub OneStatement : List ℕ → Row → Statements
OneStatement text values = RowStatements text (λ row. row ≡ values)

-- the ten statements that make the tables of the second format, one for each; they have no parameters
abbrev pub Creations : Statements
Creations sql params = Has (map creation_of all_parts) sql × (params ≡ [])
