-- The tables of a campaign: columns, keys, checks, CREATE TABLE texts, and schema. See docs/FORMATS.md, "Tables".
-- The file keeps each table, and each index, in a tree, which has a number.
-- The `views` of a schema are its views, and the triggers, tables and indexes that the database keeps as they are.
use Rattle.std.specs.Prelude.{◌≡◌, false, [], ◌∷◌, ◌++◌, Some, None, codes, pos, take, map, length, List, ℕ, ⊤}
use Rattle.std.specs.List.{AllByRecursion}
use Rattle.sqlite.specs.declared.types.Value.TheVariants.{Int}
use Rattle.sqlite.specs.Table.{Table}
use Rattle.sqlite.specs.Schema.{Schema}
use Rattle.sqlite.specs.Kind.TheVariants.{Integer, Text, Blob}
use Rattle.sqlite.specs.Collation.TheVariants.{Binary}
use Rattle.sqlite_catalog.specs.Listing.{automatic}
use Rattle.sqlite_schema.specs.declared.schema.Column.{Column}
use Rattle.sqlite_schema.specs.declared.schema.Index.{Index}
use Rattle.sqlite_sql.specs.Term.{lit, col, op2}
use Rattle.sqlite_sql.specs.declared.ops.BinaryOp.TheVariants.{Compare}
use Rattle.sqlite_sql.specs.declared.ops.CompareOp.TheVariants.{Eq}
use Rattle.sqlite_schema.specs.Rules.{guards}
use Rattle.sqlite_rules.specs.Lists.{Has}
use Rattle.sqlite_catalog.specs.Listing.{IsSound}
use Rattle.sqlite_trees.specs.Tree.{Trees}
use Rattle.atl_world.specs.declared.format.Format.{Format}
use Rattle.atl_world.specs.declared.format.Format.TheVariants.{First, Second}
use Rattle.atl_columns.specs.Fields.{strict_column}
use Rattle.atl_descriptions.specs.Sets.{table, AreKeyedByRowid}

-- the column of this name that holds integers, STRICT and NOT NULL (`strict_column`)
abbrev pub integer_column : List ℕ → Column
integer_column name = strict_column name Integer

-- the column of this name that holds texts, STRICT and NOT NULL (`strict_column`)
abbrev pub text_column : List ℕ → Column
text_column name = strict_column name Text

-- ---- the unique key of a table, besides the row's number, by its columns' indexes in a stored row (0 is the rowid)

-- the unique key of the table `faction`, by its column's index in a stored row: joined_as
abbrev pub faction_unique : List ℕ
faction_unique = 2 ∷ []

-- the unique key of the table `has`, by its columns' indexes in a stored row: unit, sort and thing
abbrev pub has_unique : List ℕ
has_unique = 1 ∷ 2 ∷ 3 ∷ []

-- the unique key of the table `books`, by its columns' indexes in a stored row: entry and thing
abbrev pub books_unique : List ℕ
books_unique = 1 ∷ 2 ∷ []

-- the unique key of the table `market`, by its columns' indexes in a stored row: region and item
abbrev pub market_unique : List ℕ
market_unique = 1 ∷ 2 ∷ []

-- ---- the tables, each with the number of its tree

-- the table `campaign` of one row, the campaign row: its key is `id`, and its check says `id = 1`
abbrev pub campaign_table : Table
campaign_table = table 0 (codes "campaign")
    (integer_column (codes "id") ∷ integer_column (codes "format") ∷ integer_column (codes "month")
    ∷ integer_column (codes "next_faction") ∷ integer_column (codes "next_unit") ∷ integer_column (codes "next_structure")
    ∷ text_column (codes "pass") ∷ text_column (codes "world") ∷ [])
    (Some 0) (0 ∷ []) [] (op2 (Compare Eq Binary) (col 1 0) (lit (Int (pos 1))) ∷ [])

-- the table `faction`: a row for each faction, gone or not; its key is `number`, and `joined_as` is unique
abbrev pub faction_table : Table
faction_table = table 1 (codes "faction")
    (integer_column (codes "number") ∷ text_column (codes "joined_as") ∷ text_column (codes "name") ∷ text_column (codes "pass") ∷ integer_column (codes "gone") ∷ [])
    (Some 0) (0 ∷ []) (faction_unique ∷ []) []

-- the table `region`: a row for each region; its key is `number`
abbrev pub region_table : Table
region_table = table 3 (codes "region")
    (integer_column (codes "number") ∷ integer_column (codes "peasants") ∷ integer_column (codes "money") ∷ [])
    (Some 0) (0 ∷ []) [] []

-- the table `unit`: a row for each unit; its key is `number`
abbrev pub unit_table : Table
unit_table = table 4 (codes "unit")
    (integer_column (codes "number") ∷ integer_column (codes "faction") ∷ text_column (codes "name")
    ∷ integer_column (codes "region") ∷ integer_column (codes "structure")
    ∷ integer_column (codes "men") ∷ integer_column (codes "money") ∷ integer_column (codes "guard") ∷ [])
    (Some 0) (0 ∷ []) [] []

-- The table `has`: items and days of study of units. A row says how much (`amount`) a unit has of an item, or how many
-- days in a skill. Its key is the unit, `sort` (0 for an item, 1 for a skill), and the number `thing` of item or skill.
abbrev pub has_table : Table
has_table = table 5 (codes "has")
    (integer_column (codes "unit") ∷ integer_column (codes "sort") ∷ integer_column (codes "thing") ∷ integer_column (codes "amount") ∷ [])
    None has_unique (has_unique ∷ []) []

-- the table `structure`: a row for each structure; its key is `number`
abbrev pub structure_table : Table
structure_table = table 7 (codes "structure")
    (integer_column (codes "number") ∷ integer_column (codes "kind") ∷ text_column (codes "name")
    ∷ integer_column (codes "region") ∷ integer_column (codes "done") ∷ integer_column (codes "owner") ∷ [])
    (Some 0) (0 ∷ []) [] []

-- the table `mail`: a row for each faction whose mailing is kept for the next month; its key is `faction`
abbrev pub mail_table : Table
mail_table = table 8 (codes "mail") (integer_column (codes "faction") ∷ strict_column (codes "text") Blob ∷ []) (Some 0) (0 ∷ []) [] []

-- the table `report`: a row for each faction that has a report; its key is `faction`
abbrev pub report_table : Table
report_table = table 9 (codes "report") (integer_column (codes "faction") ∷ text_column (codes "text") ∷ []) (Some 0) (0 ∷ []) [] []

-- the table `books`: a row for each entry and thing whose amount isn't 0; these two are its key
abbrev pub books_table : Table
books_table = table 10 (codes "books")
    (integer_column (codes "entry") ∷ integer_column (codes "thing") ∷ integer_column (codes "amount") ∷ [])
    None books_unique (books_unique ∷ []) []

-- the table `market`: a row for each item of a region that is in stock; region and item are its key
abbrev pub market_table : Table
market_table = table 12 (codes "market")
    (integer_column (codes "region") ∷ integer_column (codes "item") ∷ integer_column (codes "stock") ∷ [])
    None market_unique (market_unique ∷ []) []

-- the parts of a campaign, one for each table: `Own` is the campaign row, `Goods` what units have, `Markets` the stocks
pub data Part : Type 0 where
  Own : Part
  Factions : Part
  Regions : Part
  Units : Part
  Goods : Part
  Structures : Part
  Mail : Part
  Reports : Part
  Books : Part
  Markets : Part

-- the table of a part
abbrev pub table_of : Part → Table
table_of Own = campaign_table
table_of Factions = faction_table
table_of Regions = region_table
table_of Units = unit_table
table_of Goods = has_table
table_of Structures = structure_table
table_of Mail = mail_table
table_of Reports = report_table
table_of Books = books_table
table_of Markets = market_table

-- the CREATE TABLE statement of a part's table
abbrev pub creation_of : Part → List ℕ
creation_of Own =
    codes "CREATE TABLE campaign (id INTEGER NOT NULL PRIMARY KEY CHECK (id = 1), format INTEGER NOT NULL, month INTEGER NOT NULL, next_faction INTEGER NOT NULL, next_unit INTEGER NOT NULL, next_structure INTEGER NOT NULL, pass TEXT NOT NULL, world TEXT NOT NULL) STRICT"
creation_of Factions =
    codes "CREATE TABLE faction (number INTEGER NOT NULL PRIMARY KEY, joined_as TEXT NOT NULL UNIQUE, name TEXT NOT NULL, pass TEXT NOT NULL, gone INTEGER NOT NULL) STRICT"
creation_of Regions =
    codes "CREATE TABLE region (number INTEGER NOT NULL PRIMARY KEY, peasants INTEGER NOT NULL, money INTEGER NOT NULL) STRICT"
creation_of Units =
    codes "CREATE TABLE unit (number INTEGER NOT NULL PRIMARY KEY, faction INTEGER NOT NULL, name TEXT NOT NULL, region INTEGER NOT NULL, structure INTEGER NOT NULL, men INTEGER NOT NULL, money INTEGER NOT NULL, guard INTEGER NOT NULL) STRICT"
creation_of Goods =
    codes "CREATE TABLE has (unit INTEGER NOT NULL, sort INTEGER NOT NULL, thing INTEGER NOT NULL, amount INTEGER NOT NULL, PRIMARY KEY (unit, sort, thing)) STRICT"
creation_of Structures =
    codes "CREATE TABLE structure (number INTEGER NOT NULL PRIMARY KEY, kind INTEGER NOT NULL, name TEXT NOT NULL, region INTEGER NOT NULL, done INTEGER NOT NULL, owner INTEGER NOT NULL) STRICT"
creation_of Mail = codes "CREATE TABLE mail (faction INTEGER NOT NULL PRIMARY KEY, text BLOB NOT NULL) STRICT"
creation_of Reports = codes "CREATE TABLE report (faction INTEGER NOT NULL PRIMARY KEY, text TEXT NOT NULL) STRICT"
creation_of Books =
    codes "CREATE TABLE books (entry INTEGER NOT NULL, thing INTEGER NOT NULL, amount INTEGER NOT NULL, PRIMARY KEY (entry, thing)) STRICT"
creation_of Markets =
    codes "CREATE TABLE market (region INTEGER NOT NULL, item INTEGER NOT NULL, stock INTEGER NOT NULL, PRIMARY KEY (region, item)) STRICT"

-- all parts, in the order in which their tables are made
abbrev pub all_parts : List Part
all_parts = Own ∷ Factions ∷ Regions ∷ Units ∷ Goods ∷ Structures ∷ Mail ∷ Reports ∷ Books ∷ Markets ∷ []

-- For proofs alone: all parts but the campaign row, in the order in which they are written.
abbrev pub written_parts : List Part
written_parts = Factions ∷ Reports ∷ Regions ∷ Structures ∷ Books ∷ Markets ∷ Units ∷ Goods ∷ Mail ∷ []

-- the part is any but the campaign row: its rows are put by their key and deleted by it
abbrev pub IsWrittenPart : Part → Type 0
IsWrittenPart Own = ⊥
IsWrittenPart part = ⊤

-- the part is goods or stocks, whose rows come in groups: all goods of one unit, or all stocks of one region
abbrev pub IsGroupedPart : Part → Type 0
IsGroupedPart Goods = ⊤
IsGroupedPart Markets = ⊤
IsGroupedPart part = ⊥

-- the key of the part's table is one number, and the part isn't the campaign row: factions, regions, units, structures,
-- mail or reports
abbrev pub IsNumberedPart : Part → Type 0
IsNumberedPart Own = ⊥
IsNumberedPart Goods = ⊥
IsNumberedPart Books = ⊥
IsNumberedPart Markets = ⊥
IsNumberedPart part = ⊤

-- how many columns the key of a part's table has; these are its first columns
abbrev pub key_width_of : Part → ℕ
key_width_of part = length (table_of part).primary

-- the ten tables, in the order in which they are made
abbrev pub all_tables : List Table
all_tables = map table_of all_parts

-- the four indexes that the database makes for the unique keys of the ten tables, each with its tree
abbrev pub all_indexes : List Index
all_indexes =
    automatic faction_table 0 faction_unique 2
    ∷ automatic has_table 0 has_unique 6
    ∷ automatic books_table 0 books_unique 11
    ∷ automatic market_table 0 market_unique 13
    ∷ []

-- the schema of the first `tables` of the ten tables and the first `indexes` of their indexes, and of nothing else
abbrev pub first_tables : ℕ → ℕ → Schema
first_tables tables indexes = record { tables = take tables all_tables; indexes = take indexes all_indexes; views = [] }

-- the schema without a table, an index or `views`
abbrev pub no_tables : Schema
no_tables = first_tables 0 0

-- The schema of the first `count` of the ten tables and then `tables`, without `views`. Its indexes are the first
-- `keys` of the four that the ten tables have, and then `indexes`.
abbrev pub first_tables_and_others : ℕ → ℕ → List Table → List Index → Schema
first_tables_and_others count keys tables indexes =
    record {
      tables = take count all_tables ++ tables;
      indexes = take keys all_indexes ++ indexes;
      views = [];
    }

-- the index makes nothing unique in any of the first `count` of the ten tables
abbrev pub IsHarmless : ℕ → Index → Type 0
IsHarmless count i = (t : Table) → Has (take count all_tables) t → guards i t ≡ false

-- The list `all` is the first `count` of the ten tables and then others, of which none has a foreign key.
pub record AreTables (count : ℕ) (all : List Table) : Type 0 where
  pub others : List Table
  pub made_of : all ≡ take count all_tables ++ others
  pub free : AllByRecursion (λ t. t.references ≡ []) others

-- The list `all` is the first `keys` of the four indexes, and then others, none of which makes anything unique in the
-- first `count` of the ten tables.
pub record AreIndexes (count keys : ℕ) (all : List Index) : Type 0 where
  pub others : List Index
  pub made_of : all ≡ take keys all_indexes ++ others
  pub plain : AllByRecursion (IsHarmless count) others

-- The schema begins with the first `count` tables and `keys` indexes of a campaign, and has no `views`. After them it
-- has only tables without a foreign key, and indexes that make nothing unique in these `count` tables.
pub record Begins (count keys : ℕ) (schema : Schema) : Type 0 where
  pub tables : List Table
  pub indexes : List Index
  pub made_of : schema ≡ first_tables_and_others count keys tables indexes
  pub free : AllByRecursion (λ t. t.references ≡ []) tables
  pub plain : (i : Index) → Has indexes i → IsHarmless count i

-- ---- the schema of a campaign

-- how many tables a campaign of the second format has: ten
abbrev pub table_count : ℕ
table_count = length all_tables

-- how many indexes the unique keys of the ten tables have: four
abbrev pub index_count : ℕ
index_count = length all_indexes

-- the parts that a format has: the first has no stocks of markets
abbrev pub parts_in : Format → List Part
parts_in First = take 9 all_parts
parts_in Second = all_parts

-- how many tables a format has: the first has nine, the second ten
abbrev pub table_count_in : Format → ℕ
table_count_in First = 9
table_count_in Second = table_count

-- how many indexes the keys of a format's tables have: those of the first have three, those of the second four
abbrev pub index_count_in : Format → ℕ
index_count_in First = 3
index_count_in Second = index_count

-- the schema begins with the tables of a format and their indexes, and has no `views`; what follows puts no rule on
-- these tables (`Begins`)
abbrev pub HasTablesOf : Format → Schema → Type 0
HasTablesOf f = Begins (table_count_in f) (index_count_in f)

-- the schema is exactly the nine tables of the first format and their three indexes
abbrev pub IsFirstFormatOnly : Schema → Type 0
IsFirstFormatOnly schema = schema ≡ first_tables (table_count_in First) (index_count_in First)

-- For proofs alone: the schema of the ten tables and then these tables, without `views`. Its indexes are those of the
-- ten tables and then these indexes.
abbrev pub all_tables_and_others : List Table → List Index → Schema
all_tables_and_others = first_tables_and_others table_count index_count

-- the schema begins with the ten tables of the second format and their four indexes, and has no `views`; what follows
-- puts no rule on these tables (`Begins`)
abbrev pub HasAll : Schema → Type 0
HasAll = Begins table_count index_count

-- the numbers of the ten tables' trees
abbrev pub all_trees : List ℕ
all_trees = map (λ t. t.tree) all_tables

-- The trees list the schema and obey it (`IsSound`).
-- In each of the ten tables the rowids are integers, no two alike.
pub record IsSoundDatabase (schema : Schema) (db : Trees) : Type 0 where
  pub keyed : (table : Table) → Has all_tables table → AreKeyedByRowid (db table.tree)
  pub listed : IsSound schema db
