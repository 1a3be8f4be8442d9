-- The rows of each table as SQL shows them, and the forms of the columns. See docs/FORMATS.md, "Tables".
-- Items and skills are given by their indexes in the world, and entries and things of the books by their numbers.
-- `mail`, `has` and the like are tables. The table `has` has items and days of study of units.
use Rattle.std.specs.Prelude.{ℕ, ℤ, pos, List, [], ◌∷◌, ◌++◌, map}
use Rattle.sqlite.specs.declared.types.Value.{Value}
use Rattle.sqlite.specs.declared.types.Value.TheVariants.{Int, Text, Blob}
use Rattle.sqlite.specs.Order.{Row}
use Rattle.atl_world.specs.Formats.{format_number}
use Rattle.atl_world.specs.declared.format.Format.{Format}
use Rattle.atl_world.specs.declared.format.Format.TheVariants.{Second}
use Rattle.atl_rows.specs.declared.parts.StoredCampaignRow.{StoredCampaignRow}
use Rattle.atl_rows.specs.declared.parts.StoredFaction.{StoredFaction}
use Rattle.atl_rows.specs.declared.parts.StoredRegion.{StoredRegion}
use Rattle.atl_rows.specs.declared.parts.StoredUnit.{StoredUnit}
use Rattle.atl_rows.specs.declared.parts.StoredStructure.{StoredStructure}
use Rattle.atl_rows.specs.declared.parts.StoredMail.{StoredMail}
use Rattle.atl_rows.specs.declared.parts.StoredReport.{StoredReport}
use Rattle.atl_rows.specs.declared.parts.StoredHas.{StoredHas}
use Rattle.atl_rows.specs.declared.parts.StoredBooks.{StoredBooks}
use Rattle.atl_rows.specs.declared.parts.StoredMarket.{StoredMarket}
use Rattle.atl_descriptions.specs.declared.records.campaign.StoredCampaign.{StoredCampaign}
use Rattle.atl_sql.specs.declared.rows.stored.RowWithId.{RowWithId}
use Rattle.atl_rows.specs.RowColumns as contents
use Rattle.atl_rows.specs.RowColumns.{Content, Whole, Reference, Flag, Field, Fields}
use Rattle.atl_rows.specs.UnitColumns.{unit_columns, unit_fields}
use Rattle.atl_columns.specs.Forms.{Form, Number, Utf8Text, TextBytes, Bytes}

-- the SQL integer of a natural number
abbrev pub int : ℕ → Value
int n = Int (pos n)

-- the month, the next numbers and the pass text: the campaign row without its id, its format and its world text
pub record CampaignRowValue : Type 0 where
  -- the number of the month last closed, 0 before the first
  pub month : ℕ
  pub next_faction : ℕ
  pub next_unit : ℕ
  pub next_structure : ℕ
  -- the bytes of the moderator's pass text
  pub pass : List ℕ

-- the campaign row in this format: id 1, the format's number, month, next numbers, pass text, world text
abbrev pub campaign_row_in : Format → CampaignRowValue → List ℕ → Row
campaign_row_in f head world =
    int 1 ∷ int (format_number f)
    ∷ int head.month ∷ int head.next_faction ∷ int head.next_unit ∷ int head.next_structure
    ∷ Text head.pass ∷ Text world ∷ []

-- the campaign row in the second format, in which it is written
abbrev pub campaign_row : CampaignRowValue → List ℕ → Row
campaign_row = campaign_row_in Second

-- the parameters of the statement that puts the campaign row: month, next numbers, pass text, world text
abbrev pub campaign_row_values : CampaignRowValue → List ℕ → Row
campaign_row_values head world =
    int head.month ∷ int head.next_faction ∷ int head.next_unit ∷ int head.next_structure
    ∷ Text head.pass ∷ Text world ∷ []

-- a row of `mail`: faction, text
abbrev pub mail_row : ℕ → List ℕ → Row
mail_row faction text = int faction ∷ Blob text ∷ []

-- a row of `report`: faction, text
abbrev pub report_row : ℕ → List ℕ → Row
report_row faction text = int faction ∷ Text text ∷ []

-- the key of a row of `has`: unit, sort (0 item, 1 skill), and the index of the item or skill
abbrev pub has_key : ℕ → ℕ → ℕ → Row
has_key unit sort thing = int unit ∷ int sort ∷ int thing ∷ []

-- a row of `has`: unit, sort (0 item, 1 skill), the index of the item or skill, and the amount or the days
abbrev pub has_row : ℕ → ℕ → ℕ → ℕ → Row
has_row unit sort thing amount = int unit ∷ int sort ∷ int thing ∷ int amount ∷ []

-- the key of a row of `books`: entry, thing
abbrev pub books_key : ℕ → ℕ → Row
books_key entry thing = int entry ∷ int thing ∷ []

-- a row of `books`: entry, thing, amount
abbrev pub books_row : ℕ → ℕ → ℤ → Row
books_row entry thing amount = int entry ∷ int thing ∷ Int amount ∷ []

-- the key of a row of `market`: region, item
abbrev pub market_key : ℕ → ℕ → Row
market_key region item = int region ∷ int item ∷ []

-- a row of `market`: region, item, stock
abbrev pub market_row : ℕ → ℕ → ℕ → Row
market_row region item stock = int region ∷ int item ∷ int stock ∷ []

-- ---- rows that are read

-- the form in which a column is read: a text as bytes, all else as numbers
abbrev pub form_of : Content → Form
form_of (Whole low high) = Number
form_of Reference = Number
form_of Flag = Number
form_of contents.Text = TextBytes

-- a field of a row that was read, as SQL shows it
abbrev pub shown_field : (c : Content) → Field c → Value
shown_field (Whole low high) z = Int z
shown_field Reference z = Int z
shown_field Flag z = Int z
shown_field contents.Text t = Text t

-- the fields of a row that was read, as SQL shows them
abbrev pub shown_fields : (cs : List Content) → Fields cs → Row
shown_fields [] r = []
shown_fields (c ∷ cs) r = shown_field c r.0 ∷ shown_fields cs r.1

-- the campaign row that was read, as SQL shows it, without its world text
abbrev pub campaign_row_stored : StoredCampaignRow → Row
campaign_row_stored s =
    Int s.id ∷ Int s.format ∷ Int s.month ∷ Int s.next_faction ∷ Int s.next_unit ∷ Int s.next_structure ∷ Text s.pass ∷ []

-- the forms in which the columns of `campaign` but the world text are read: numbers, and the pass text as bytes
abbrev pub campaign_row_forms : List Form
campaign_row_forms = Number ∷ Number ∷ Number ∷ Number ∷ Number ∷ Number ∷ TextBytes ∷ []

-- the campaign row that was read, as SQL shows it, with its world text
abbrev pub campaign_stored : StoredCampaign → Row
campaign_stored s = campaign_row_stored s.head ++ Text s.world ∷ []

-- the forms in which all columns of `campaign` are read: numbers, the pass text as bytes, and the world text as UTF-8
abbrev pub campaign_forms : List Form
campaign_forms = campaign_row_forms ++ Utf8Text ∷ []

-- a row of `faction` that was read, as SQL shows it
abbrev pub faction_stored : StoredFaction → Row
faction_stored s = Int s.number ∷ Text s.joined_as ∷ Text s.name ∷ Text s.pass ∷ Int s.gone ∷ []

-- the forms in which the columns of `faction` are read: numbers, and texts as bytes
abbrev pub faction_forms : List Form
faction_forms = Number ∷ TextBytes ∷ TextBytes ∷ TextBytes ∷ Number ∷ []

-- a row of `region` that was read, as SQL shows it
abbrev pub region_stored : StoredRegion → Row
region_stored s = Int s.number ∷ Int s.peasants ∷ Int s.money ∷ []

-- the forms in which the columns of `region` are read: numbers
abbrev pub region_forms : List Form
region_forms = Number ∷ Number ∷ Number ∷ []

-- a row of `unit` that was read, as SQL shows it
abbrev pub unit_stored : StoredUnit → Row
unit_stored s = shown_fields unit_columns (unit_fields s)

-- the forms in which the columns of `unit` are read
abbrev pub unit_forms : List Form
unit_forms = map form_of unit_columns

-- a row of `structure` that was read, as SQL shows it
abbrev pub structure_stored : StoredStructure → Row
structure_stored s = Int s.number ∷ Int s.kind ∷ Text s.name ∷ Int s.region ∷ Int s.done ∷ Int s.owner ∷ []

-- the forms in which the columns of `structure` are read: numbers, and the name as bytes
abbrev pub structure_forms : List Form
structure_forms = Number ∷ Number ∷ TextBytes ∷ Number ∷ Number ∷ Number ∷ []

-- a row of `mail` that was read, as SQL shows it
abbrev pub mail_stored : StoredMail → Row
mail_stored s = Int s.faction ∷ Blob s.text ∷ []

-- the forms in which the columns of `mail` are read: a number, and the bytes of a blob
abbrev pub mail_forms : List Form
mail_forms = Number ∷ Bytes ∷ []

-- a row of `report` that was read, as SQL shows it
abbrev pub report_stored : StoredReport → Row
report_stored s = Int s.faction ∷ Text s.text ∷ []

-- the forms in which the columns of `report` are read: a number, and a text of UTF-8
abbrev pub report_forms : List Form
report_forms = Number ∷ Utf8Text ∷ []

-- a row of `has` that was read, as SQL shows it, with its rowid as a last column
abbrev pub has_stored : RowWithId StoredHas → Row
has_stored s = Int s.row.unit ∷ Int s.row.sort ∷ Int s.row.thing ∷ Int s.row.amount ∷ Int s.rowid ∷ []

-- the forms in which the columns of `has`, and the rowid after them, are read: numbers
abbrev pub has_forms : List Form
has_forms = Number ∷ Number ∷ Number ∷ Number ∷ Number ∷ []

-- a row of `books` that was read, as SQL shows it, with its rowid as a last column
abbrev pub books_stored : RowWithId StoredBooks → Row
books_stored s = Int s.row.entry ∷ Int s.row.thing ∷ Int s.row.amount ∷ Int s.rowid ∷ []

-- the forms in which the columns of `books`, and the rowid after them, are read: numbers
abbrev pub books_forms : List Form
books_forms = Number ∷ Number ∷ Number ∷ Number ∷ []

-- a row of `market` that was read, as SQL shows it, with its rowid as a last column
abbrev pub market_stored : RowWithId StoredMarket → Row
market_stored s = Int s.row.region ∷ Int s.row.item ∷ Int s.row.stock ∷ Int s.rowid ∷ []

-- the forms in which the columns of `market`, and the rowid after them, are read: numbers
abbrev pub market_forms : List Form
market_forms = Number ∷ Number ∷ Number ∷ Number ∷ []
