-- The statements that each write may run: each is a text (`sql`) with the values of its parameters (`params`). `c` is
-- the campaign that is written.
use Rattle.std.specs.Prelude.{◌≡◌, ◌≢◌, ◌+◌, ℕ, pos, List, [], ◌∷◌, Some, length, take}
use Rattle.std.specs.FinMap.{get}
use Rattle.sqlite.specs.Order.{Row}
use Rattle.atl_campaign.specs.Campaign.{CampaignValue}
use Rattle.atl_records.specs.Books.{amount_in, entry_index, thing_index}
use Rattle.atl_records.specs.declared.books.BooksEntry.{BooksEntry}
use Rattle.atl_records.specs.declared.books.BooksEntry.TheVariants.{Joining}
use Rattle.atl_records.specs.declared.books.Thing.{Thing}
use Rattle.atl_records.specs.declared.books.Thing.TheVariants.{Money, People}
use Rattle.atl_records.specs.declared.records.Faction.{Faction}
use Rattle.atl_records.specs.declared.records.Unit.{Unit}
use Rattle.atl_sql.specs.Shown.{int, campaign_row_values, mail_row, report_row, books_key, books_row}
use Rattle.atl_writing.specs.Rows.{campaign_row_of, row_of_faction, row_of_unit, rows_for}
use Rattle.atl_descriptions.specs.Statements.{Statements, OneStatement, Creations, campaign_upsert, upgrading_upsert, deletion, upsert}
use Rattle.atl_descriptions.specs.Tables.{Part, Markets, books_table, creation_of, faction_table, IsGroupedPart, key_width_of, mail_table, report_table, table_of, unit_table}

-- the statement, with its parameters, that writes the campaign's amount of `entry` and `thing`: it puts the amount's
-- row, or deletes the row if the amount is 0
pub data OfAmount (c : CampaignValue) (entry : BooksEntry) (thing : Thing) : List ℕ → Row → Type 0 where
  puts_amount : amount_in c.books entry thing ≢ pos 0
      → OfAmount c entry thing (upsert books_table 2)
      (books_row (entry_index entry + 1) (thing_index thing) (amount_in c.books entry thing))
  drops_amount : amount_in c.books entry thing ≡ pos 0
      → OfAmount c entry thing (deletion books_table 2) (books_key (entry_index entry + 1) (thing_index thing))

-- the row is one of this part's rows, whatever the campaign row is; so it is never the campaign row itself
abbrev pub IsRowOf : CampaignValue → Part → Row → Type 0
IsRowOf c part row = (own : Row) → rows_for own c part row

-- the key has as many columns as the part's keys have, and no row of the part has it, whatever the campaign row is
abbrev pub HasNoRow : CampaignValue → Part → Row → Type 0
HasNoRow c part key = (length key ≡ key_width_of part) × ((own row : Row) → rows_for own c part row → take (key_width_of part) row ≢ key)

-- the statements that put a row of the campaign, other than the campaign row, into the table of its part
pub data OfRow (c : CampaignValue) : List ℕ → Row → Type 0 where
  puts_row : (part : Part) {row : Row} → IsRowOf c part row → OfRow c (upsert (table_of part) (key_width_of part)) row

-- ---- the statements of each write

-- the statements of a founding: they make the tables, and put the campaign row and the other rows of the campaign
pub data OfFounding (text : List ℕ) (c : CampaignValue) : List ℕ → Row → Type 0 where
  founds_tables : {sql : List ℕ} {params : Row} → Creations sql params → OfFounding text c sql params
  -- the campaign row is put, with the world text
  founds_head : OfFounding text c campaign_upsert (campaign_row_values (campaign_row_of c) text)
  founds_row : {sql : List ℕ} {params : Row} → OfRow c sql params → OfFounding text c sql params

-- The statements of a change: put the campaign row or another row of the campaign, or delete rows.
-- Deleted is the row of a key that the campaign lacks, or all rows of a unit in the table `has` or of a region in
-- `market`, whether marked or not.
pub data OfChange (c : CampaignValue) : List ℕ → Row → Type 0 where
  -- the campaign row is put; a row that is there keeps its world text
  changes_head : OfChange c campaign_upsert (campaign_row_values (campaign_row_of c) [])
  changes_row : {sql : List ℕ} {params : Row} → OfRow c sql params → OfChange c sql params
  -- the row with this key is deleted from the part's table: the campaign has no row with the key (`HasNoRow`)
  drops_row : (part : Part) {key : Row} → HasNoRow c part key → OfChange c (deletion (table_of part) (key_width_of part)) key
  -- all rows of one unit are deleted from the table `has`, or all rows of one region from `market`
  drops_group : (part : Part) {n : ℕ} → IsGroupedPart part → OfChange c (deletion (table_of part) 1) (int n ∷ [])

-- the statements of an upgrade: make the table `market`, and set the second format and the new world text `text` in the
-- campaign row; nothing else of a row that is there changes
pub data OfUpgrade (text : List ℕ) (c : CampaignValue) : List ℕ → Row → Type 0 where
  upgrades_tables : OfUpgrade text c (creation_of Markets) []
  upgrades_head : OfUpgrade text c upgrading_upsert (campaign_row_values (campaign_row_of c) text)

-- The statements of the join of the faction with the number `faction`: put the campaign row, the faction, its unit,
-- which came last, and its report, and write the amounts of money and of people under joining (`OfAmount`).
pub data OfJoining (faction : ℕ) (c : CampaignValue) : List ℕ → Row → Type 0 where
  -- the campaign row is put; a row that is there keeps its world text
  joins_head : OfJoining faction c campaign_upsert (campaign_row_values (campaign_row_of c) [])
  joins_faction : {f : Faction} → get c.factions faction ≡ Some f
      → OfJoining faction c (upsert faction_table 1) (row_of_faction faction f)
  -- the row of the faction's unit, which came last, is put
  joins_unit : {unit_number : ℕ} {u : Unit} → c.next_unit ≡ unit_number + 1 → get c.units unit_number ≡ Some u
      → OfJoining faction c (upsert unit_table 1) (row_of_unit unit_number u)
  joins_report : {text : List ℕ} → get c.reports faction ≡ Some text
      → OfJoining faction c (upsert report_table 1) (report_row faction text)
  joins_money : {sql : List ℕ} {params : Row} → OfAmount c Joining Money sql params → OfJoining faction c sql params
  joins_people : {sql : List ℕ} {params : Row} → OfAmount c Joining People sql params → OfJoining faction c sql params

-- the one statement of a mailing: it puts `text` as the mail of the faction with this number
abbrev pub OfMail : ℕ → List ℕ → Statements
OfMail faction text = OneStatement (upsert mail_table 1) (mail_row faction text)
