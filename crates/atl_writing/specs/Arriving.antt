-- What writing a join, or a mailing, changes in the ten tables. See docs/FORMATS.md, "Tables".
-- `old` is the database before the write, and `new` after it. `faction` is the number of a faction, and `after` the
-- campaign once this faction has joined.
use Rattle.std.specs.Prelude.{◌≡◌, ◌≢◌, ◌⊎◌, ◌+◌, ◌-◌, ◌≤◌, ℕ, List, [], ◌∷◌, Some, IsSome, take}
use Rattle.std.specs.FinMap.{get}
use Rattle.sqlite.specs.Effect.{Database}
use Rattle.sqlite.specs.Order.{Row}
use Rattle.sqlite.specs.Table.{Table}
use Rattle.sqlite_rules.specs.Lists.{Has}
use Rattle.atl_campaign.specs.Campaign.{CampaignValue}
use Rattle.atl_records.specs.Books.{entry_index, thing_index}
use Rattle.atl_records.specs.declared.books.BooksEntry.{BooksEntry}
use Rattle.atl_records.specs.declared.books.BooksEntry.TheVariants.{Joining}
use Rattle.atl_records.specs.declared.books.Thing.{Thing}
use Rattle.atl_records.specs.declared.books.Thing.TheVariants.{Money, People}
use Rattle.atl_records.specs.declared.records.Faction.{Faction}
use Rattle.atl_records.specs.declared.records.Unit.{Unit}
use Rattle.atl_descriptions.specs.Sets.{Set, HasExactly, put, rows_in}
use Rattle.atl_sql.specs.Inside.{Alters, Puts}
use Rattle.atl_descriptions.specs.Tables.{Part, Own, Factions, Units, Reports, Books, table_of, campaign_table, faction_table, unit_table, mail_table, report_table, books_table}
use Rattle.atl_sql.specs.Shown.{CampaignRowValue, campaign_row, mail_row, report_row, books_key}
use Rattle.atl_writing.specs.GroupedRows.{amount_lines}
use Rattle.atl_writing.specs.Rows.{row_of_campaign, row_of_faction, row_of_unit}

-- What writing a join needs of `c`, the campaign after it: the faction `number`, which joined, its report, and the unit
-- that came last, `next_unit - 1`, are there. The books have money and people among their things.
pub record HasArrival (c : CampaignValue) (number : ℕ) : Type 0 where
  -- `next_unit` is not 0, so there is a number before it, that of the unit that came last
  pub next : 1 ≤ c.next_unit
  pub things : 2 ≤ c.books.things
  pub faction : IsSome (get c.factions number)
  pub unit : IsSome (get c.units (c.next_unit - 1))
  pub report : IsSome (get c.reports number)

-- The campaign has this faction, under `number`, its report, and the unit that came last, under `unit_number`.
-- The books have money and people among their things. This is `HasArrival`, with what is there given by name.
pub record HasArrivalWith (c : CampaignValue) (number : ℕ) (faction : Faction) (unit_number : ℕ) (unit : Unit) (report : List ℕ) : Type 0 where
  -- the unit's number `unit_number` is the last: the next one is `next_unit`
  pub place_is : c.next_unit ≡ unit_number + 1
  pub faction_is : get c.factions number ≡ Some faction
  pub unit_is : get c.units unit_number ≡ Some unit
  pub report_is : get c.reports number ≡ Some report
  pub things : 2 ≤ c.books.things

-- the rows of `books`, which were those of the set `S`, once the campaign's amount of `entry` and `thing` is written:
-- its row, or none if it is 0, and the rows of `S` with another key
abbrev pub rows_with_amount : CampaignValue → BooksEntry → Thing → Set → Set
rows_with_amount c entry thing S r =
    Has (amount_lines c entry thing) r ⊎ (S r × (take 2 r ≢ books_key (entry_index entry + 1) (thing_index thing)))

-- the campaign's amount of `entry` and `thing` is written into `books`: it has its row, or none if it is 0; all other
-- rows and tables are as they were
abbrev pub WritesAmount : CampaignValue → BooksEntry → Thing → Database → Database → Type 0
WritesAmount c entry thing old new = Alters books_table (rows_with_amount c entry thing (Has (rows_in books_table old.trees))) old new

-- the row is put into the table: it replaces the row with its number, or is added; the table's other rows stay
abbrev pub HasPut : Table → Row → Database → Database → Type 0
HasPut table row old new = HasExactly (rows_in table new.trees) (put 1 row (Has (rows_in table old.trees)))

-- What a join writes: the campaign row, the faction, its unit, which came last, its report, and what joining booked.
-- The campaign row says what `after` says and has this world text, and every other row and table is as it was. If
-- `after` lacks the faction, the unit or the report, nothing is said of the table of what it lacks.
pub record AddsJoin (faction : ℕ) (after : CampaignValue) (text : List ℕ) (old new : Database) : Type 0 where
  pub campaign : HasExactly (rows_in campaign_table new.trees) (λ r. r ≡ row_of_campaign text after)
  pub member : (f : Faction) → get after.factions faction ≡ Some f → HasPut faction_table (row_of_faction faction f) old new
  -- the row of the faction's unit, which came last, is put
  pub unit : (unit_number : ℕ) (u : Unit) → after.next_unit ≡ unit_number + 1 → get after.units unit_number ≡ Some u
      → HasPut unit_table (row_of_unit unit_number u) old new
  pub report : (report : List ℕ) → get after.reports faction ≡ Some report
      → HasPut report_table (report_row faction report) old new
  -- the two amounts under joining, of money and of people, are written
  pub books :
      HasExactly (rows_in books_table new.trees)
      (rows_with_amount after Joining People (rows_with_amount after Joining Money (Has (rows_in books_table old.trees))))
  -- the tables of all parts but the campaign row, factions, units, reports and books are as they were
  pub others : (part : Part) → ¬ Has (Own ∷ Factions ∷ Units ∷ Reports ∷ Books ∷ []) part
      → new.trees (table_of part).tree ≡ old.trees (table_of part).tree

-- the join of `faction` is written (`AddsJoin`), and the campaign row keeps its world text, if the table `campaign`
-- held one row, of the second format, whatever else it said
abbrev pub WritesJoin : ℕ → CampaignValue → Database → Database → Type 0
WritesJoin faction after old new =
    (before : CampaignRowValue) (text : List ℕ)
    → HasExactly (rows_in campaign_table old.trees) (λ r. r ≡ campaign_row before text)
    → AddsJoin faction after text old new

-- the mailing `mail` of the faction is written: it replaces an older one of the faction, or is added; all other rows
-- and tables stay
abbrev pub WritesMail : ℕ → List ℕ → Database → Database → Type 0
WritesMail faction mail old new = Puts mail_table 1 (mail_row faction mail) old new
