-- The set of rows of each table, computed from a world text and a whole campaign. See docs/FORMATS.md, "Tables".
use Rattle.std.specs.Prelude.{◌≡◌, ◌≢◌, ◌+◌, ℕ, pos, List, map, Option, Some}
use Rattle.std.specs.Ordering.{nat_cmp}
use Rattle.std.specs.FinMap.{FinMap, get}
use Rattle.sqlite.specs.Order.{Row}
use Rattle.sqlite_trees.specs.Tree.{Trees}
use Rattle.atl_campaign.specs.Campaign.{CampaignValue}
use Rattle.atl_campaign.specs.Covers.{items_under, days_under}
use Rattle.atl_records.specs.Holdings.{HoldingValue, amount_of}
use Rattle.atl_records.specs.Books.{BooksValue, amount_in, entry_index, thing_index}
use Rattle.atl_records.specs.declared.books.BooksEntry.{BooksEntry}
use Rattle.atl_records.specs.declared.books.Thing.{Thing}
use Rattle.atl_records.specs.declared.records.Faction.{Faction}
use Rattle.atl_records.specs.declared.records.Region.{Region}
use Rattle.atl_records.specs.declared.records.Structure.{Structure}
use Rattle.atl_records.specs.declared.records.Unit.{Unit}
use Rattle.atl_sql.specs.declared.rows.has.ThingKind.{ThingKind}
use Rattle.atl_sql.specs.declared.rows.has.ThingKind.TheVariants.{Item, Skill}
use Rattle.atl_descriptions.specs.Sets.{Set, HasExactly, rows_in}
use Rattle.atl_descriptions.specs.Tables.{Part, Own, Factions, Regions, Units, Goods, Structures, Mail, Reports, Books, Markets, table_of, parts_in}
use Rattle.atl_world.specs.declared.format.Format.{Format}
use Rattle.sqlite_rules.specs.Lists.{Has}
use Rattle.atl_campaign.specs.Rows.{faction_row, region_row, unit_row, structure_row}
use Rattle.atl_sql.specs.Shown.{CampaignRowValue, campaign_row, campaign_row_in, faction_stored, region_stored, unit_stored, structure_stored, has_row, mail_row, report_row, books_row, market_row}
use Rattle.atl_sql.specs.Written.{sort_number}

-- the month, the next numbers and the pass text of this campaign, for its campaign row
abbrev pub campaign_row_of : CampaignValue → CampaignRowValue
campaign_row_of c =
    record {
      month = c.month;
      next_faction = c.next_faction;
      next_unit = c.next_unit;
      next_structure = c.next_structure;
      pass = c.pass;
    }

-- the campaign row, in the second format, of this world text and campaign
abbrev pub row_of_campaign : List ℕ → CampaignValue → Row
row_of_campaign text c = campaign_row (campaign_row_of c) text

-- the row of `faction` for the faction with this number, as SQL shows it
abbrev pub row_of_faction : ℕ → Faction → Row
row_of_faction n f = faction_stored (faction_row n f)

-- the row of `region` for the region with this number, as SQL shows it
abbrev pub row_of_region : ℕ → Region → Row
row_of_region n r = region_stored (region_row n r)

-- the row of `unit` for the unit with this number, as SQL shows it
abbrev pub row_of_unit : ℕ → Unit → Row
row_of_unit n u = unit_stored (unit_row n u)

-- the row of `structure` for the structure with this number, as SQL shows it
abbrev pub row_of_structure : ℕ → Structure → Row
row_of_structure n s = structure_stored (structure_row n s)

-- the rows that `line` makes of the numbers and values of a map, one row for each, as a set
abbrev pub RowsOf : {V : Type 0} → (ℕ → V → Row) → FinMap nat_cmp V → Row → Type 0
RowsOf {V} line m r = (n : ℕ) × (v : V) × (get m n ≡ Some v) × (r ≡ line n v)

-- the rows that `line` makes of a list of numbers and values, one row for each, as a list in their order
abbrev pub rows_in_order : {V : Type 0} → (ℕ → V → Row) → List (ℕ × V) → List Row
rows_in_order line entries = map (λ e. line e.0 e.1) entries

-- what a unit holds of one kind, by number: amounts of items, or days of skills
abbrev pub things_of : ThingKind → HoldingValue → FinMap nat_cmp ℕ
things_of Item held = held.items
things_of Skill held = held.days

-- what a unit has of one kind (items or skills), by number; nothing if there is no unit
abbrev pub things_under : ThingKind → Option Unit → FinMap nat_cmp ℕ
things_under Item = items_under
things_under Skill = days_under

-- how much the unit with the number `n` has of the item or skill `thing`, 0 if it has none or there is no such unit
abbrev pub amount_under : FinMap nat_cmp Unit → ℕ → ThingKind → ℕ → ℕ
amount_under units n sort thing = amount_of (things_under sort (get units n)) thing

-- the rows of the table `has`: one for each unit and each item or skill of it, if the amount is not 0
abbrev pub HasRowsOf : FinMap nat_cmp Unit → Row → Type 0
HasRowsOf units r =
    (n : ℕ) × (u : Unit) × (get units n ≡ Some u)
    × (sort : ThingKind) × (thing : ℕ) × (amount : ℕ)
    × (get (things_of sort u.holding) thing ≡ Some amount)
    × (amount ≢ 0)
    × (r ≡ has_row n (sort_number sort) thing amount)

-- the rows of `books`: one for each entry and thing, if the amount is not 0
abbrev pub BooksRowsOf : BooksValue → Row → Type 0
BooksRowsOf books r =
    (e : BooksEntry) × (t : Thing)
    × (amount_in books e t ≢ pos 0)
    × (r ≡ books_row (entry_index e + 1) (thing_index t) (amount_in books e t))

-- the rows of `market`: one for each region and item, if the stock is not 0
abbrev pub MarketRowsOf : FinMap nat_cmp Region → Row → Type 0
MarketRowsOf regions r =
    (n : ℕ) × (region : Region) × (get regions n ≡ Some region)
    × (item : ℕ) × (stock : ℕ)
    × (get region.stocks item ≡ Some stock)
    × (stock ≢ 0)
    × (r ≡ market_row n item stock)

-- the set of rows that each part's table has to hold for a campaign, whose campaign row is `own`
abbrev pub rows_for : Row → CampaignValue → Part → Set
rows_for own c Own = λ r. r ≡ own
rows_for own c Factions = RowsOf row_of_faction c.factions
rows_for own c Regions = RowsOf row_of_region c.regions
rows_for own c Units = RowsOf row_of_unit c.units
rows_for own c Goods = HasRowsOf c.units
rows_for own c Structures = RowsOf row_of_structure c.structures
rows_for own c Mail = RowsOf mail_row c.mail
rows_for own c Reports = RowsOf report_row c.reports
rows_for own c Books = BooksRowsOf c.books
rows_for own c Markets = MarketRowsOf c.regions

-- the ten tables have exactly the rows of the world text and the campaign
pub record Holds (trees : Trees) (text : List ℕ) (c : CampaignValue) : Type 0 where
  pub rows : (part : Part) → HasExactly (rows_in (table_of part) trees) (rows_for (row_of_campaign text c) c part)

-- the tables of the format `f` have exactly the rows of the world text and the campaign; the campaign row names `f`
pub record HoldsIn (f : Format) (trees : Trees) (text : List ℕ) (c : CampaignValue) : Type 0 where
  pub rows : (part : Part) → Has (parts_in f) part
      → HasExactly (rows_in (table_of part) trees) (rows_for (campaign_row_in f (campaign_row_of c) text) c part)
