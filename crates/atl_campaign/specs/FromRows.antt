-- How a campaign is read from the rows of its tables, also from rows that break rules. See docs/FORMATS.md, "Tables".
-- A name as `faction` is that of a table; the table `has` has the items and days of study of units. A number that
-- doesn't fit 32 bits (of a kind 16), also a negative one, is read as the largest; amounts of the books as they are.
-- So keys are compared as they are read. Of rows for one key the last counts, but of campaign rows the first. A flag is
-- set if it is any number but 0. An amount of 0 is listed, but not in the books.
use Rattle.std.specs.Prelude.{ℕ, pos, Bool, ◌==◌, ◌&&◌, nat_lt, List, [], ◌∷◌, filter, slice_index_or, if◌then◌else◌}
use Rattle.std.specs.Option.{option_map_or}
use Rattle.std.specs.Ordering.{nat_cmp}
use Rattle.std.specs.FinMap.{FinMap, empty, insert}
use Rattle.atl_world.specs.Worlds.{WorldValue}
use Rattle.atl_rows.specs.declared.parts.Parts.{Parts}
use Rattle.atl_rows.specs.declared.parts.StoredCampaignRow.{StoredCampaignRow}
use Rattle.atl_rows.specs.declared.parts.StoredFaction.{StoredFaction}
use Rattle.atl_rows.specs.declared.parts.StoredRegion.{StoredRegion}
use Rattle.atl_rows.specs.declared.parts.StoredUnit.{StoredUnit}
use Rattle.atl_rows.specs.declared.parts.StoredHas.{StoredHas}
use Rattle.atl_rows.specs.declared.parts.StoredStructure.{StoredStructure}
use Rattle.atl_rows.specs.declared.parts.StoredBooks.{StoredBooks}
use Rattle.atl_rows.specs.declared.parts.StoredMarket.{StoredMarket}
use Rattle.atl_records.specs.declared.records.Faction.{Faction}
use Rattle.atl_records.specs.declared.records.Region.{Region}
use Rattle.atl_records.specs.declared.records.Structure.{Structure}
use Rattle.atl_records.specs.declared.records.Unit.{Unit}
use Rattle.atl_records.specs.Books.{BooksValue, entry_numbered, no_amounts, thing_at, with_amount}
use Rattle.atl_campaign.specs.Founding.{thing_count}
use Rattle.atl_campaign.specs.Campaign.{CampaignValue}
pub use Rattle.atl_rows.specs.RowValues.{clamp, as_u32, as_u16, is_set}
pub use Rattle.atl_campaign.specs.UnitRows.{unit_with_goods}

-- the faction that a row of `faction` says
abbrev pub faction_of : StoredFaction → Faction
faction_of r = record { number = as_u32 r.number; joined_as = r.joined_as; name = r.name; pass = r.pass; gone = is_set r.gone }

-- the structure that a row of `structure` says, without its number, which is its key
abbrev pub structure_of : StoredStructure → Structure
structure_of r =
    record { kind = as_u16 r.kind; name = r.name; region = as_u32 r.region; done = as_u32 r.done; owner = as_u32 r.owner }

-- The map with each row's value put under its number, in the order of the rows, so a later row replaces an earlier one.
-- The functions `number` and `value` give a row's number and its value.
abbrev pub put_rows : {R V : Type 0} → (R → ℕ) → (R → V) → List R → FinMap nat_cmp V → FinMap nat_cmp V
put_rows number value [] m = m
put_rows number value (r ∷ rs) m = put_rows number value rs (insert m (number r) (value r))

-- the values of rows by their numbers, as the functions `value` and `number` give them; of several rows with one number
-- the last counts
abbrev pub by_number : {R V : Type 0} → (R → ℕ) → (R → V) → List R → FinMap nat_cmp V
by_number number value rows = put_rows number value rows empty

-- whether a row of `has` is of unit n and of a sort: 0 items, 1 skills
abbrev pub is_of_unit_and_sort : ℕ → ℕ → StoredHas → Bool
is_of_unit_and_sort n sort r = (as_u32 r.unit == n) && (as_u32 r.sort == sort)

-- the amounts that the rows of `has` give unit n: of items (sort 0) or of days of skills (sort 1), by their numbers
abbrev pub things_had : ℕ → ℕ → List StoredHas → FinMap nat_cmp ℕ
things_had n sort has = by_number (λ r. as_u32 r.thing) (λ r. as_u32 r.amount) (filter (is_of_unit_and_sort n sort) has)

-- the unit that a row of `unit` says, with the items and days of study that the rows of `has` give to it
abbrev pub unit_of : List StoredHas → StoredUnit → Unit
unit_of has r = unit_with_goods r (things_had (as_u32 r.number) 0 has) (things_had (as_u32 r.number) 1 has)

-- the stocks of region n in the rows of `market`: amounts by the numbers of the items
abbrev pub stocks_of : ℕ → List StoredMarket → FinMap nat_cmp ℕ
stocks_of n markets = by_number (λ r. as_u32 r.item) (λ r. as_u32 r.stock) (filter (λ r. as_u32 r.region == n) markets)

-- the region that a row of `region` says, with the given stocks
abbrev pub region_with_stocks : StoredRegion → FinMap nat_cmp ℕ → Region
region_with_stocks r stocks = record { peasants = as_u32 r.peasants; money = as_u32 r.money; stocks = stocks }

-- the region that a row of `region` says, with the stocks that the rows of `market` give to it
abbrev pub region_of : List StoredMarket → StoredRegion → Region
region_of markets r = region_with_stocks r (stocks_of (as_u32 r.number) markets)

-- the books with the amount of a row put in, or its account taken out of the list if that is 0. They are unchanged if
-- there is no such entry, or the thing is none of the books'.
abbrev pub with_books_row : BooksValue → StoredBooks → BooksValue
with_books_row books r =
    option_map_or (λ e.
    if nat_lt (as_u32 r.thing) books.things then with_amount books e (thing_at (as_u32 r.thing)) r.amount else books)
    (entry_numbered (as_u32 r.entry)) books

-- the books with the amount of each row put in, in the order of the rows
abbrev pub with_books_rows : List StoredBooks → BooksValue → BooksValue
with_books_rows [] books = books
with_books_rows (r ∷ rs) books = with_books_rows rs (with_books_row books r)

-- what is read where there is no campaign row: all numbers 0, and no pass text
abbrev pub no_campaign_row : StoredCampaignRow
no_campaign_row = record {
  id = pos 0;
  format = pos 0;
  month = pos 0;
  next_faction = pos 0;
  next_unit = pos 0;
  next_structure = pos 0;
  pass = [];
}

-- the campaign row: the first row of the table `campaign`, or `no_campaign_row` where the table is empty
abbrev pub campaign_row_of : Parts → StoredCampaignRow
campaign_row_of p = slice_index_or p.campaign 0 no_campaign_row

-- the campaign that is read from rows, whether they keep the rules or not; its books are of the world's things
unfoldable pub campaign_of : WorldValue → Parts → CampaignValue
campaign_of w p = record {
  month = as_u32 (campaign_row_of p).month;
  pass = (campaign_row_of p).pass;
  next_faction = as_u32 (campaign_row_of p).next_faction;
  next_unit = as_u32 (campaign_row_of p).next_unit;
  next_structure = as_u32 (campaign_row_of p).next_structure;
  factions = by_number (λ r. as_u32 r.number) faction_of p.factions;
  regions = by_number (λ r. as_u32 r.number) (region_of p.markets) p.regions;
  units = by_number (λ r. as_u32 r.number) (unit_of p.has) p.units;
  structures = by_number (λ r. as_u32 r.number) structure_of p.structures;
  mail = by_number (λ r. as_u32 r.faction) (λ r. r.text) p.mail;
  reports = by_number (λ r. as_u32 r.faction) (λ r. r.text) p.reports;
  books = with_books_rows p.books (no_amounts (thing_count w));
}
