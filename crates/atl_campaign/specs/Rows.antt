-- The rows that a campaign has in each table of a format, in the order of their keys. See docs/FORMATS.md, "Tables".
-- A name as `faction` is that of a table; the table `has` has the items and days of study of units. No amount of 0
-- of an item, a skill or a stock has a row.
use Rattle.std.specs.Prelude.{◌+◌, ◌++◌, ℕ, ℤ, pos, not, List, [], ◌∷◌, map, filter}
use Rattle.std.specs.List.{flat_map}
use Rattle.std.specs.List.Sorted.{IsPermutation}
use Rattle.std.specs.FinMap.{entries}
use Rattle.atl_world.specs.Formats.{format_number}
use Rattle.atl_world.specs.declared.format.Format.{Format}
use Rattle.atl_world.specs.declared.format.Format.TheVariants.{First, Second}
use Rattle.atl_rows.specs.declared.parts.Parts.{Parts}
use Rattle.atl_rows.specs.declared.parts.StoredCampaignRow.{StoredCampaignRow}
use Rattle.atl_rows.specs.declared.parts.StoredFaction.{StoredFaction}
use Rattle.atl_rows.specs.declared.parts.StoredRegion.{StoredRegion}
use Rattle.atl_rows.specs.declared.parts.StoredHas.{StoredHas}
use Rattle.atl_rows.specs.declared.parts.StoredStructure.{StoredStructure}
use Rattle.atl_rows.specs.declared.parts.StoredMail.{StoredMail}
use Rattle.atl_rows.specs.declared.parts.StoredReport.{StoredReport}
use Rattle.atl_rows.specs.declared.parts.StoredBooks.{StoredBooks}
use Rattle.atl_rows.specs.declared.parts.StoredMarket.{StoredMarket}
use Rattle.atl_records.specs.declared.records.Faction.{Faction}
use Rattle.atl_records.specs.declared.records.Region.{Region}
use Rattle.atl_records.specs.declared.records.Structure.{Structure}
use Rattle.atl_records.specs.declared.records.Unit.{Unit}
use Rattle.atl_records.specs.Holdings.{HoldingValue}
use Rattle.atl_campaign.specs.Campaign.{CampaignValue}
pub use Rattle.atl_rows.specs.RowValues.{flag}
pub use Rattle.atl_campaign.specs.UnitRows.{unit_row}
pub use Rattle.atl_records.specs.Books.{is_zero}
use Rattle.atl_records.specs.Books.{Account, BooksValue, amount_in, entry_index, thing_index}
use Rattle.atl_records.specs.Grids.{listed_of}
use Rattle.atl_records.specs.declared.books.BooksEntry.{BooksEntry}
use Rattle.atl_records.specs.declared.books.Thing.{Thing}

-- the campaign row of a campaign in a format, with the id 1 and without the world text
abbrev pub campaign_row : Format → CampaignValue → StoredCampaignRow
campaign_row f c = record {
  id = pos 1;
  format = pos (format_number f);
  month = pos c.month;
  next_faction = pos c.next_faction;
  next_unit = pos c.next_unit;
  next_structure = pos c.next_structure;
  pass = c.pass;
}

-- the row of `faction` for faction n: its names, its pass text, and whether it is gone
abbrev pub faction_row : ℕ → Faction → StoredFaction
faction_row n f = record { number = pos n; joined_as = f.joined_as; name = f.name; pass = f.pass; gone = flag f.gone }

-- the row of `region` for region n: its peasants and money, without its stocks
abbrev pub region_row : ℕ → Region → StoredRegion
region_row n r = record { number = pos n; peasants = pos r.peasants; money = pos r.money }

-- the row of `structure` for structure n: its kind, name, region, how much is done, and its owner
abbrev pub structure_row : ℕ → Structure → StoredStructure
structure_row n s = record {
  number = pos n;
  kind = pos s.kind;
  name = s.name;
  region = pos s.region;
  done = pos s.done;
  owner = pos s.owner;
}

-- the row of `mail` for the mailing of faction n
abbrev pub mail_row : ℕ → List ℕ → StoredMail
mail_row n text = record { faction = pos n; text = text }

-- the row of `report` for the report of faction n
abbrev pub report_row : ℕ → List ℕ → StoredReport
report_row n text = record { faction = pos n; text = text }

-- the row of `has` for unit n, a sort (0 items, 1 skills), the number of an item or a skill, and its amount
abbrev pub has_row : ℕ → ℕ → ℕ → ℕ → StoredHas
has_row n sort thing amount = record { unit = pos n; sort = pos sort; thing = pos thing; amount = pos amount }

-- the row of `books` for an entry, a thing and the amount booked; entries are counted from 1, things from 0
abbrev pub books_row : BooksEntry → Thing → ℤ → StoredBooks
books_row entry thing amount = record { entry = pos (entry_index entry + 1); thing = pos (thing_index thing); amount = amount }

-- the row of `market` for a region, an item, and how much of it the region has in stock
abbrev pub market_row : ℕ → ℕ → ℕ → StoredMarket
market_row region item stock = record { region = pos region; item = pos item; stock = pos stock }

-- a row for each listed pair of a number and its value, in their order; `row` makes it of the pair
abbrev pub rows_by : {V R : Type 0} → (ℕ → V → R) → List (ℕ × V) → List R
rows_by row es = map (λ e. row e.0 e.1) es

-- A row for each listed pair of a number and its amount, in their order, but none that shows the amount 0. `row` makes
-- it of the pair, and `amount` reads the amount that it shows.
abbrev pub amount_rows : {R : Type 0} → (R → ℤ) → (ℕ → ℕ → R) → List (ℕ × ℕ) → List R
amount_rows amount row es = filter (λ r. not (is_zero (amount r))) (rows_by row es)

-- The rows of `has` for what unit n has of a sort (0 items, 1 skills), given as pairs of an item or a skill and its
-- amount. There is none for the amount 0.
abbrev pub rows_of_sort : ℕ → ℕ → List (ℕ × ℕ) → List StoredHas
rows_of_sort n sort es = amount_rows (λ r. r.amount) (has_row n sort) es

-- the rows of `has` for what unit n has: items, then days of study; there is none for the amount 0
abbrev pub held_rows : ℕ → HoldingValue → List StoredHas
held_rows n h = rows_of_sort n 0 (entries h.items) ++ rows_of_sort n 1 (entries h.days)

-- the rows of `has` of the given units, one unit after another, with none for the amount 0
abbrev pub has_rows : List (ℕ × Unit) → List StoredHas
has_rows es = flat_map (λ e. held_rows e.0 e.1.holding) es

-- a row of `books` for each of the given accounts (an entry and a thing), with its amount
abbrev pub amounts_rows : List (Account × ℤ) → List StoredBooks
amounts_rows xs = map (λ x. books_row x.0.0 x.0.1 x.1) xs

-- a row of `books` for each amount of the books that is listed
abbrev pub books_rows : BooksValue → List StoredBooks
books_rows books = amounts_rows (entries books.amounts)

-- a row of `market` for each stock of region n that is not 0; the stocks are given as pairs of an item and its amount
abbrev pub stock_rows : ℕ → List (ℕ × ℕ) → List StoredMarket
stock_rows n es = amount_rows (λ r. r.stock) (market_row n) es

-- the rows of `market` for the stocks of the given regions that are not 0; in the first format none
abbrev pub market_rows : Format → List (ℕ × Region) → List StoredMarket
market_rows First es = []
market_rows Second es = flat_map (λ e. stock_rows e.0 (entries e.1.stocks)) es

-- the rows of a campaign in each table of a format; in the first format there are none of stocks
unfoldable pub rows_of : Format → CampaignValue → Parts
rows_of f c = record {
  campaign = campaign_row f c ∷ [];
  factions = rows_by faction_row (entries c.factions);
  regions = rows_by region_row (entries c.regions);
  units = rows_by unit_row (entries c.units);
  has = has_rows (entries c.units);
  structures = rows_by structure_row (entries c.structures);
  mail = rows_by mail_row (entries c.mail);
  reports = rows_by report_row (entries c.reports);
  books = books_rows c.books;
  markets = market_rows f (entries c.regions);
}

-- the parts `some` and `others` have the same rows in each table, each as often, in any order
pub record AreSameRows (some others : Parts) : Type 0 where
  pub campaign : IsPermutation some.campaign others.campaign
  pub factions : IsPermutation some.factions others.factions
  pub regions : IsPermutation some.regions others.regions
  pub units : IsPermutation some.units others.units
  pub has : IsPermutation some.has others.has
  pub structures : IsPermutation some.structures others.structures
  pub mail : IsPermutation some.mail others.mail
  pub reports : IsPermutation some.reports others.reports
  pub books : IsPermutation some.books others.books
  pub markets : IsPermutation some.markets others.markets

-- `parts` are the rows of a campaign in a format, each once, in any order
abbrev pub AreRowsOf : Format → CampaignValue → Parts → Type 0
AreRowsOf f c parts = AreSameRows (rows_of f c) parts

-- for proofs alone: a row of `books` for each of the given accounts whose amount in the given books is not 0
abbrev pub rows_under : BooksValue → List Account → List StoredBooks
rows_under books accounts = amounts_rows (listed_of (λ a. amount_in books a.0 a.1) accounts)
