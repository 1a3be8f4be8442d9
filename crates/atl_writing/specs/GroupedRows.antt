-- The rows of goods (the table `has`), of stocks and of books as lists, in the order in which they are put into empty
-- tables. `n`, or `unit` where it is a number, is the number of a unit or a region; `c` is the campaign.
use Rattle.std.specs.Prelude.{◌≡◌, ◌≢◌, ◌==◌, ◌+◌, ◌++◌, ℕ, pos, List, [], ◌∷◌, Some, ⊤, take, if◌then◌else◌}
use Rattle.std.specs.List.{flat_map}
use Rattle.std.specs.Ordering.{int_eq, nat_cmp}
use Rattle.std.specs.FinMap.{FinMap, entries, get}
use Rattle.sqlite.specs.Order.{Row}
use Rattle.sqlite_rules.specs.Lists.{Has}
use Rattle.atl_campaign.specs.Campaign.{CampaignValue}
use Rattle.atl_records.specs.Holdings.{HoldingValue}
use Rattle.atl_records.specs.Books.{all_entries, amount_in, entry_index, thing_at, thing_index}
use Rattle.atl_records.specs.declared.books.BooksEntry.{BooksEntry}
use Rattle.atl_records.specs.declared.books.Thing.{Thing}
use Rattle.atl_records.specs.declared.records.Region.{Region}
use Rattle.atl_records.specs.declared.records.Unit.{Unit}
use Rattle.atl_sql.specs.declared.rows.has.ThingKind.{ThingKind}
use Rattle.atl_sql.specs.declared.rows.has.ThingKind.TheVariants.{Item, Skill}
use Rattle.atl_descriptions.specs.Sets.{Set}
use Rattle.atl_sql.specs.Shown.{int, has_row, books_row, market_row}
use Rattle.atl_sql.specs.Written.{sort_number}

-- ---- groups of rows, each of one number

-- no two of the rows have the same key, which is the first `key` columns
abbrev pub DifferInKey : ℕ → List Row → Type 0
DifferInKey key [] = ⊤
DifferInKey key (x ∷ xs) = ((y : Row) → Has xs y → take key x ≢ take key y) × DifferInKey key xs

-- the rows that `lines` gives for each number and value of a list, one after another in the order of the list
abbrev pub groups_of : {V : Type 0} → (ℕ → V → List Row) → List (ℕ × V) → List Row
groups_of lines entries = flat_map (λ e. lines e.0 e.1) entries

-- `lines` gives the rows of a number and a value: they begin with the number and differ in their key, the first `key`
-- columns. The rows of all values of the map together are exactly those of the set `Wanted`.
pub record AreGroups {V : Type 0} (lines : ℕ → V → List Row) (key : ℕ) (values : FinMap nat_cmp V) (Wanted : Set) : Type 0 where
  pub numbered : (n : ℕ) (v : V) (r : Row) → Has (lines n v) r → take 1 r ≡ int n ∷ []
  pub apart : (n : ℕ) (v : V) → DifferInKey key (lines n v)
  pub wanted : (n : ℕ) (v : V) → get values n ≡ Some v → (r : Row) → Has (lines n v) r → Wanted r
  pub lined : (r : Row) → Wanted r → (n : ℕ) × (v : V) × (get values n ≡ Some v) × Has (lines n v) r

-- ---- amounts of things

-- the one row that `row` makes of a thing's number and its amount, as a list, or no row if the amount is 0
abbrev pub thing_rows : (ℕ → ℕ → Row) → ℕ → ℕ → List Row
thing_rows row thing amount = if amount == 0 then [] else row thing amount ∷ []

-- the rows that `row` makes of a list of things' numbers with their amounts: one row for each amount that isn't 0
abbrev pub amount_rows : (ℕ → ℕ → Row) → List (ℕ × ℕ) → List Row
amount_rows row amounts = flat_map (λ e. thing_rows row e.0 e.1) amounts

-- ---- what units have

-- the rows of the table `has` for things of one kind that the unit with this number has; `things` are their numbers
-- with their amounts, and an amount of 0 has no row
abbrev pub kind_lines : ℕ → ThingKind → List (ℕ × ℕ) → List Row
kind_lines unit sort things = amount_rows (has_row unit (sort_number sort)) things

-- the rows of the table `has` for what a unit holds, its items and then its skills, whose amount isn't 0
abbrev pub goods_lines : ℕ → HoldingValue → List Row
goods_lines unit held = kind_lines unit Item (entries held.items) ++ kind_lines unit Skill (entries held.days)

-- the rows of the table `has` for one unit: of its items and then of its skills, whose amount isn't 0
abbrev pub unit_goods_lines : ℕ → Unit → List Row
unit_goods_lines n unit = goods_lines n unit.holding

-- the rows of the table `has` for the listed units, each given with its number, in the order of the list: for each unit
-- a row for each item, and then for each skill, whose amount isn't 0
abbrev pub all_goods_lines : List (ℕ × Unit) → List Row
all_goods_lines units = groups_of unit_goods_lines units

-- ---- the stocks of markets

-- the rows of `market` for the stocks of one region, one for each item whose stock isn't 0
abbrev pub region_stock_lines : ℕ → Region → List Row
region_stock_lines n region = amount_rows (market_row n) (entries region.stocks)

-- the rows of `market` for all stocks of the listed regions that aren't 0, one region after another
abbrev pub all_stocks_lines : List (ℕ × Region) → List Row
all_stocks_lines regions = groups_of region_stock_lines regions

-- ---- the books

-- the row of `books` for the campaign's amount of one entry and thing, or none if the amount is 0
abbrev pub amount_lines : CampaignValue → BooksEntry → Thing → List Row
amount_lines c entry thing =
    if int_eq (amount_in c.books entry thing) (pos 0) then []
    else books_row (entry_index entry + 1) (thing_index thing) (amount_in c.books entry thing) ∷ []

-- the rows of `books` for the amounts of one thing under the listed entries, one for each amount that isn't 0
abbrev pub entries_lines : CampaignValue → Thing → List BooksEntry → List Row
entries_lines c thing entries = flat_map (λ entry. amount_lines c entry thing) entries

-- the rows of `books` for the amounts, under all entries, of the things with the listed numbers; an amount of 0 has
-- none
abbrev pub things_lines : CampaignValue → List ℕ → List Row
things_lines c indices = flat_map (λ index. entries_lines c (thing_at index) all_entries) indices
