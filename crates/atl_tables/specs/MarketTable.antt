-- A table `[[region.market]]` of the world file: its keys in order, with their ranges, and the market they give.
-- See docs/FORMATS.md, "The world file". A key with a fault gives a default value (`value_or`).
-- t has the members of the table at the path `at`. `all` has all tables of the file as read, d is a market, and `ds`
-- are the markets of a region.
use Rattle.std.specs.Prelude.{ℕ, List, [], ◌∷◌, codes, map, unwrap_or}
use Rattle.std.specs.FinMap.{FinMap}
use Rattle.std.specs.Ordering.{nat_cmp}
use Rattle.toml.specs.Data.{Members}
use Rattle.atl_tables.specs.Arrays.{list_conditions, list_of}
use Rattle.atl_tables.specs.Faults.{Conditions, fault_of, value_or}
use Rattle.atl_tables.specs.Keys.{KeyReader, path, number_at, text_at, optional_array_at}
use Rattle.atl_world.specs.Limits.{most_amount, most_markets, most_price}
use Rattle.atl_world.specs.Sums.{by_number}
use Rattle.atl_tables.specs.Titles.{name_is_known, item_number, no_duplicates}
use Rattle.atl_tables.specs.declared.market_table.MarketDraft.{MarketDraft}
use Rattle.atl_tables.specs.declared.world_draft.WorldDraft.{WorldDraft}
use Rattle.atl_world.specs.declared.world.Market.{Market}

-- reads the key `price` of a table `[[region.market]]`, from 1 to most_price: what a unit pays for one item
abbrev pub price_at : KeyReader ℕ
price_at = number_at 1 most_price (codes "price")

-- reads the key `pays` of a table `[[region.market]]`, from 1 to most_price: what the market pays a unit for one item
abbrev pub pays_at : KeyReader ℕ
pays_at = number_at 1 most_price (codes "pays")

-- reads the key `limit` of a table `[[region.market]]`, from 0 to most_amount: the market's largest stock
abbrev pub limit_at : KeyReader ℕ
limit_at = number_at 0 most_amount (codes "limit")

-- reads the key `restock` of a table `[[region.market]]`, from 0 to most_amount: what the stock gains in a month
abbrev pub restock_at : KeyReader ℕ
restock_at = number_at 0 most_amount (codes "restock")

-- The conditions on the keys `item`, `price`, `pays`, `limit` and `restock` of the table `[[region.market]]` at a path.
-- None is missing, each has its type, and the numbers are in their ranges.
unfoldable pub market_keys : List ℕ → Members → Conditions
market_keys at t =
    fault_of (text_at (codes "item") at t)
    ∷ fault_of (price_at at t)
    ∷ fault_of (pays_at at t)
    ∷ fault_of (limit_at at t)
    ∷ fault_of (restock_at at t)
    ∷ []

-- the market that the table `[[region.market]]` at a path gives, with its item by name; `table_path` keeps the path
unfoldable pub market_from : List ℕ → Members → MarketDraft
market_from at t = record {
  table_path = at;
  item = value_or [] (text_at (codes "item") at t);
  price = value_or 0 (price_at at t);
  pays = value_or 0 (pays_at at t);
  limit = value_or 0 (limit_at at t);
  restock = value_or 0 (restock_at at t);
}

-- the path of the markets of the region at a path, as `region[0].market`
abbrev pub market_path : List ℕ → List ℕ
market_path at = path at (codes "market")

-- the conditions on the array of the markets of the region at a path, which may be missing and has at most most_markets
-- elements, and on the keys of each market
unfoldable pub markets_keys : List ℕ → Members → Conditions
markets_keys at t =
    list_conditions market_keys (market_path at) (optional_array_at most_markets (market_path at) (codes "market") t)

-- the markets that the table `[[region]]` at a path gives, in the order of the file, none if their array has a fault
unfoldable pub markets_from : List ℕ → Members → List MarketDraft
markets_from at t = list_of market_from (market_path at) (optional_array_at most_markets (market_path at) (codes "market") t)

-- the conditions that no two markets of the region at a path name the same item, ignoring ASCII case; else TwoNames
abbrev pub duplicate_items : List ℕ → List MarketDraft → Conditions
duplicate_items at ds = no_duplicates (λ d. d.item) (market_path at) (codes "item") ds

-- the condition that the key `item` of a market names an item, ignoring ASCII case; else the fault UnknownName
unfoldable pub market_known : WorldDraft → MarketDraft → Conditions
market_known all d = name_is_known (path d.table_path (codes "item")) (item_number all d.item) ∷ []

-- the market that a table `[[region.market]]` describes, with its item by number, 0 for an unknown name
unfoldable pub market_of : WorldDraft → MarketDraft → Market
market_of all d = record {
  item = unwrap_or (item_number all d.item) 0;
  price = d.price;
  pays = d.pays;
  limit = d.limit;
  restock = d.restock;
}

-- the markets of a region, each under the number of its item; of two with the same number the first counts
abbrev pub markets_of : WorldDraft → List MarketDraft → FinMap nat_cmp Market
markets_of all ds = by_number (λ m. m.item) (map (market_of all) ds)
