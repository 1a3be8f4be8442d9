-- The regions of a campaign as clauses see them: by their numbers, with the marks on their rows and stocks. Where a
-- stock is marked, its region is put in `markets`.
use Rattle.std.specs.Prelude.{◌≡◌, ◌⊎◌, ◌==◌, ℕ, Option, None, refl, if◌then◌else◌}
use Rattle.std.specs.Option.{option_map_or}
use Rattle.std.specs.Ordering.{nat_cmp}
use Rattle.std.specs.Coded.{Coded, code_by, coded×, coded_ℕ}
use Rattle.std.specs.FinMap as map
use Rattle.std.specs.FinSet as set
use Rattle.atl_world.specs.RoomySets.{RoomySet, HasRoomForMarks}
use Rattle.atl_world.specs.Sums.{with_changed_value}
use Rattle.atl_world.specs.Tracking.{marked_with}
use Rattle.atl_records.specs.Holdings.{with_amount_of}
use Rattle.atl_records.specs.declared.records.Region.{Region}
use Rattle.atl_records.specs.contracts.records.Region as region
use Rattle.atl_campaign.specs.Marks.{AreStocksWithin, MarkedThings, thing_marked, things_code}
use Rattle.atl_campaign.specs.Stocks.{stock_in}

-- The regions by number, with their marks: `rows` has the regions whose rows are marked, and `markets` those of which
-- a stock is. Of these, `stocks` has the regions all of whose stocks are marked, and `items` single stocks by region.
pub record MarkedRegions : Type 0 where
  pub values : map.FinMap nat_cmp Region
  pub rows : set.FinSet nat_cmp
  pub markets : set.FinSet nat_cmp
  pub stocks : set.FinSet nat_cmp
  pub items : MarkedThings

-- for proofs alone: regions with marks encoded as nested pairs, as the kit asks of a type that contracts see
abbrev pub regions_code : Coded MarkedRegions
regions_code =
    let numbers = set.code coded_ℕ in
    code_by (map.FinMap nat_cmp Region × (set.FinSet nat_cmp × (set.FinSet nat_cmp × (set.FinSet nat_cmp × MarkedThings))))
    (coded× (map.code coded_ℕ region.the_row.coded) (coded× numbers (coded× numbers (coded× numbers things_code))))
    (λ r. (r.values, (r.rows, (r.markets, (r.stocks, r.items)))))
    (λ p. record { values = p.0; rows = p.1.0; markets = p.1.1.0; stocks = p.1.1.1.0; items = p.1.1.1.1 })
    (λ _. refl)

-- the given regions, with nothing marked
abbrev pub unmarked_regions : map.FinMap nat_cmp Region → MarkedRegions
unmarked_regions values = record { values = values; rows = set.empty; markets = set.empty; stocks = set.empty; items = map.empty }

-- a number of region n, which `of` reads; 0 where the region isn't there
abbrev pub number_in : (of : Region → ℕ) → map.FinMap nat_cmp Region → ℕ → ℕ
number_in of values n = option_map_or of (map.get values n) 0

-- the region whose row a change of a number marks: region n, if there is one and its number, which `of` reads, is
-- another than the new number x; else None
abbrev pub region_to_set : (of : Region → ℕ) → map.FinMap nat_cmp Region → ℕ → ℕ → Option Region
region_to_set of values n x = if number_in of values n == x then None else map.get values n

-- The regions with region n, if there is one, changed by the function f, which is to set the number that `of` reads to
-- x. If it was another number, the region's row is marked; stocks get no mark.
abbrev pub with_region_number : (of : Region → ℕ) → (Region → Region) → MarkedRegions → ℕ → ℕ → MarkedRegions
with_region_number of f r n x =
    record r { values = with_changed_value f r.values n; rows = marked_with r.rows n (region_to_set of r.values n x) }

-- the regions in which region n, if there is one, has the given amount of an item in stock; 0 of an item isn't listed
abbrev pub with_stock_at : map.FinMap nat_cmp Region → (region item : ℕ) → ℕ → map.FinMap nat_cmp Region
with_stock_at values n item amount = with_changed_value (λ r. record r { stocks = with_amount_of r.stocks item amount }) values n

-- the regions with the stock of an item in region n marked; unchanged if None is given for that region
abbrev pub with_item_marked_in : MarkedRegions → (region item : ℕ) → Option Region → MarkedRegions
with_item_marked_in r n item region =
    record r { markets = marked_with r.markets n region; items = thing_marked r.items n item region }

-- the regions with all stocks of region n marked; unchanged if None is given for that region
abbrev pub with_stocks_marked_in : MarkedRegions → (region : ℕ) → Option Region → MarkedRegions
with_stocks_marked_in r n region = record r { markets = marked_with r.markets n region; stocks = marked_with r.stocks n region }

-- the regions with the stock of an item in region n marked, if there is such a region
abbrev pub with_item_marked : MarkedRegions → (region item : ℕ) → MarkedRegions
with_item_marked r n item = with_item_marked_in r n item (map.get r.values n)

-- the regions with all stocks of region n marked, if there is such a region
abbrev pub with_stocks_marked : MarkedRegions → (region : ℕ) → MarkedRegions
with_stocks_marked r n = with_stocks_marked_in r n (map.get r.values n)

-- the region of which a change of stock marks a stock: region n, if there is one and its stock of an item is another
-- than the new one, `amount`; else None
abbrev pub region_to_restock : map.FinMap nat_cmp Region → (region item : ℕ) → ℕ → Option Region
region_to_restock values n item amount = if stock_in values n item == amount then None else map.get values n

-- `after` has the marks of `before`. If the region was there with another stock of the item than `amount`, there is
-- also a mark on that stock alone, or on all stocks of the region. Any regions may be in `after`.
abbrev pub MarksStockAt : (before after : MarkedRegions) → (region item : ℕ) → ℕ → Type 0
MarksStockAt before after n item amount =
    let region = region_to_restock before.values n item amount in
    (after ≡ record (with_item_marked_in before n item region) { values = after.values })
    ⊎ (after ≡ record (with_stocks_marked_in before n region) { values = after.values })

-- For proofs alone: there is room to mark each region's row and its stocks, and a region with a marked stock is in
-- `markets`. `rows` has the regions whose rows are marked, `stocks` those all of whose stocks are, and `items` single
-- stocks by region.
pub record AreRegions (regions : map.FinMap nat_cmp Region) (rows markets stocks : RoomySet) (items : MarkedThings) : Type 0 where
  pub within : AreStocksWithin markets.numbers stocks.numbers items
  pub rows_fit : HasRoomForMarks regions rows
  pub markets_fit : HasRoomForMarks regions markets
  pub stocks_fit : HasRoomForMarks regions stocks
