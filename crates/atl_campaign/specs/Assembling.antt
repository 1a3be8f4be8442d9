-- For proofs alone: how a campaign is built from rows: maps with nothing marked, then items, days, stocks by row.
-- A number that doesn't fit 32 bits (of a kind 16), also a negative one, is read as the largest. A flag is set if it is
-- any number but 0. Of rows for one key the last counts, and an amount of 0 is listed too.
use Rattle.std.specs.Prelude.{ℕ, ◌==◌, List, [], ◌∷◌, if◌then◌else◌}
use Rattle.std.specs.Ordering.{nat_cmp}
use Rattle.std.specs.FinMap.{FinMap, empty, insert}
use Rattle.std.specs.FinSet as set
use Rattle.atl_world.specs.MarkedMaps.{MarkedMapValue}
use Rattle.atl_world.specs.Sums.{with_changed_value}
use Rattle.atl_campaign.specs.declared.assembly.maps.CampaignMaps.{CampaignMaps}
use Rattle.atl_rows.specs.declared.parts.Parts.{Parts}
use Rattle.atl_rows.specs.declared.parts.StoredHas.{StoredHas}
use Rattle.atl_rows.specs.declared.parts.StoredMarket.{StoredMarket}
use Rattle.atl_rows.specs.declared.parts.StoredRegion.{StoredRegion}
use Rattle.atl_rows.specs.declared.parts.StoredUnit.{StoredUnit}
use Rattle.atl_records.specs.declared.records.Region.{Region}
use Rattle.atl_records.specs.declared.records.Unit.{Unit}
use Rattle.atl_campaign.specs.FromRows.{as_u32, by_number, faction_of, region_of, region_with_stocks, structure_of, unit_with_goods}
use Rattle.atl_campaign.specs.Regions.{unmarked_regions}

-- a map with none of its numbers marked
abbrev pub without_marks : {V : Type 0} → FinMap nat_cmp V → MarkedMapValue V
without_marks m = record { values = m; marks = set.empty }

-- the factions, regions (with stocks), structures, mail and reports that are read from rows, with nothing marked; mail
-- and reports are by the numbers of their factions
abbrev pub campaign_maps_of : Parts → CampaignMaps
campaign_maps_of p = record {
  factions = without_marks (by_number (λ r. as_u32 r.number) faction_of p.factions);
  regions = unmarked_regions (by_number (λ r. as_u32 r.number) (region_of p.markets) p.regions);
  structures = without_marks (by_number (λ r. as_u32 r.number) structure_of p.structures);
  mail = without_marks (by_number (λ r. as_u32 r.faction) (λ r. r.text) p.mail);
  reports = without_marks (by_number (λ r. as_u32 r.faction) (λ r. r.text) p.reports);
}

-- the unit that a row of the table `unit` says, without items and days of study
abbrev pub bare_unit : StoredUnit → Unit
bare_unit r = unit_with_goods r empty empty

-- the region that a row of the table `region` says, with nothing in stock
abbrev pub bare_region : StoredRegion → Region
bare_region r = region_with_stocks r empty

-- A unit with the amount of a row of the table `has` put in, whichever unit the row is of. The amount is of pieces of
-- an item (sort 0) or of days of a skill (sort 1). With another sort the unit is unchanged.
abbrev pub with_has_row : StoredHas → Unit → Unit
with_has_row r u =
    if as_u32 r.sort == 0
    then record u { holding = record u.holding { items = insert u.holding.items (as_u32 r.thing) (as_u32 r.amount) } }
    else if as_u32 r.sort == 1
    then record u { holding = record u.holding { days = insert u.holding.days (as_u32 r.thing) (as_u32 r.amount) } }
    else u

-- a region with the stock of a row of the table `market` put in, whichever region the row is of
abbrev pub with_market_row : StoredMarket → Region → Region
with_market_row r x = record x { stocks = insert x.stocks (as_u32 r.item) (as_u32 r.stock) }

-- the map changed row by row: each row changes, as `more` says, the value under the number that `owner` gives for the
-- row, if there is one
abbrev pub with_rows_added : {R V : Type 0} → (R → ℕ) → (R → V → V) → List R → FinMap nat_cmp V → FinMap nat_cmp V
with_rows_added owner more [] m = m
with_rows_added owner more (r ∷ rows) m = with_rows_added owner more rows (with_changed_value (more r) m (owner r))
