-- A table `[[region]]` of the world file: its keys in order, with their ranges, and the region that they give.
-- See docs/FORMATS.md, "The world file". A faulty key gives a default value (`value_or`). The rule of names: `name_ok`.
-- t has the members of the table at the path `at`. `all` has all tables of the file as read, and d is the i-th region.
use Rattle.std.specs.Prelude.{ℕ, List, [], ◌∷◌, codes, Option, None, unwrap_or}
use Rattle.toml.specs.Data.{Members}
use Rattle.atl_tables.specs.Each.{conditions_on_each}
use Rattle.atl_tables.specs.Faults.{Conditions, fault_of, first_fault, value_or}
use Rattle.atl_tables.specs.Keys.{KeyReader, path, element_path, number_at, name_at, text_at, optional_number_at}
use Rattle.atl_world.specs.Limits.{last_region, most_amount}
use Rattle.atl_tables.specs.MarketTable.{markets_keys, markets_from, duplicate_items, market_known, markets_of}
use Rattle.atl_tables.specs.Titles.{name_is_known, terrain_number}
use Rattle.atl_tables.specs.declared.region_table.OldRegion.{OldRegion}
use Rattle.atl_tables.specs.declared.region_table.RegionBasics.{RegionBasics}
use Rattle.atl_tables.specs.declared.region_table.RegionDraft.{RegionDraft}
use Rattle.atl_tables.specs.declared.region_table.Sides.{Sides}
use Rattle.atl_tables.specs.declared.world_draft.WorldDraft.{WorldDraft}
use Rattle.atl_world.specs.declared.world.RegionPlan.{RegionPlan}

-- reads the key `number` of a table `[[region]]`, from 1 to last_region
abbrev pub region_number_at : KeyReader ℕ
region_number_at = number_at 1 last_region (codes "number")

-- reads the key `peasants` of a table `[[region]]`, from 0 to most_amount: its peasants at founding
abbrev pub peasants_at : KeyReader ℕ
peasants_at = number_at 0 most_amount (codes "peasants")

-- reads the key `money` of a table `[[region]]`, from 0 to most_amount: its money at founding
abbrev pub money_at : KeyReader ℕ
money_at = number_at 0 most_amount (codes "money")

-- The conditions on the keys `number`, `name`, `terrain`, `peasants` and `money` of the table `[[region]]` at a path.
-- None is missing, each has its type, numbers are in their ranges, and `name` keeps the rule of names.
unfoldable pub basics_keys : List ℕ → Members → Conditions
basics_keys at t =
    fault_of (region_number_at at t)
    ∷ fault_of (name_at (codes "name") at t)
    ∷ fault_of (text_at (codes "terrain") at t)
    ∷ fault_of (peasants_at at t)
    ∷ fault_of (money_at at t)
    ∷ []

-- the number, name, terrain (by name), peasants and money that the table `[[region]]` at a path gives
unfoldable pub basics_from : List ℕ → Members → RegionBasics
basics_from at t = record {
  number = value_or 0 (region_number_at at t);
  name = value_or [] (name_at (codes "name") at t);
  terrain = value_or [] (text_at (codes "terrain") at t);
  peasants = value_or 0 (peasants_at at t);
  money = value_or 0 (money_at at t);
}

-- reads the key `north` of a table `[[region]]`, from 1 to last_region: the region to the north, None if it is missing
abbrev pub north_at : KeyReader (Option ℕ)
north_at = optional_number_at 1 last_region (codes "north")

-- reads the key `south` of a table `[[region]]`, from 1 to last_region: the region to the south, None if it is missing
abbrev pub south_at : KeyReader (Option ℕ)
south_at = optional_number_at 1 last_region (codes "south")

-- reads the key `east` of a table `[[region]]`, from 1 to last_region: the region to the east, None if it is missing
abbrev pub east_at : KeyReader (Option ℕ)
east_at = optional_number_at 1 last_region (codes "east")

-- reads the key `west` of a table `[[region]]`, from 1 to last_region: the region to the west, None if it is missing
abbrev pub west_at : KeyReader (Option ℕ)
west_at = optional_number_at 1 last_region (codes "west")

-- the conditions on the keys `north`, `south`, `east` and `west` of the table `[[region]]` at a path: each that is
-- there is a number from 1 to last_region
unfoldable pub side_keys : List ℕ → Members → Conditions
side_keys at t =
    fault_of (north_at at t)
    ∷ fault_of (south_at at t)
    ∷ fault_of (east_at at t)
    ∷ fault_of (west_at at t)
    ∷ []

-- the numbers of the neighbours on the four sides in the table `[[region]]` at a path, None for a missing or faulty key
unfoldable pub sides_from : List ℕ → Members → Sides
sides_from at t = record {
  north = value_or None (north_at at t);
  south = value_or None (south_at at t);
  east = value_or None (east_at at t);
  west = value_or None (west_at at t);
}

-- the conditions on the table `[[region]]` at a path in the first format, without markets: those on number, name,
-- terrain, peasants and money as one, and then those on its four sides
unfoldable pub old_region_keys : List ℕ → Members → Conditions
old_region_keys at t = first_fault (basics_keys at t) ∷ side_keys at t

-- the region that the table `[[region]]` at a path gives in the first format, with its terrain by name
unfoldable pub old_region_from : List ℕ → Members → OldRegion
old_region_from at t = record { basics = basics_from at t; sides = sides_from at t }

-- a region of the first format as one of the second format without markets
abbrev pub as_draft : OldRegion → RegionDraft
as_draft r = record { basics = r.basics; sides = r.sides; markets = [] }

-- the conditions on the table `[[region]]` at a path in the second format: those of the first as one, then its markets'
unfoldable pub region_keys : List ℕ → Members → Conditions
region_keys at t = first_fault (old_region_keys at t) ∷ markets_keys at t

-- the region that the table `[[region]]` at a path gives in the second format, with terrain and markets' items by name
unfoldable pub region_from : List ℕ → Members → RegionDraft
region_from at t = record { basics = basics_from at t; sides = sides_from at t; markets = markets_from at t }

-- the conditions that no two markets of the i-th region name the same item, ignoring ASCII case; else TwoNames
unfoldable pub duplicate_market_items : ℕ → RegionDraft → Conditions
duplicate_market_items i d = duplicate_items (element_path (codes "region") i) d.markets

-- the conditions on names in the i-th region: `terrain` names a terrain, and each market's `item` an item, ignoring
-- ASCII case; else UnknownName
unfoldable pub region_known : WorldDraft → ℕ → RegionDraft → Conditions
region_known all i d =
    name_is_known (path (element_path (codes "region") i) (codes "terrain")) (terrain_number all d.basics.terrain)
    ∷ conditions_on_each (λ k m. market_known all m) 0 d.markets

-- the region that a table `[[region]]` describes, with terrain and markets' items by number, 0 for an unknown name
unfoldable pub region_of : WorldDraft → RegionDraft → RegionPlan
region_of all d = record {
  number = d.basics.number;
  name = d.basics.name;
  terrain = unwrap_or (terrain_number all d.basics.terrain) 0;
  peasants = d.basics.peasants;
  money = d.basics.money;
  north = d.sides.north;
  south = d.sides.south;
  east = d.sides.east;
  west = d.sides.west;
  markets = markets_of all d.markets;
}
