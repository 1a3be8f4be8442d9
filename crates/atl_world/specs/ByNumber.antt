-- Looks up things of a world by number: terrains, neighbours, markets, kinds and fees.
use Rattle.std.specs.Prelude.{ℕ, Bool, false, Option, option_and_then}
use Rattle.std.specs.FinMap.{get}
use Rattle.std.specs.List.{slice_get}
use Rattle.std.specs.Option.{option_map_or}
use Rattle.atl_world.specs.Limits.{most_size}
use Rattle.atl_world.specs.Worlds.{WorldValue, neighbour_to, is_land}
use Rattle.atl_world.specs.declared.direction.Direction.{Direction}
use Rattle.atl_world.specs.declared.world.Market.{Market}
use Rattle.atl_world.specs.declared.world.Terrain.{Terrain}

-- the terrain of a region, by the region's number; None if the world has no such region, or not its terrain
abbrev pub terrain_of : WorldValue → (region : ℕ) → Option Terrain
terrain_of w region = option_and_then (λ p. slice_get w.terrains p.terrain) (get w.regions region)

-- whether the world has a region with a given number, and the region's terrain is land
abbrev pub is_land_at : WorldValue → (region : ℕ) → Bool
is_land_at w region = option_map_or (is_land w.terrains) (get w.regions region) false

-- the number of the region next to a region in a direction; None if there is no such region, or none next to it there
abbrev pub neighbour : WorldValue → (region : ℕ) → Direction → Option ℕ
neighbour w region direction = option_and_then (neighbour_to direction) (get w.regions region)

-- the market of an item in a region, both by number; None if there is no such region or market
abbrev pub market_of : WorldValue → (region item : ℕ) → Option Market
market_of w region item = option_and_then (λ p. get p.markets item) (get w.regions region)

-- whether a kind of structure, by its number, is a ship; false if there is no such kind
abbrev pub is_ship : WorldValue → (kind : ℕ) → Bool
is_ship w kind = option_map_or (λ k. k.ship) (slice_get w.kinds kind) false

-- the size of a complete structure of a kind, by the kind's number; most_size if there is no such kind
abbrev pub size_of : WorldValue → (kind : ℕ) → ℕ
size_of w kind = option_map_or (λ k. k.size) (slice_get w.kinds kind) most_size

-- the money that a month of study of a skill, by its number, costs each man; 0 if there is no such skill
abbrev pub fee_of : WorldValue → (skill : ℕ) → ℕ
fee_of w skill = option_map_or (λ s. s.fee) (slice_get w.skills skill) 0
