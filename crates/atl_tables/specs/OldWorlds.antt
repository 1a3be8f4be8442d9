-- The law that worlds of the first format have no markets.
use Rattle.std.specs.Prelude.{◌≡◌, ℕ, List, Ok}
use Rattle.atl_tables.specs.World.{old_world_of}
use Rattle.atl_world.specs.Worlds.{WorldValue, without_markets}

-- No world that a text gives in the first format has a market: leaving the markets out changes nothing.
abbrev pub OldWorldsHaveNoMarkets : Type 0
OldWorldsHaveNoMarkets = (text : List ℕ) (w : WorldValue) → old_world_of text ≡ Ok w → without_markets w ≡ w
