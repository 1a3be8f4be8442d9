-- The lists of the structures and the units of each region, as the code makes them for the views of many factions. The
-- hiding level of a unit is the level of observation from which other factions see it.
use Rattle.std.specs.Prelude.{◌≡◌, ◌==◌, ◌++◌, ℕ, Bool, false, List, [], ◌∷◌, filter, Option, IfSome}
use Rattle.std.specs.Option.{option_map_or}
use Rattle.std.specs.Ordering.{nat_cmp}
use Rattle.std.specs.FinMap.{FinMap, get, insert}
use Rattle.atl_world.specs.Worlds.{WorldValue}
use Rattle.atl_records.specs.declared.records.Structure.{Structure}
use Rattle.atl_records.specs.declared.records.Unit.{Unit}
use Rattle.atl_world.specs.Every.{Every}
use Rattle.atl_campaign.specs.Campaign.{CampaignValue, numbers_in_region}
use Rattle.atl_lists.specs.Lists.{list_of}
use Rattle.atl_report.specs.Sight.{structures_in}
use Rattle.atl_sight.specs.Watching.{hiding_level}
use Rattle.atl_report.specs.declared.sites.RegionLists.{RegionLists}

-- the condition that lists of structures by region are right: each region's list has the numbers of its structures,
-- sorted, and a region without a list has no structures
abbrev pub AreSites : FinMap nat_cmp Structure → FinMap nat_cmp (List ℕ) → Type 0
AreSites structures sites = (region : ℕ) → list_of sites region ≡ structures_in region structures

-- `hides_at w level unit`: whether a unit exists, and has the given hiding level
abbrev pub hides_at : WorldValue → ℕ → Option Unit → Bool
hides_at w level unit = option_map_or (λ u. hiding_level w u == level) unit false

-- `units_hiding w c region level`: the numbers of a region's units that have the given hiding level, in ascending order
abbrev pub units_hiding : WorldValue → CampaignValue → ℕ → ℕ → List ℕ
units_hiding w c region level = filter (λ n. hides_at w level (get c.units n)) (numbers_in_region region c.units)

-- the condition that lists of a region's units by hiding level are right: each level's list has the numbers of the
-- units that have it, sorted, and a level without a list has no units
abbrev pub AreLevels : WorldValue → CampaignValue → ℕ → FinMap nat_cmp (List ℕ) → Type 0
AreLevels w c region levels = (level : ℕ) → list_of levels level ≡ units_hiding w c region level

-- What `lists` has is right: the lists of structures, if they are there, and each region's lists by hiding level.
-- Structures may have no lists (None), and so may a region's units: a view makes the lists that it lacks.
pub record AreRegionLists (w : WorldValue) (c : CampaignValue) (lists : RegionLists) : Type 0 where
  pub sites : IfSome lists.sites (AreSites c.structures)
  pub levels : Every (AreLevels w c) lists.levels

-- `with_listed lists key number`: the lists with a number added at the end of a key's list, which is empty before if
-- the key has none
abbrev pub with_listed : FinMap nat_cmp (List ℕ) → ℕ → ℕ → FinMap nat_cmp (List ℕ)
with_listed lists key number = insert lists key (list_of lists key ++ (number ∷ []))
