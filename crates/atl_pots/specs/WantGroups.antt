-- For proofs alone: the wants of units (`wants`, by unit), grouped by the pots that they ask for, and the shares of
-- each group. `asked_by` gives, by a unit's number, the number of the pot that it asks for, if any.
use Rattle.std.specs.Prelude.{ℕ, List, [], Option, is_some, if◌then◌else◌}
use Rattle.std.specs.List.{flat_map, fold}
use Rattle.std.specs.Option.{option_map_or}
use Rattle.std.specs.Ordering.{nat_cmp}
use Rattle.std.specs.FinMap.{FinMap, empty, entries, get, insert}
use Rattle.atl_world.specs.Groups.{group_of}
use Rattle.atl_campaign.specs.Campaign.{CampaignValue}
use Rattle.atl_pots.specs.Pots.{region_of_unit, shares_of}

-- the wants of units: for each pot a map from each unit that asks for it to its want
abbrev pub WantGroups : Type 0
WantGroups = FinMap nat_cmp (FinMap nat_cmp ℕ)

-- the groups with the want of a pair (unit, want) put under the pot that the unit asks for; unchanged if there is none
abbrev pub with_want : (asked_by : ℕ → Option ℕ) → WantGroups → ℕ × ℕ → WantGroups
with_want asked_by groups e =
    option_map_or (λ pot. insert groups pot (insert (group_of groups pot) e.0 e.1)) (asked_by e.0) groups

-- the wants of all units that ask for a pot, grouped by these pots
abbrev pub grouped : (asked_by : ℕ → Option ℕ) → FinMap nat_cmp ℕ → WantGroups
grouped asked_by wants = fold (with_want asked_by) empty (entries wants)

-- `pot_of` gives the pot of a region by its number; for items, by the numbers of the item and of the region
module _ (c : CampaignValue) where
  -- the units of a group (region, wants by unit) with their shares of the region's pot; none without the region
  abbrev pub region_shares : (pot_of : ℕ → ℕ) → ℕ × FinMap nat_cmp ℕ → List (ℕ × ℕ)
  region_shares pot_of group = if is_some (get c.regions group.0) then shares_of (pot_of group.0) group.1 else []

  -- the units that have a want and are in a region of the campaign, region by region, each with its share of the pot
  abbrev pub all_region_shares : (pot_of : ℕ → ℕ) → FinMap nat_cmp ℕ → List (ℕ × ℕ)
  all_region_shares pot_of wants = flat_map (region_shares pot_of) (entries (grouped (region_of_unit c.units) wants))

  -- those units of a group (item, wants by unit) that are in a region of the campaign, region by region, each with its
  -- share of what the region has of the item
  abbrev pub shares_of_item : (pot_of : ℕ → ℕ → ℕ) → ℕ × FinMap nat_cmp ℕ → List (ℕ × ℕ)
  shares_of_item pot_of group = all_region_shares (pot_of group.0) group.1
