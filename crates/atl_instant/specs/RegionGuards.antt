-- For proofs alone: the map of which faction guards each region.
use Rattle.std.specs.Prelude.{◌≡◌, ◌==◌, not, ℕ, Bool, false, true, List, Option, Some, None, fold, if◌then◌else◌}
use Rattle.std.specs.Ordering.{nat_cmp}
use Rattle.std.specs.FinMap.{FinMap, empty, entries, get, insert}
use Rattle.atl_records.specs.declared.records.Unit.{Unit}
use Rattle.atl_world.specs.Every.{Every}
use Rattle.atl_campaign.specs.Good.{guards}
use Rattle.atl_campaign.specs.Campaign.{CampaignValue}

-- a map from each guarded region to the number of the faction that guards it
abbrev pub GuardMap : Type 0
GuardMap = FinMap nat_cmp ℕ

-- the map with a unit's faction under its region, in place of one that is there; unchanged if the unit doesn't guard
abbrev pub with_guard_of : GuardMap → Unit → GuardMap
with_guard_of m u = if guards u then insert m u.region u.faction else m

-- the map after some units are noted in turn: the faction of each that guards is entered under its region, in place of
-- one that is there
abbrev pub with_guards_of : GuardMap → List (ℕ × Unit) → GuardMap
with_guards_of m es = fold (λ held e. with_guard_of held e.1) m es

-- The map of which faction guards each region of a campaign. If several do, the map has the faction of that guarding
-- unit which has the highest number.
abbrev pub guard_map_of : CampaignValue → GuardMap
guard_map_of c = with_guards_of empty (entries c.units)

-- whether another faction than the given one guards a region, by what the map has for the region (None: nobody guards)
abbrev pub has_other_guard : (faction : ℕ) → Option ℕ → Bool
has_other_guard faction None = false
has_other_guard faction (Some holder) = not (holder == faction)

-- unit u guards the given region, and is of the given faction
pub record IsGuardOf (region faction : ℕ) (u : Unit) : Type 0 where
  pub on_guard : guards u ≡ true
  pub in_region : u.region ≡ region
  pub belongs : u.faction ≡ faction

-- The map has the faction of each unit that guards under its region, and nothing else: each region in the map is
-- guarded by a unit of the faction that the map has for it.
pub record AreRegionGuards (c : CampaignValue) (m : GuardMap) : Type 0 where
  pub noted : Every (λ n u. guards u ≡ true → get m u.region ≡ Some u.faction) c.units
  pub held : (region faction : ℕ) → get m region ≡ Some faction →
      (n : ℕ) × (u : Unit) × (get c.units n ≡ Some u) × IsGuardOf region faction u
