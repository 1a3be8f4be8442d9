-- Laws of a change that is made for a unit or a region only if it is there. `change` makes of that unit or region the
-- campaign after the change, and `P` is any statement, such as one about a campaign.
use Rattle.std.proofs.Common.{◌≡◌, ℕ, Option, Some, None, refl, ap}
use Rattle.std.specs.Option.{option_map_or}
use Rattle.std.specs.FinMap.{get}
use Rattle.atl_records.specs.declared.records.Region.{Region}
use Rattle.atl_records.specs.declared.records.Unit.{Unit}
use Rattle.atl_campaign.specs.Campaign.{CampaignValue}
use Rattle.atl_phase.specs.There.{at_region, at_unit}

-- `P` holds of `option_map_or f o otherwise`, if it holds of `otherwise`, and of `f x` for the value `x` of `o`, if `o`
-- has one
pub by_option : {A B : Type 0} (P : B → Type 0) (f : A → B) (o : Option A) (otherwise : B) → P otherwise
    → ((x : A) → o ≡ Some x → P (f x)) → P (option_map_or f o otherwise)
by_option {A} P f o otherwise without with = by_case o refl
  where
    by_case : (p : Option A) → o ≡ p → P (option_map_or f p otherwise)
    by_case None is = without
    by_case (Some x) is = with x is

-- `n` is the number of a unit or, for changes of a region, of a region
module _ (c : CampaignValue) (n : ℕ) where
  -- a change for unit `n` is made, if the unit is there
  pub unit_there : (change : Unit → CampaignValue) (u : Unit) → get c.units n ≡ Some u → at_unit c n change ≡ change u
  unit_there change u is = ap (λ o. option_map_or change o c) is

  -- `P` holds after a change for unit `n`, if it holds of `c`, and, where the unit is there, of what it makes
  pub by_unit : (P : CampaignValue → Type 0) (change : Unit → CampaignValue) → P c
      → ((u : Unit) → get c.units n ≡ Some u → P (change u)) → P (at_unit c n change)
  by_unit P change without with = by_option P change (get c.units n) c without with

  -- a change for region `n` is made, if the region is there
  pub region_there : (change : Region → CampaignValue) (q : Region) → get c.regions n ≡ Some q
      → at_region c n change ≡ change q
  region_there change q is = ap (λ o. option_map_or change o c) is

  -- `P` holds after a change for region `n`, if it holds of `c`, and, where the region is there, of what it makes
  pub by_region : (P : CampaignValue → Type 0) (change : Region → CampaignValue) → P c
      → ((q : Region) → get c.regions n ≡ Some q → P (change q)) → P (at_region c n change)
  by_region P change without with = by_option P change (get c.regions n) c without with
