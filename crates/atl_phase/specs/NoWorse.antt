-- When a unit is unchanged or no worse off after a phase.
use Rattle.std.specs.Prelude.{◌≡◌, ◌≤◌, ℕ, Some}
use Rattle.std.specs.FinMap.{get}
use Rattle.atl_records.specs.declared.records.Unit.{Unit}
use Rattle.atl_world.specs.Every.{Every}
use Rattle.atl_records.specs.Holdings.{amount_of}
use Rattle.atl_campaign.specs.Campaign.{CampaignValue}
use Rattle.atl_phase.specs.Meaning.{Frame}

-- the unit is the same before and after
abbrev pub IsUnchanged : Unit → Unit → Type 0
IsUnchanged before after = after ≡ before

-- The unit has the same faction, region, structure, name and guard flag as before. It has no fewer men, no less money,
-- and no less of any item or of the days of any skill.
pub record IsNoWorse (before after : Unit) : Type 0 where
  pub faction : after.faction ≡ before.faction
  pub region : after.region ≡ before.region
  pub structure : after.structure ≡ before.structure
  pub name : after.holding.name ≡ before.holding.name
  pub guard : after.holding.guard ≡ before.holding.guard
  pub men : before.holding.men ≤ after.holding.men
  pub money : before.holding.money ≤ after.holding.money
  pub items : (i : ℕ) → amount_of before.holding.items i ≤ amount_of after.holding.items i
  pub days : (s : ℕ) → amount_of before.holding.days s ≤ amount_of after.holding.days s

-- each unit of the campaign before is in the campaign after, and no worse off there
abbrev pub AreNoWorse : CampaignValue → CampaignValue → Type 0
AreNoWorse before after = Every (λ n u. (v : Unit) × (get after.units n ≡ Some v) × IsNoWorse u v) before.units

-- what a phase keeps that takes nothing from any unit: each unit is still there, and no worse off
abbrev pub all_no_worse : Frame
all_no_worse w m before after = AreNoWorse before after
