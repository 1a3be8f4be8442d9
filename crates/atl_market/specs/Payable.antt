-- For proofs alone: when a unit's share of a pot can be paid to it, in TAX, RECRUIT and WORK.
use Rattle.std.specs.Prelude.{◌≡◌, ◌≤◌, ◌+◌, ◌*◌, ℕ, Some}
use Rattle.std.specs.FinMap.{get}
use Rattle.atl_world.specs.Worlds.{WorldValue}
use Rattle.atl_records.specs.declared.records.Region.{Region}
use Rattle.atl_records.specs.declared.records.Unit.{Unit}
use Rattle.atl_campaign.specs.Good.{IsEarly, IsSteady}
use Rattle.atl_records.specs.Limits.{holding_limit, men_limit}
use Rattle.atl_campaign.specs.Campaign.{CampaignValue}
use Rattle.atl_phase.specs.Bounds.{HaveRoom}
use Rattle.atl_market.specs.Recruit.{recruit_moves}
use Rattle.atl_market.specs.Work.{wages_for, work_moves}

-- unit `n` is in the campaign, and so is the region that it is in (`around`)
pub record IsSomewhere (c : CampaignValue) (n : ℕ) : Type 0 where
  pub unit : Unit
  pub there : get c.units n ≡ Some unit
  pub region : Region
  pub around : get c.regions unit.region ≡ Some region

-- The unit of a pair (unit, share) can take its share of tax: it and its region are there, it has room for the money,
-- and its region has it. The campaign is early.
pub record CanTax (w : WorldValue) (c : CampaignValue) (e : ℕ × ℕ) : Type 0 where
  pub at : IsSomewhere c e.0
  -- the unit has at most 999,999,999 money with its share added
  pub fits : at.unit.holding.money + e.1 ≤ holding_limit
  -- the region has at least as much money as the share
  pub enough : e.1 ≤ at.region.money
  pub early : IsEarly w c

-- The unit of a pair (unit, share) can get its share of recruits: it and its region are there. It has the money and
-- room for the men, the region has the peasants, and the books have room. The campaign is early.
pub record CanRecruit (w : WorldValue) (c : CampaignValue) (e : ℕ × ℕ) : Type 0 where
  pub at : IsSomewhere c e.0
  -- the unit has at most 999,999 men with its recruits added
  pub fits : at.unit.holding.men + e.1 ≤ men_limit
  -- the unit has the money for the price of all its recruits
  pub payable : e.1 * w.rules.recruit_price ≤ at.unit.holding.money
  -- the region has at least as many peasants as recruits join the unit
  pub enough : e.1 ≤ at.region.peasants
  pub early : IsEarly w c
  -- the books have room for 999,999,999 money paid for recruits
  pub room : HaveRoom (recruit_moves holding_limit) c

-- The unit of a pair (unit, share) can be paid for its work places: it is there, and it and the books have room. The
-- campaign is steady.
pub record CanWork (w : WorldValue) (c : CampaignValue) (e : ℕ × ℕ) : Type 0 where
  pub unit : Unit
  pub there : get c.units e.0 ≡ Some unit
  -- the unit has at most 999,999,999 money with the wages of its work places added
  pub fits : unit.holding.money + wages_for w unit.region e.1 ≤ holding_limit
  pub steady : IsSteady w c
  -- the books have room for 999,999,999 money of wages
  pub room : HaveRoom (work_moves holding_limit) c
