-- Laws of a unit that gets another holding (what it has) and may begin to guard: the campaign stays steady and early.
-- A unit may have a holding (MayHave) with a valid name, numbers within their limits, and only items and skills of the
-- world.
use Rattle.std.proofs.Common.{◌≡◌, ◌==◌, ℕ, ◌*◌, ◌≤◌, ◌<◌, true, length, Some, refl, ◌∙◌}
use Rattle.std.specs.Prelude.{IsTrue, nat_lt}
use Rattle.std.proofs.lemmas.Bool.{and_parts}
use Rattle.std.specs.FinMap.{get, insert}
use Rattle.atl_world.specs.Names.{name_ok}
use Rattle.atl_world.specs.Worlds.{WorldValue}
use Rattle.atl_world.proofs.SumLaws.{numbers_where-insert_known}
use Rattle.atl_records.specs.Limits.{most_days}
use Rattle.atl_records.specs.declared.records.Unit.{Unit}
use Rattle.atl_world.specs.Every.{Every}
use Rattle.atl_campaign.specs.Good.{AreOfOneFaction, IsEarly, IsSteady, guards}
use Rattle.atl_records.specs.Holdings.{HoldingValue, IsHolding}
use Rattle.atl_campaign.specs.Campaign.{CampaignValue}
use Rattle.atl_world.proofs.EveryLaws.{every-insert}
use Rattle.atl_campaign.proofs.HoldingLaws.{known_kept, next_kept, numbers_kept, of_one_faction_kept, owners_kept}

-- a holding that a unit may have: with a valid name, men, money, items and days within their limits, and only items and
-- skills of the world
pub record MayHave (w : WorldValue) (h : HoldingValue) : Type 0 where
  pub limits : IsHolding h
  pub name : IsTrue (name_ok h.name)
  pub items : Every (λ i amount. i < length w.items) h.items
  pub skills : Every (λ s days. s < length w.skills) h.days
  pub days : Every (λ s days. (1 ≤ days) × (days ≤ most_days * h.men)) h.days

-- each unit of a steady campaign may have (MayHave) the holding that it has
pub may_have : (w : WorldValue) (c : CampaignValue) (n : ℕ) (u : Unit) → get c.units n ≡ Some u → IsSteady w c
    → MayHave w u.holding
may_have w c n u is steady =
    let location = steady.known.units n u is in
    record { limits = (steady.numbers.units n u is).1; name = steady.names.units n u is; items = location.items; skills = location.skills; days = steady.days n u is }

-- unit n of the campaign c is u, and gets the holding h
module _ (w : WorldValue) (c : CampaignValue) (n : ℕ) (u : Unit) (h : HoldingValue) (is : get c.units n ≡ Some u) where
  abbrev new_unit : Unit
  new_unit = record u { holding = h }

  -- the campaign in which unit n has the holding h
  abbrev with_new_holding : CampaignValue
  with_new_holding = record c { units = insert c.units n new_unit }

  -- the campaign stays steady when unit n gets a holding that it may have, if each region's guards stay of one faction
  pub steady-having : MayHave w h → AreOfOneFaction guards with_new_holding → IsSteady w c → IsSteady w with_new_holding
  steady-having may guarded old = record {
    numbers = numbers_kept w c n u h is may.limits old.numbers;
    names = record {
      pass = old.names.pass;
      factions = old.names.factions;
      joined = old.names.joined;
      units = every-insert (λ k x. IsTrue (name_ok x.holding.name)) c.units n new_unit may.name old.names.units;
      structures = old.names.structures;
    };
    known = known_kept w c n u h is may.items may.skills old.known;
    next = next_kept w c n u h is old.next;
    days = every-insert (λ k x. Every (λ s days. (1 ≤ days) × (days ≤ most_days * x.holding.men)) x.holding.days) c.units n new_unit may.days old.days;
    gone = λ m f there gone. numbers_where-insert_known (λ x. x.faction == m) c.units n u new_unit is refl ∙ old.gone m f there gone;
    owners = owners_kept w c n u h is old.owners;
    water = record { units = every-insert _ c.units n new_unit (old.water.units n u is) old.water.units; structures = old.water.structures };
    guarded = guarded;
  }

  -- the campaign stays early when unit n gets a holding that it may have, with the guard flag set only if it was set
  pub early-having : MayHave w h → (h.guard ≡ true → u.holding.guard ≡ true) → IsEarly w c → IsEarly w with_new_holding
  early-having may flag early =
      let flags = of_one_faction_kept w c n u h is (λ x. x.holding.guard) flag early.flags in
      record { steady = steady-having may (λ k x here m y there g k2 same. flags k x here m y there (flagged x g) (flagged y k2) same) early.steady; flags = flags }
    where
      flagged : (x : Unit) → guards x ≡ true → x.holding.guard ≡ true
      flagged x g = (and_parts x.holding.guard (nat_lt 0 x.holding.men) g).0
