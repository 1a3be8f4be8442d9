-- Laws of a campaign in which one unit has more money: other units stay as they are, and nobody is worse off. Each unit
-- has the same faction, region, structure, name and guard flag, and no less men, money, items or days.
use Rattle.std.proofs.Common.{◌≡◌, ◌≢◌, ℕ, ◌+◌, Some, refl, sym, ap, subst, ◌∙◌, inl, inr, arith}
use Rattle.std.specs.FinMap.{get, insert}
use Rattle.std.proofs.lemmas.Bool.{cases_eq}
use Rattle.atl_records.specs.Holdings.{HoldingValue}
use Rattle.atl_campaign.specs.Campaign.{CampaignValue, with_money}
use Rattle.atl_records.specs.declared.records.Unit.{Unit}
use Rattle.atl_world.proofs.EveryLaws.{get-insert_other}
use Rattle.atl_campaign.proofs.RegionLaws.{changed-known, get-insert_same}
use Rattle.atl_phase.specs.NoWorse.{AreNoWorse, IsNoWorse}
use Rattle.atl_phase.proofs.NoWorseLaws.{no_worse}

-- unit `n`, which is `u`, gets `money`; `c` is the campaign before that, and `k` the number of another unit
module _ (c : CampaignValue) (n : ℕ) (u : Unit) (money : ℕ) where
  -- what unit `u` holds after it got `money`
  abbrev pub paid : HoldingValue
  paid = record u.holding { money = u.holding.money + money }

  -- unit `u` after it got `money`
  abbrev pub paid_unit : Unit
  paid_unit = record u { holding = paid }

  -- the campaign in which unit `n` is unit `u` after it got `money`
  abbrev pub richer : CampaignValue
  richer = record c { units = insert c.units n paid_unit }

  module _ (is : get c.units n ≡ Some u) where
    -- setting the money of unit `n`, which is `u`, to `money` more than it had makes the campaign `richer`
    pub richer_is : with_money c n (u.holding.money + money) ≡ richer
    richer_is =
        ap (λ m. record c { units = m })
        (changed-known (λ (v : Unit). record v { holding = record v.holding { money = u.holding.money + money } }) c.units n u is)

    pub others_stay : (k : ℕ) → k ≢ n → get richer.units k ≡ get c.units k
    others_stay k apart = get-insert_other c.units n k paid_unit apart

    paid_no_worse : IsNoWorse u paid_unit
    paid_no_worse =
        record { faction = refl; region = refl; structure = refl; name = refl; guard = refl; men = omega arith; money = omega arith; items = λ i. omega arith; days = λ s. omega arith }

    pub richer_no_worse : AreNoWorse c richer
    richer_no_worse k v there = elim (cases_eq k n) [
      | inl same ↦
          let one : Some u ≡ Some v = sym is ∙ ap (get c.units) (sym same) ∙ there in
          let unit : u ≡ v = cc in
          (paid_unit, ap (get richer.units) same ∙ get-insert_same c.units n paid_unit, subst (λ x. IsNoWorse x paid_unit) unit paid_no_worse)
      | inr apart ↦ (v, others_stay k apart ∙ there, no_worse v)
    ]
