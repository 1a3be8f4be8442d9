-- Laws of being no worse off (`IsNoWorse`): the same faction, region, structure, name and guard flag, no fewer men,
-- no less money, and no less of any item or of the days of any skill. It is reflexive and transitive, for a unit and
-- for all units of a campaign.
use Rattle.std.proofs.Common.{refl, ◌∙◌, arith}
use Rattle.atl_records.specs.declared.records.Unit.{Unit}
use Rattle.atl_campaign.specs.Campaign.{CampaignValue}
use Rattle.atl_phase.specs.NoWorse.{AreNoWorse, IsNoWorse}

pub no_worse : (u : Unit) → IsNoWorse u u
no_worse u =
    record { faction = refl; region = refl; structure = refl; name = refl; guard = refl; men = omega arith; money = omega arith; items = λ i. omega arith; days = λ s. omega arith }

pub no_worse_twice : (u v x : Unit) → IsNoWorse u v → IsNoWorse v x → IsNoWorse u x
no_worse_twice u v x one two = record {
  faction = two.faction ∙ one.faction;
  region = two.region ∙ one.region;
  structure = two.structure ∙ one.structure;
  name = two.name ∙ one.name;
  guard = two.guard ∙ one.guard;
  men = omega (arith, one.men, two.men);
  money = omega (arith, one.money, two.money);
  items = λ i. omega (arith, one.items i, two.items i);
  days = λ s. omega (arith, one.days s, two.days s);
}

pub are_no_worse : (c : CampaignValue) → AreNoWorse c c
are_no_worse c n u there = (u, there, no_worse u)

pub are_no_worse_twice : (a b c : CampaignValue) → AreNoWorse a b → AreNoWorse b c → AreNoWorse a c
are_no_worse_twice a b c one two n u there =
    let (v, between, first) = one n u there in
    let (x, after, second) = two n v between in
    (x, after, no_worse_twice u v x first second)
