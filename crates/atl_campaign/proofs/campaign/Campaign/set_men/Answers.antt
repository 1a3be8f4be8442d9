use Rattle.std.proofs.Common.{refl}
use Rattle.atl_records.specs.declared.records.Unit.{Unit}
use Rattle.atl_lists.proofs.ListLaws.{AreUnitLists-changed}
use Rattle.atl_campaign.proofs.campaign.Campaign.set_men.Goals as goal

pub invariant_of-self : goal.invariant_of-self
invariant_of-self c =
    rw c.set_men.ensures record {
      unit_lists = AreUnitLists-changed (λ (u : Unit). record u { holding = record u.holding { men = c.args.men } }) (λ u. refl) c.self.inside.units.values c.self.inside.lists c.args.unit c.self.invariant.unit_lists;
      amounts = c.self.invariant.amounts;
    }
