use Rattle.std.proofs.Common.{refl}
use Rattle.atl_records.specs.declared.records.Unit.{Unit}
use Rattle.atl_lists.proofs.ListLaws.{AreUnitLists-changed}
use Rattle.atl_campaign.proofs.campaign.Campaign.set_unit_name.Goals as goal

pub invariant_of-self : goal.invariant_of-self
invariant_of-self c =
    rw c.set_name.ensures record {
      unit_lists = AreUnitLists-changed (λ (u : Unit). record u { holding = record u.holding { name = c.args.name } }) (λ u. refl) c.self.inside.units.values c.self.inside.lists c.args.unit c.self.invariant.unit_lists;
      amounts = c.self.invariant.amounts;
    }
