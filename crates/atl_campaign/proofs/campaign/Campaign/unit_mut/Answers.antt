use Rattle.std.proofs.Common.{sym, refl}
use Rattle.atl_lists.proofs.ListLaws.{AreUnitLists-kept}
use Rattle.atl_campaign.proofs.campaign.Campaign.unit_mut.Goals as goal

pub invariant_of-self-lent : goal.invariant_of-self-lent
invariant_of-self-lent c w = record {
  unit_lists = AreUnitLists-kept c.self.inside.units.values c.self.inside.lists c.args.number c.in-Some.unit.now _ (sym c.in-Some.ensures.value) refl c.self.invariant.unit_lists;
  amounts = c.self.invariant.amounts;
}
