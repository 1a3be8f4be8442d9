use Rattle.std.proofs.Common.{◌≡◌, None, sym}
use Rattle.std.specs.FinMap.{get}
use Rattle.atl_lists.proofs.ListLaws.{AreUnitLists-back}
use Rattle.atl_campaign.proofs.campaign.Campaign.add_unit.Goals as goal

pub invariant_of-self-in-Ok : goal.invariant_of-self-in-Ok
invariant_of-self-in-Ok c =
    let fresh : get c.self.inside.units.values c.args.number ≡ None = rw (← c.self.view_is) at c.requires in
    rw c.in-Ok.ensures.ok record {
      unit_lists = c.in_ok-add.ensures.ok c.self.inside.units.values c.args.unit (sym c.list_keys_of-listing.ensures) fresh c.self.invariant.unit_lists;
      amounts = c.self.invariant.amounts;
    }

pub invariant_of-self-in-Err : goal.invariant_of-self-in-Err
invariant_of-self-in-Err c =
    let fresh : get c.self.inside.units.values c.args.number ≡ None = rw (← c.self.view_is) at c.requires in
    rw c.in-Err.ensures.err record {
      unit_lists = AreUnitLists-back c.self.inside.units.values c.args.number c.args.unit c.list_keys_of-listing.result _ _ _ fresh (sym c.list_keys_of-listing.ensures) c.in_ok-add.ensures.ok c.remove.ensures c.self.invariant.unit_lists;
      amounts = c.self.invariant.amounts;
    }
