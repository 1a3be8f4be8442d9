use Rattle.std.proofs.Common.{◌≡◌, Some, sym, ap}
use Rattle.std.specs.FinMap.{get}
use Rattle.atl_lists.specs.declared.lists.ListKeys.{ListKeys}
use Rattle.atl_campaign.proofs.campaign.Campaign.put.Goals as goal

pub invariant_of-self : goal.invariant_of-self
invariant_of-self c =
    record { unit_lists = c.in_err-relist.ensures.err c.self.inside.units.values c.self.invariant.unit_lists; amounts = c.self.invariant.amounts }

pub invariant_of-self-2 : goal.invariant_of-self-2
invariant_of-self-2 c =
    let u = c.in-Some.unit.now in
    let there : get c.self.inside.units.values c.args.number ≡ Some u = sym c.in-Some.ensures in
    rw (c.set_place.ensures, there) record {
      unit_lists =
          c.in_ok-relist.ensures.ok c.self.inside.units.values u
          (record u { region = c.args.region; structure = c.args.structure }) (sym c.list_keys_of-from.ensures)
          (ap (λ (l : ListKeys). record l { region = c.args.region; structure = c.args.structure }) (sym c.list_keys_of-from.ensures)) there c.self.invariant.unit_lists;
      amounts = c.self.invariant.amounts;
    }
