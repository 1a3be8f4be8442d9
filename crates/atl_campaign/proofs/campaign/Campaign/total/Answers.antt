use Rattle.std.proofs.Common.{arith}
use Rattle.std.specs.FinMap.{len-entries}
use Rattle.atl_campaign.proofs.campaign.Campaign.total.Goals as goal

pub units_total-requires : goal.units_total-requires
units_total-requires c = omega (arith, len-entries c.self.inside.units.values, rw (← c.self.view_is) at c.requires)

pub regions_total-requires : goal.regions_total-requires
regions_total-requires c = omega (arith, len-entries c.self.inside.regions.values, rw (← c.self.view_is) at c.requires)

pub overflow_add-result : goal.overflow_add-result
overflow_add-result c =
    omega
    (arith, len-entries c.self.inside.units.values, len-entries c.self.inside.regions.values, rw (← c.self.view_is) at c.requires)
