use Rattle.atl_campaign.proofs.MarkedRegionLaws.{AreRegions-row}
use Rattle.atl_campaign.proofs.regions.Regions.mark_row_if.Goals as goal

pub invariant_of-self : goal.invariant_of-self
invariant_of-self c =
    rw c.mark_present.ensures
    (AreRegions-row c.self.inside.values c.self.inside.rows c.self.inside.markets c.self.inside.stocks c.self.inside.items c.self.invariant c.args.number)
