use Rattle.atl_campaign.proofs.MarkedRegionLaws.{AreRegions-without_marks}
use Rattle.atl_campaign.proofs.regions.Regions.unmark.Goals as goal

pub invariant_of-self : goal.invariant_of-self
invariant_of-self c =
    rw (c.clear.ensures, c.clear-2.ensures, c.clear-3.ensures, c.clear-4.ensures)
    (AreRegions-without_marks c.self.inside.values c.self.inside.rows c.self.inside.markets c.self.inside.stocks c.self.inside.items c.self.invariant)
