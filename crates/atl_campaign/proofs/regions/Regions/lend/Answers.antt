use Rattle.std.proofs.Common.{sym}
use Rattle.atl_campaign.proofs.MarkedRegionLaws.{AreRegions-over}
use Rattle.atl_campaign.proofs.regions.Regions.lend.Goals as goal

pub invariant_of-self-lent : goal.invariant_of-self-lent
invariant_of-self-lent c w =
    AreRegions-over c.self.inside.values c.self.inside.rows c.self.inside.markets c.self.inside.stocks
    c.self.inside.items c.self.invariant c.args.number c.in-Some.region.now w (sym c.in-Some.ensures.value)
