use Rattle.std.proofs.Common.{sym}
use Rattle.std.specs.FinMap.{insert}
use Rattle.atl_world.specs.Groups.{group_of}
use Rattle.atl_campaign.proofs.MarkedRegionLaws.{AreRegions-item, AreRegions-stocks}
use Rattle.atl_campaign.proofs.regions.Regions.mark_item.Goals as goal

pub invariant_of-self : goal.invariant_of-self
invariant_of-self c =
    rw (c.mark_present.ensures, c.in-Ok.ensures.ok)
    (AreRegions-item c.self.inside.values c.self.inside.rows c.self.inside.markets c.self.inside.stocks c.self.inside.items c.self.invariant c.args.number c.in-Some.field-0.now (sym c.in-Some.ensures)
    (insert (group_of c.self.inside.items c.args.number) c.args.item tt))

pub invariant_of-self-2 : goal.invariant_of-self-2
invariant_of-self-2 c =
    rw (c.mark_present.ensures, c.mark_present-2.ensures, c.in-Err.ensures.err)
    (AreRegions-stocks c.self.inside.values c.self.inside.rows c.self.inside.markets c.self.inside.stocks c.self.inside.items c.self.invariant c.args.number c.in-Some.field-0.now (sym c.in-Some.ensures))
