use Rattle.atl_campaign.proofs.UnitLaws.{AreUnits-without_marks}
use Rattle.atl_campaign.proofs.units.Units.unmark.Goals as goal

pub invariant_of-self : goal.invariant_of-self
invariant_of-self c =
    rw (c.clear.ensures, c.clear-2.ensures, c.clear-3.ensures, c.clear-4.ensures, c.clear-5.ensures)
    (AreUnits-without_marks c.self.inside.units c.self.inside.marks c.self.inside.rows c.self.inside.goods c.self.inside.items c.self.inside.skills c.self.invariant)
