use Rattle.atl_campaign.proofs.UnitLaws.{AreUnits-none}
use Rattle.atl_campaign.proofs.units.Units.new.Goals as goal

pub invariant_of-result : goal.invariant_of-result
invariant_of-result c =
    rw (c.new.ensures, c.new-2.ensures, c.new-3.ensures, c.new-4.ensures, c.new-5.ensures, c.new-6.ensures)
    AreUnits-none
