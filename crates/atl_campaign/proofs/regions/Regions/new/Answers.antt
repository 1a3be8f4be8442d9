use Rattle.atl_campaign.proofs.MarkedRegionLaws.{AreRegions-none}
use Rattle.atl_campaign.proofs.regions.Regions.new.Goals as goal

pub invariant_of-result : goal.invariant_of-result
invariant_of-result c =
    rw (c.new.ensures, c.new-2.ensures, c.new-3.ensures, c.new-4.ensures, c.new-5.ensures) AreRegions-none
