use Rattle.atl_campaign.proofs.MarkedRegionLaws.{AreRegions-of}
use Rattle.atl_campaign.proofs.regions.Regions.unmarked_from.Goals as goal

pub invariant_of-result : goal.invariant_of-result
invariant_of-result c =
    rw
    (c.in_ok-rows.ensures, c.in_ok-markets.ensures, c.in_ok-stocks.ensures, c.len.ensures, c.len-2.ensures, c.len-3.ensures, c.new.ensures)
    (AreRegions-of c.args.values)
