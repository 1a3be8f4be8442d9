use Rattle.atl_campaign.proofs.UnitLaws.{AreUnits-of}
use Rattle.atl_campaign.proofs.units.Units.unmarked_from.Goals as goal

pub invariant_of-result : goal.invariant_of-result
invariant_of-result c =
    rw
    (c.in_ok-marks.ensures, c.in_ok-rows.ensures, c.in_ok-goods.ensures, c.len.ensures.value, c.len-2.ensures.value, c.len-3.ensures.value, c.new.ensures, c.new-2.ensures)
    (AreUnits-of c.args.values)
