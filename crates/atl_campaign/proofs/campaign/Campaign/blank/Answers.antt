use Rattle.std.proofs.Common.{arith}
use Rattle.atl_campaign.proofs.AmountMarkLaws.{none_marked}
use Rattle.atl_campaign.proofs.campaign.Campaign.blank.Goals as goal

pub invariant_of-result : goal.invariant_of-result
invariant_of-result c = rw (c.new-4.ensures, c.blank.ensures, c.new-8.ensures) record {
  unit_lists = c.new-9.ensures;
  amounts = none_marked 0 0 (omega arith);
}
