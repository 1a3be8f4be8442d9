use Rattle.atl_shares.proofs.UpkeepSharingLaws.{can_spare}
use Rattle.atl_shares.proofs.upkeep_sharing.each_unit_can_spare.Goals as goal

pub returns : goal.returns
returns c = can_spare
