use Rattle.atl_tables.proofs.OldWorldLaws.{old_has_no_markets}
use Rattle.atl_tables.proofs.reading.old_worlds_have_no_markets.Goals as goal

pub returns : goal.returns
returns c = old_has_no_markets
