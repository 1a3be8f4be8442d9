use Rattle.atl_store.proofs.AlikeLaws.{holds_one}
use Rattle.atl_store.proofs.OneWorldLaws.{holds_one_world}
use Rattle.atl_store.proofs.one_campaign.one_database_holds_one_campaign.Goals as goal

pub returns-clause-campaign : goal.returns-clause-campaign
returns-clause-campaign c = holds_one

pub returns-clause-world : goal.returns-clause-world
returns-clause-world c = holds_one_world
