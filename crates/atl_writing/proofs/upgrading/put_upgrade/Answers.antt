use Rattle.atl_writing.specs.OwnStatements.{upgrades_tables, upgrades_head}
use Rattle.atl_writing.proofs.UpgradeLaws.{adds_markets, upgrade_done}
use Rattle.atl_sql.proofs.WriteLaws.{weaker, among_only, two_steps, stops}
use Rattle.atl_writing.proofs.upgrading.put_upgrade.Goals as goal

pub returns : goal.returns
returns g c =
    two_steps g.S.Store (upgrade_done c.args.text.now c.args.campaign.now.value)
    (weaker g.S.Store adds_markets (among_only g.S.Store _ _ upgrades_tables c.in_ok-create_market.ensures))
    (among_only g.S.Store _ _ upgrades_head c.upgrade_campaign_row.ensures)

pub returns-in_err-create_market : goal.returns-in_err-create_market
returns-in_err-create_market g c =
    stops g.S.Store (among_only g.S.Store _ _ upgrades_tables c.in_err-create_market.ensures) c.from_residual.ensures
