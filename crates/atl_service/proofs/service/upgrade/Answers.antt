use Rattle.atl_service.proofs.UpgradeLaws.{upgrades_to, upgraded_consistent}
use Rattle.atl_service.proofs.service.upgrade.Goals as goal

pub opened-requires : goal.opened-requires
opened-requires g c =
    upgraded_consistent g.S.Store c.args.new_world.now c.args.conn c.upgrade.new.conn c.in-Ok.world c.in-Ok.campaign
    c.in-Ok.ensures.ok

pub returns-in-Ok-clause-ok : goal.returns-in-Ok-clause-ok
returns-in-Ok-clause-ok g c =
    rw c.opened.ensures
    (upgrades_to g.S.Store c.args.new_world.now c.args.conn c.upgrade.new.conn c.in-Ok.world c.in-Ok.campaign c.in-Ok.ensures.ok c.upgrade.ensures.later)
