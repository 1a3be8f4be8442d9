-- What `upgrade` returns and leaves. `old` is the connection before it, `made` the service that it returns, and `new`
-- the connection after a refusal. `g` is the kind of store, in memory or in files, and `text` the new world text. A
-- disk is clean if each read has returned what was written (docs/PROVED.md, "Premises"). See docs/RULES.md,
-- "Upgrading".
use Rattle.std.specs.Prelude.{◌≡◌, ℕ, List, Some}
use Rattle.sqlite_trees.specs.declared.store.Store.{Ghosts}
use Rattle.sqlite.specs.Held.{Held, state}
use Rattle.sqlite.specs.State.{HasCleanDisk}
use Rattle.atl_campaign.specs.Campaign.{MarkedCampaign}
use Rattle.atl_keeping.specs.Keeps.{IsLater}
use Rattle.atl_store.specs.Upgrading.{Upgrades, RefusesToUpgrade}
use Rattle.atl_store.specs.declared.fault.UpgradeFault.{UpgradeFault}
use Rattle.atl_store.specs.declared.fault.UpgradeFault.TheVariants as upgrade
use Rattle.atl_service.specs.declared.cause.Cause.{Cause}
use Rattle.atl_service.specs.declared.cause.Cause.TheVariants.{World, NotACampaign, NotOld, Damaged, Differs, Store, Memory}
use Rattle.atl_commands.specs.Service.{ServiceValue, text_in}

-- A file was upgraded: the service is open with the new text's world and a good campaign with empty stocks. On a clean
-- disk it is the campaign that the tables held in the first format, and they now hold it with the new text. A disk that
-- isn't clean stays so, no failure of it is forgotten, and reads that are compared with digests stay so (`IsLater`).
pub record UpgradesTo {S : Type 0} (g : Ghosts S) (old : Held S) (text : List ℕ) (made : ServiceValue S) : Type 0 where
  pub campaign : MarkedCampaign
  pub is_open : made.campaign ≡ Some campaign.value
  -- the new text reads as the service's world, the connection is in no transaction, and the campaign is unmarked; if
  -- the disk is clean, the tables held the upgraded campaign and still do (`Upgrades`)
  pub upgrades : Upgrades g text old made.conn made.world campaign
  pub text_is : HasCleanDisk (state g made.conn) → text_in g made.conn ≡ text
  pub later : IsLater (state g old) (state g made.conn)

-- the cause that `upgrade` reports for a fault of the store's upgrade, of the same name
abbrev pub cause_of_upgrade_fault : UpgradeFault → Cause
cause_of_upgrade_fault upgrade.NotACampaign = NotACampaign
cause_of_upgrade_fault upgrade.NotOld = NotOld
cause_of_upgrade_fault (upgrade.Damaged rule) = Damaged rule
cause_of_upgrade_fault (upgrade.World fault) = World fault
cause_of_upgrade_fault upgrade.Differs = Differs
cause_of_upgrade_fault upgrade.Store = Store
cause_of_upgrade_fault upgrade.Memory = Memory

-- An upgrade was refused with the store's fault. If the disk is clean, the tables are as before while the connection is
-- open; a crash leaves what it could have left before, or the upgraded campaign.
pub record RefusesUpgrade {S : Type 0} (g : Ghosts S) (old : Held S) (text : List ℕ) (why : Cause) (new : Held S) : Type 0 where
  pub fault : UpgradeFault
  pub why_is : why ≡ cause_of_upgrade_fault fault
  -- If the disk is clean, a check or the transaction failed with this fault (`RefusesToUpgrade`), and the tables are as
  -- before while the connection is open. A crash then leaves what it could have left before, or the upgraded campaign.
  pub refused : RefusesToUpgrade g text old new fault
  -- a disk that isn't clean stays so, no failure is forgotten, and reads compared with digests stay so (`IsLater`)
  pub later : IsLater (state g old) (state g new)
