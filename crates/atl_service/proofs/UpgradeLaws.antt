-- Laws on `upgrade`: if the store upgraded a file (`Upgrades`), the file is as `upgrade` promises (`UpgradesTo`), and
-- its service is consistent. `g` is the kind of store, in memory or in files, and `text` the new world text. `old` and
-- `new` are the connection before and after the upgrade, `w` is the world of the text, and `c` the upgraded campaign. A
-- disk is clean if each read has returned what was written (docs/PROVED.md, "Premises").
use Rattle.std.proofs.Common.{List, ℕ, true, Some, refl}
use Rattle.sqlite_trees.specs.declared.store.Store.{Ghosts}
use Rattle.sqlite.specs.Held.{Held, state}
use Rattle.atl_world.specs.Worlds.{WorldValue}
use Rattle.atl_campaign.specs.Campaign.{MarkedCampaign}
use Rattle.atl_keeping.specs.Keeps.{IsLater}
use Rattle.atl_store.specs.Upgrading.{Upgrades}
use Rattle.atl_keeping.proofs.WorldTextLaws.{world_text_is}
use Rattle.atl_commands.specs.Service.{IsService}
use Rattle.atl_service.specs.Upgraded.{UpgradesTo}
use Rattle.atl_service.proofs.FoundServiceLaws.{founded_consistent}

module _ {S : Type 0} (g : Ghosts S) (text : List ℕ) (old new : Held S) (w : WorldValue) (c : MarkedCampaign) (upgrades : Upgrades g text old new w c) where
  -- If `new` is later than `old` (`IsLater`), the service is open as promised (`UpgradesTo`), with the new text's world
  -- and the upgraded campaign. On a clean disk the tables hold this campaign.
  pub upgrades_to : IsLater (state g old) (state g new)
      → UpgradesTo g old text (record { conn = new; world = w; campaign = Some c.value })
  upgrades_to later =
      record { campaign = c; is_open = refl; upgrades = upgrades; text_is = λ clean. world_text_is (state g new) text c.value (upgrades.tables clean); later = later }

  -- the service of an upgraded file is consistent, as an open one, and nothing of its campaign is marked (`IsService`)
  pub upgraded_consistent : IsService g new w c true
  upgraded_consistent =
      record { consistent = founded_consistent g new w c.value text upgrades.idle upgrades.good upgrades.world upgrades.tables; unmarked = λ up. upgrades.unmarked }
