-- What `open` returns and leaves. `old` is the connection before it, `made` the service that it returns, and `new` the
-- connection after a refusal. `g` is the kind of store, in memory or in files. A disk is clean if each read has
-- returned what was written (docs/PROVED.md, "Premises"). See docs/FORMATS.md, "Opening a file".
use Rattle.std.specs.Prelude.{◌≡◌, ℕ, List, Some, Ok}
use Rattle.sqlite_trees.specs.declared.store.Store.{Ghosts}
use Rattle.sqlite.specs.Held.{Held, state}
use Rattle.sqlite.specs.State.{HasCleanDisk}
use Rattle.atl_world.specs.Worlds.{WorldValue}
use Rattle.atl_tables.specs.World.{world_of}
use Rattle.atl_campaign.specs.Good.{IsGood}
use Rattle.atl_campaign.specs.Campaign.{CampaignValue, MarkedCampaign}
use Rattle.atl_keeping.specs.Keeps.{HoldsCampaign, IsLater}
use Rattle.atl_store.specs.Loading.{Loads, RefusesToLoad, LeavesAlone}
use Rattle.atl_store.specs.declared.fault.StoreFault.{StoreFault}
use Rattle.atl_store.specs.declared.fault.StoreFault.TheVariants as load
use Rattle.atl_service.specs.declared.cause.Cause.{Cause}
use Rattle.atl_service.specs.declared.cause.Cause.TheVariants.{NotACampaign, OldFormat, Damaged, Store, Memory}
use Rattle.atl_commands.specs.Service.{ServiceValue, text_in}

-- A campaign was opened: the service has the campaign that was loaded, and it is good. If the disk is clean, the tables
-- hold this campaign and a text of the service's world, and nothing is changed.
pub record Opens {S : Type 0} (g : Ghosts S) (old : Held S) (made : ServiceValue S) : Type 0 where
  pub campaign : MarkedCampaign
  pub is_open : made.campaign ≡ Some campaign.value
  -- the loaded campaign is good and unmarked; if the disk is clean, the tables hold it and a text of the world
  -- (`Loads`)
  pub loads : Loads g old made.conn made.world campaign
  -- If the disk is clean, nothing is changed while the connection is open, and a crash leaves what it could have left
  -- before (`Survives`). The connection is in a transaction exactly if it was in one (`LeavesAlone`).
  pub alone : LeavesAlone g old made.conn
  -- a disk that isn't clean stays so, no failure is forgotten, and reads compared with digests stay so (`IsLater`)
  pub later : IsLater (state g old) (state g made.conn)

-- Opening returns the text, world and campaign that were stored. This holds if the disk is clean and the tables held a
-- world text and a good campaign of its world.
abbrev pub ComesBack : {S : Type 0} → Ghosts S → Held S → ServiceValue S → Type 0
ComesBack g old made =
    HasCleanDisk (state g made.conn) → (text : List ℕ) (w : WorldValue) (c : CampaignValue)
    → world_of text ≡ Ok w
    → IsGood w c
    → HoldsCampaign g old text c
    → (text_in g made.conn ≡ text) × (made.world ≡ w) × (made.campaign ≡ Some c)

-- the cause that `open` reports for a fault of loading, of the same name
abbrev pub cause_of_loading_fault : StoreFault → Cause
cause_of_loading_fault load.NotACampaign = NotACampaign
cause_of_loading_fault load.OldFormat = OldFormat
cause_of_loading_fault (load.Damaged rule) = Damaged rule
cause_of_loading_fault load.Store = Store
cause_of_loading_fault load.Memory = Memory

-- Opening was refused for a fault of loading. If the disk is clean, loading may give this fault, and the tables are
-- unchanged while the connection is open.
pub record RefusesOpening {S : Type 0} (g : Ghosts S) (old : Held S) (why : Cause) (new : Held S) : Type 0 where
  pub fault : StoreFault
  pub why_is : why ≡ cause_of_loading_fault fault
  pub cause : HasCleanDisk (state g new) → RefusesToLoad g old fault
  -- If the disk is clean, nothing is changed while the connection is open, and a crash leaves what it could have left
  -- before (`Survives`). The connection is in a transaction exactly if it was in one (`LeavesAlone`).
  pub alone : LeavesAlone g old new
  -- a disk that isn't clean stays so, no failure is forgotten, and reads compared with digests stay so (`IsLater`)
  pub later : IsLater (state g old) (state g new)
