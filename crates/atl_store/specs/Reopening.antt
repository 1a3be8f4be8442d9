-- What a database holds when it is opened again after a crash. `g` is the kind of store, in memory or in files,
-- `state g conn` the state of the database under a connection, and `text` a world text.
use Rattle.std.specs.Prelude.{List, ℕ}
use Rattle.sqlite_trees.specs.declared.store.Store.{Ghosts}
use Rattle.sqlite.specs.Held.{Held, state}
use Rattle.sqlite.specs.State.{HasCleanDisk}
use Rattle.atl_campaign.specs.Campaign.{CampaignValue}
use Rattle.atl_keeping.specs.Keeps.{Keeps, Stores}

-- The connection `new` is `old` opened again after a crash. If the disk is clean now, it was clean before, and the
-- tables are some that a crash could leave of `old`. If they then store a campaign (`Stores`), the new connection keeps
-- it.
pub record Reopens {S : Type 0} (g : Ghosts S) (old new : Held S) : Type 0 where
  -- a disk that is clean now was clean before
  pub clean : HasCleanDisk (state g new) → HasCleanDisk (state g old)
  -- if the disk is clean, the tables that are found are some that a crash could leave of `old`
  pub found : HasCleanDisk (state g new) → (state g old).may_leave (state g new).now.trees
  -- if the disk is clean, and the tables that are found store a campaign, the new connection keeps it
  pub keeps : HasCleanDisk (state g new) → (text : List ℕ) (c : CampaignValue) → Stores (state g new).now.trees text c
      → Keeps (state g new) text c
