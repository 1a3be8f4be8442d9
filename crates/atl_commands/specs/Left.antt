-- What a command that ended in a fault leaves in the tables: the campaign before it, and after a crash a good campaign.
use Rattle.std.specs.Prelude.{◌⊎◌, ℕ, List}
use Rattle.sqlite_trees.specs.Tree.{Trees}
use Rattle.sqlite.specs.State.{State}
use Rattle.atl_world.specs.Worlds.{WorldValue}
use Rattle.atl_campaign.specs.Campaign.{CampaignValue}
use Rattle.atl_campaign.specs.Good.{IsGood}
use Rattle.atl_keeping.specs.Keeps.{LeavesAfterFault, Stores}

-- After a fault the tables, while the connection is open, hold the campaign `before`, which is good. The connection is
-- shut only if the disk failed again. A crash leaves this campaign or the campaign `after`, and leaves `after` only if
-- that is good too. `s` is the connection's state after the command, `text` the world text in the tables, and `faults`
-- the number of the disk's failures before the command.
pub record LeavesGood (w : WorldValue) (faults : ℕ) (s : State) (text : List ℕ) (before after : CampaignValue) : Type 0 where
  -- while the connection is open, its tables hold `before`; only a new failure of the disk shuts it
  pub tables : LeavesAfterFault faults s text before after
  pub good : IsGood w before
  -- a crash leaves a file that stores the campaign `before`, or the campaign `after`, which then is good
  pub crash : (db : Trees) → s.may_leave db → Stores db text before ⊎ (Stores db text after × IsGood w after)
