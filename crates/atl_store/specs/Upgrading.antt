-- What `upgrade` returns and leaves. See docs/RULES.md, "Upgrading", and docs/FORMATS.md, "Upgrading a file".
-- `old` is the connection, or its state, before `upgrade`, and `new` after it; `text` is the new world text. `g` is the
-- kind of store, in memory or in files.
use Rattle.std.specs.Prelude.{◌≡◌, ◌≢◌, ◌⊎◌, ℕ, Bool, List, false, true, Ok, Err}
use Rattle.sqlite_trees.specs.Tree.{Trees}
use Rattle.sqlite_trees.specs.declared.store.Store.{Ghosts}
use Rattle.sqlite.specs.Held.{Held, state}
use Rattle.sqlite.specs.State.{State, HasCleanDisk}
use Rattle.sqlite.specs.declared.error.Error.{Error}
use Rattle.atl_tables.specs.World.{world_of, old_world_of}
use Rattle.atl_world.specs.Worlds.{WorldValue, without_markets}
use Rattle.atl_tables.specs.declared.fault.WorldFault.TheVariants as world
use Rattle.atl_world.specs.declared.format.Format.TheVariants.{First}
use Rattle.atl_campaign.specs.Campaign.{CampaignValue, MarkedCampaign}
use Rattle.atl_campaign.specs.Good.{HasNoStocks, IsGood}
use Rattle.atl_campaign.specs.Marks.{no_marks}
use Rattle.atl_store.specs.declared.fault.LoadFault.TheVariants as load
use Rattle.atl_store.specs.declared.fault.UpgradeFault.{UpgradeFault}
use Rattle.atl_store.specs.declared.fault.UpgradeFault.TheVariants.{Store, Damaged, NotACampaign, NotOld, World, Differs, Memory}
use Rattle.atl_sql.specs.Causes.{Gives}
use Rattle.atl_sql.specs.Errors.{is_memory}
use Rattle.atl_keeping.specs.Keeps.{HoldsCampaign, Stores, ChangesNothing}
use Rattle.atl_store.specs.Loading.{LeavesAlone, LoadsIn, RefusesToLoadIn}
use Rattle.atl_writing.specs.OwnStatements.{OfUpgrade}
use Rattle.atl_writing.specs.Rows.{HoldsIn}
use Rattle.atl_descriptions.specs.Tables.{HasTablesOf, IsFirstFormatOnly}

-- the tables hold this campaign, which is good, in the first format, with a text of this world
pub record HoldsOld (s : State) (w : WorldValue) (c : CampaignValue) : Type 0 where
  -- the world text of the tables
  pub text : List ℕ
  pub world : old_world_of text ≡ Ok w
  -- the tables of the first format hold exactly the rows of the text and the campaign
  pub rows : HoldsIn First s.now.trees text c
  pub good : IsGood w c

-- The new text is of the world `w`, and the tables hold the campaign in the first format.
-- The text that the tables hold is of `w` without markets (`HoldsOld`).
pub record MatchesNewText (s : State) (text : List ℕ) (w : WorldValue) (c : CampaignValue) : Type 0 where
  -- the new text reads as the world `w`
  pub world : world_of text ≡ Ok w
  -- the tables hold the campaign in the first format, with a text of `w` without markets
  pub held : HoldsOld s (without_markets w) c

-- a crash leaves what it could have left before, or the campaign that the tables held in the first format, now in the
-- second and with the new text, if this matches (`MatchesNewText`)
abbrev pub MayUpgrade : State → List ℕ → State → Type 0
MayUpgrade old text new =
    (db : Trees) → new.may_leave db
    → old.may_leave db ⊎ ((w : WorldValue) × (c : CampaignValue) × MatchesNewText old text w c × Stores db text c)

module _ {S : Type 0} (g : Ghosts S) (text : List ℕ) (old new : Held S) where
  -- If the disk is clean, Ok of `upgrade` says: the connection keeps the first format's campaign, with the new text.
  -- The connection is in no transaction; the campaign is good, nothing is in stock, and nothing is marked.
  pub record Upgrades (w : WorldValue) (c : MarkedCampaign) : Type 0 where
    -- the new text reads as the world `w`
    pub world : world_of text ≡ Ok w
    -- if the disk is clean, the tables held the campaign in the first format, with a text of `w` without markets
    pub held_before : HasCleanDisk (state g new) → HoldsOld (state g old) (without_markets w) c.value
    pub bare : HasNoStocks c.value
    -- the connection keeps the campaign, with the new text
    pub tables : HoldsCampaign g new text c.value
    pub good : IsGood w c.value
    pub unmarked : c.marks ≡ no_marks
    pub idle : new.in_transaction ≡ false

  -- The upgrade broke off: its reads changed nothing, and then a statement of its transaction, or the commit, failed.
  -- `memory` says whether the error is lack of memory.
  pub record BreaksOffUpgrade (memory : Bool) : Type 0 where
    -- the world of the new text
    pub world : WorldValue
    -- the campaign that the tables hold
    pub campaign : CampaignValue
    -- the campaign that the tables hold matches the new text
    pub matches : MatchesNewText (state g old) text world campaign
    -- the connection after the reads, before the transaction
    pub before : Held S
    -- the reads changed nothing
    pub alone : LeavesAlone g old before
    -- the error that ended the transaction
    pub error : Error
    -- the error is lack of memory exactly if `memory` is true
    pub memory_is : is_memory error ≡ memory
    -- a statement of the upgrade, or its commit, gave the error
    pub given : Gives g (OfUpgrade text campaign) error before new

  -- the campaign matches the new text (`MatchesNewText`), but the schema has more than what the first format has
  pub record HasMoreTables : Type 0 where
    -- the world of the new text
    pub world : WorldValue
    -- the campaign that the tables hold
    pub campaign : CampaignValue
    -- the campaign that the tables hold matches the new text
    pub matches : MatchesNewText (state g old) text world campaign
    -- the schema begins with the tables of the first format
    pub begins : HasTablesOf First old.schema
    pub more : ¬ IsFirstFormatOnly old.schema

  -- the tables hold a good campaign in the first format
  abbrev pub HasOld : Type 0
  HasOld = (w : WorldValue) × (c : CampaignValue) × HoldsOld (state g old) w c

  -- the new text is of a world that differs from that of the campaign in more than its markets
  pub record HasOtherWorld : Type 0 where
    -- the world of the new text
    pub world : WorldValue
    -- the world of the text that the tables hold
    pub before : WorldValue
    -- the campaign that the tables hold
    pub campaign : CampaignValue
    -- the tables hold the campaign in the first format, with a text of the world `before`
    pub held : HoldsOld (state g old) before campaign
    -- the new text reads as `world`
    pub reads_as : world_of text ≡ Ok world
    -- `world` without markets is not the world `before`
    pub differs : without_markets world ≢ before

  -- When a check before the transaction may return each fault. Loading in the first format gives NotACampaign, NotOld,
  -- Damaged, Store and Memory.
  -- Once a campaign is loaded, the new text gives World if it is no world, and Memory if memory ran out.
  -- The next faults are Differs (`HasOtherWorld`), and Store for more tables or indexes than those of the first format.
  abbrev pub FailsCheck : UpgradeFault → Type 0
  FailsCheck NotACampaign = RefusesToLoadIn First g old load.NotACampaign
  FailsCheck NotOld = RefusesToLoadIn First g old load.OtherFormat
  FailsCheck (Damaged rule) = RefusesToLoadIn First g old (load.Damaged rule)
  FailsCheck (World fault) = HasOld × (world_of text ≡ Err fault) × (fault ≢ world.Memory)
  FailsCheck Differs = HasOtherWorld
  FailsCheck Store = RefusesToLoadIn First g old load.Store ⊎ HasMoreTables
  FailsCheck Memory = RefusesToLoadIn First g old load.Memory ⊎ HasOld

  -- the transaction broke off with this fault, which is Store or Memory
  abbrev pub FailsInTransaction : UpgradeFault → Type 0
  FailsInTransaction Store = BreaksOffUpgrade false
  FailsInTransaction Memory = BreaksOffUpgrade true
  FailsInTransaction fault = ⊥

  -- Why an upgrade is refused with this fault, and what it leaves, if the disk is clean. A check failed and nothing is
  -- changed, or the transaction broke off. While the connection is open its tables are as they were. A crash leaves
  -- what it could have left before, or the upgraded campaign.
  pub record RefusesToUpgrade (fault : UpgradeFault) : Type 0 where
    -- if the disk is clean, a check failed and nothing is changed, or the transaction broke off with this fault
    pub cause : HasCleanDisk (state g new) → (FailsCheck fault × LeavesAlone g old new) ⊎ FailsInTransaction fault
    -- if the disk is clean, nothing is changed: while the connection is open the tables are as they were
    pub unchanged : HasCleanDisk (state g new) → ChangesNothing (state g old) (state g new)
    -- if the disk is clean, a crash leaves what it could have left before, or the upgraded campaign
    pub crash : HasCleanDisk (state g new) → MayUpgrade (state g old) text (state g new)

-- ---- For proofs and for private functions.

-- The campaign is loaded in the first format, which leads from `old` to `mid`. `w` is the world of the new text, and it
-- differs from that of the campaign in markets alone.
pub record IsReadyToUpgrade {S : Type 0} (g : Ghosts S) (text : List ℕ) (old mid : Held S)
    (w : WorldValue) (c : MarkedCampaign) : Type 0 where
  pub world : world_of text ≡ Ok w
  -- the world with which the campaign is loaded
  pub before : WorldValue
  pub loads : LoadsIn First g old mid before c
  pub same : without_markets w ≡ without_markets before
