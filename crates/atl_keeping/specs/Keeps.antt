-- What a connection satisfies between two calls (`Keeps`), and how it may differ later, after a fault and after
-- `create`. `old` is a connection, or its state, before a call, and `new` after it. `g` is the kind of store, in memory
-- or in files, `state g conn` the state of the database under a connection, and `text` a world text.
use Rattle.std.specs.Prelude.{◌≡◌, ◌⊎◌, ◌≤◌, false, IsTrue, List, ℕ}
use Rattle.sqlite_trees.specs.Tree.{Trees}
use Rattle.sqlite_trees.specs.declared.store.Store.{Ghosts}
use Rattle.sqlite.specs.Held.{Held, state}
use Rattle.sqlite.specs.Schema.{Schema}
use Rattle.sqlite.specs.State.{State, HasCleanDisk}
use Rattle.sqlite_disk.specs.Disk.{MoreFaults}
use Rattle.atl_world.specs.Worlds.{WorldValue}
use Rattle.atl_campaign.specs.Campaign.{CampaignValue, with_report}
use Rattle.atl_campaign.specs.Joining.{after_join}
use Rattle.atl_campaign.specs.Good.{IsGood}
use Rattle.atl_descriptions.specs.Tables.{HasAll, IsSoundDatabase}
use Rattle.atl_sql.specs.Inside.{HasTables, Carries, IsBlank}
use Rattle.atl_sql.specs.Making.{has_campaign}
use Rattle.atl_writing.specs.Rows.{Holds}
use Rattle.atl_keeping.specs.Faults.{create_fault}
use Rattle.atl_sql.specs.Causes.{IsFaultOfError}
use Rattle.atl_writing.specs.OwnStatements.{OfFounding}
use Rattle.atl_keeping.specs.declared.fault.CreateFault.{CreateFault}
use Rattle.atl_keeping.specs.declared.fault.CreateFault.TheVariants.{NotEmpty, Store, Memory}

-- What a file holds: a campaign's tables, listed in its catalog, with exactly the rows of the text and the campaign.
pub record Stores (db : Trees) (text : List ℕ) (c : CampaignValue) : Type 0 where
  -- the schema that the file's catalog lists
  pub schema : Schema
  -- the schema has all tables of a campaign
  pub begins : HasAll schema
  -- the file's trees list the schema and obey it, and in each of the ten tables the rowids are integers, no two alike
  pub sound : IsSoundDatabase schema db
  pub rows : Holds db text c

-- The connection is open and in no transaction, and its tables hold exactly the rows of the text and the campaign.
-- All is committed, and a crash leaves just this.
pub record Keeps (s : State) (text : List ℕ) (c : CampaignValue) : Type 0 where
  pub idle : s.in_transaction ≡ false
  pub is_open : IsTrue s.is_open
  -- nothing is uncommitted
  pub settled : s.committed ≡ s.now
  -- the database has the tables of a campaign, and its trees are sound (`HasTables`)
  pub tables : HasTables s.now
  pub rows : Holds s.now.trees text c
  -- a crash leaves a file that stores just this campaign
  pub crash : (db : Trees) → s.may_leave db → Stores db text c

-- If the disk is clean so far, the connection keeps this world text and this campaign (`Keeps`).
-- A disk is clean if each read has returned what was written (docs/PROVED.md, "Premises"); of another nothing is said.
abbrev pub HoldsCampaign : {S : Type 0} → Ghosts S → Held S → List ℕ → CampaignValue → Type 0
HoldsCampaign g conn text c = HasCleanDisk (state g conn) → Keeps (state g conn) text c

-- After a fault the connection, while it is open, keeps the campaign `before`.
-- The connection is shut only if the disk failed again. A crash leaves the campaign `before` or the campaign `after`.
-- `faults` counts the failures of the disk before the call.
pub record LeavesAfterFault (faults : ℕ) (s : State) (text : List ℕ) (before after : CampaignValue) : Type 0 where
  pub still : IsTrue s.is_open → Keeps s text before
  pub shuts : IsTrue s.is_open ⊎ MoreFaults faults s.faults
  pub crash : (db : Trees) → s.may_leave db → Stores db text before ⊎ Stores db text after

-- The same connection later: a disk that is clean now was clean before, and no failure of it is forgotten.
-- A connection that compares its reads with digests of what was written (shielded) stays such a connection.
pub record IsLater (old new : State) : Type 0 where
  pub clean : HasCleanDisk new → HasCleanDisk old
  pub counts : old.faults ≤ new.faults
  pub shield : old.IsShielded → new.IsShielded

-- No table or index is gone, and tables that aren't the campaign's hold what they held.
-- The premises: the connection is open afterwards, and before it had the tables of a campaign and nothing uncommitted.
abbrev pub LeavesOthersAlone : State → State → Type 0
LeavesOthersAlone old new = IsTrue new.is_open → HasTables old.now → old.committed ≡ old.now → Carries old.now new.now

-- ---- creating

-- Nothing is changed: while the connection is open, its tables, its last commit and its transaction are as they were.
-- Only a new failure of the disk shuts it.
pub record ChangesNothing (old new : State) : Type 0 where
  pub same : IsTrue new.is_open
      → (new.now ≡ old.now) × (new.committed ≡ old.committed) × (new.in_transaction ≡ old.in_transaction)
  pub shuts : IsTrue old.is_open → IsTrue new.is_open ⊎ MoreFaults old.faults new.faults

-- a crash after the call (`new`) leaves what it could have left before it (`old`), or a file that stores this campaign
abbrev pub MayLeaveCampaign : State → List ℕ → CampaignValue → State → Type 0
MayLeaveCampaign old text c new = (db : Trees) → new.may_leave db → old.may_leave db ⊎ Stores db text c

-- With Ok of `create` there was no table `campaign`, and the connection holds the campaign, if the disk is clean.
-- The connection is in no transaction.
pub record Creates {S : Type 0} (g : Ghosts S) (text : List ℕ) (c : CampaignValue) (old new : Held S) : Type 0 where
  pub fresh : has_campaign old.schema ≡ false
  pub idle : new.in_transaction ≡ false
  pub tables : HoldsCampaign g new text c

-- What Store and Memory of `create` leave: there was no table `campaign`. On a clean disk nothing is changed while the
-- connection is open, and only a failure of the disk closes it (`ChangesNothing`).
pub record FailsToCreate {S : Type 0} (g : Ghosts S) (text : List ℕ) (c : CampaignValue) (old new : Held S) : Type 0 where
  pub fresh : has_campaign old.schema ≡ false
  pub tables : HasCleanDisk (state g new) → ChangesNothing (state g old) (state g new)
  -- a crash leaves what it could have left before, or the campaign, if the disk is clean
  pub crash : HasCleanDisk (state g new) → MayLeaveCampaign (state g old) text c (state g new)

-- the schema of the database has nothing (`IsBlank`), and the connection is in no transaction
abbrev pub IsReadyToCreate : State → Type 0
IsReadyToCreate s = IsBlank s.now × (s.in_transaction ≡ false)

-- `create` broke off: the database was ready for it, and one of its statements, or its commit, gave an error.
-- The fault is that of the error, if the disk is clean.
pub record BreaksOffCreation {S : Type 0} (g : Ghosts S) (text : List ℕ) (c : CampaignValue)
    (old new : Held S) (fault : CreateFault) : Type 0 where
  -- the database was ready for `create`
  pub ready : IsReadyToCreate (state g old)
  -- if the disk is clean, the fault is that of an error of a statement of `create`, or of its commit
  pub reports_error : HasCleanDisk (state g new) → IsFaultOfError g (OfFounding text c) create_fault old new fault

-- When `create` may return each fault: NotEmpty if there is a table `campaign`; Store if there is none, and the
-- database isn't ready. Then nothing at all is changed. Store and Memory also come if `create` broke off. On a clean
-- disk nothing is then changed while the connection is open, and a crash leaves what it could have left before, or the
-- campaign (`FailsToCreate`).
abbrev pub RefusesToCreate : {S : Type 0} → Ghosts S → List ℕ → CampaignValue → Held S → Held S → CreateFault → Type 0
RefusesToCreate g text c old new NotEmpty = IsTrue (has_campaign old.schema) × (new ≡ old)
RefusesToCreate g text c old new Store =
    FailsToCreate g text c old new
    × (((¬ IsReadyToCreate (state g old)) × (new ≡ old)) ⊎ BreaksOffCreation g text c old new Store)
RefusesToCreate g text c old new Memory = FailsToCreate g text c old new × BreaksOffCreation g text c old new Memory

-- ---- writing

-- `after` is `before`, a good campaign of some world, once the faction, which gets the next number, has joined it with
-- some name and pass text (`after_join`), and some report of it is stored. `word`, a word of the dice, picks where its
-- unit is.
abbrev pub IsJoining : CampaignValue → ℕ → CampaignValue → Type 0
IsJoining before faction after =
    (w : WorldValue) × (name : List ℕ) × (pass : List ℕ) × (word : ℕ) × (report : List ℕ)
    × IsGood w before
    × (faction ≡ before.next_faction)
    × (after ≡ with_report (after_join w name pass word before) faction report)
