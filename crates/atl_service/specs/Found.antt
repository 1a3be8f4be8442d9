-- What `found` returns and leaves. `old` and `new` are the connection before and after it, and `made` is the service
-- that it returns. `g` is the kind of store, in memory or in files. A connection is ready if its database has no table,
-- index or view, and it is in no transaction. A disk is clean if each read has returned what was written
-- (docs/PROVED.md, "Premises"). See docs/RULES.md, "Founding".
use Rattle.std.specs.Prelude.{◌≡◌, ◌⊎◌, ℕ, List, Bool, true, false, Some, Ok, Err, ⊤}
use Rattle.sqlite_trees.specs.declared.store.Store.{Ghosts}
use Rattle.sqlite.specs.Held.{Held, state}
use Rattle.sqlite.specs.State.{HasCleanDisk}
use Rattle.atl_world.specs.Names.{pass_ok}
use Rattle.atl_world.specs.Worlds.{WorldValue}
use Rattle.atl_tables.specs.World.{world_of}
use Rattle.atl_tables.specs.declared.fault.WorldFault.{WorldFault}
use Rattle.atl_tables.specs.declared.fault.WorldFault.TheVariants as world
use Rattle.atl_campaign.specs.Campaign.{CampaignValue}
use Rattle.atl_campaign.specs.Founding.{founded_of}
use Rattle.atl_sql.specs.Making.{has_campaign}
use Rattle.atl_keeping.specs.Keeps.{HoldsCampaign, IsLater, IsReadyToCreate, ChangesNothing, MayLeaveCampaign}
use Rattle.atl_keeping.specs.declared.fault.CreateFault.{CreateFault}
use Rattle.atl_keeping.specs.declared.fault.CreateFault.TheVariants as create
use Rattle.atl_service.specs.declared.cause.Cause.{Cause}
use Rattle.atl_service.specs.declared.cause.Cause.TheVariants.{World as BadWorld, BadPassText, NotEmpty, NotACampaign, OldFormat, NotOld, Damaged, Differs, Store, Memory}
use Rattle.atl_descriptions.specs.Statements.{Statements}
use Rattle.atl_commands.specs.Causes.{OfFoundingBy, GivesOtherError, LacksMemory}
use Rattle.atl_commands.specs.Service.{ServiceValue, text_in}

-- A campaign was founded: the service is open with the text's world and the founded campaign, and, if the disk is
-- clean, its tables hold the text and this campaign. There was no table `campaign`.
pub record Founds {S : Type 0} (g : Ghosts S) (old : Held S) (text pass : List ℕ) (made : ServiceValue S) : Type 0 where
  pub fresh : has_campaign old.schema ≡ false
  -- the text reads as the service's world
  pub world : world_of text ≡ Ok made.world
  -- the pass text keeps the rule of pass texts (`pass_ok`)
  pub pass_is_good : pass_ok pass ≡ true
  pub campaign : made.campaign ≡ Some (founded_of made.world pass)
  pub tables : HoldsCampaign g made.conn text (founded_of made.world pass)
  pub text_is : HasCleanDisk (state g made.conn) → text_in g made.conn ≡ text
  -- a disk that isn't clean stays so, no failure is forgotten, and reads compared with digests stay so (`IsLater`)
  pub later : IsLater (state g old) (state g made.conn)

-- The text is a world: it parses without a fault.
abbrev pub IsWorldText : List ℕ → Type 0
IsWorldText text = (w : WorldValue) × (world_of text ≡ Ok w)

-- Founding by a world text and a pass text may fail with this cause: that of the first check that fails (the world
-- text, the pass text, no table `campaign`), Store if none fails, or Memory. `is_there` says whether there is a table
-- `campaign`. Causes of opening and upgrading never apply.
abbrev pub MayBeCause : List ℕ → List ℕ → Bool → Cause → Type 0
MayBeCause text pass is_there (BadWorld fault) = world_of text ≡ Err fault
MayBeCause text pass is_there BadPassText = IsWorldText text × (pass_ok pass ≡ false)
MayBeCause text pass is_there NotEmpty = IsWorldText text × (pass_ok pass ≡ true) × (is_there ≡ true)
MayBeCause text pass is_there NotACampaign = ⊥
MayBeCause text pass is_there OldFormat = ⊥
MayBeCause text pass is_there NotOld = ⊥
MayBeCause text pass is_there (Damaged rule) = ⊥
MayBeCause text pass is_there Differs = ⊥
MayBeCause text pass is_there Store = IsWorldText text × (pass_ok pass ≡ true) × (is_there ≡ false)
MayBeCause text pass is_there Memory = ⊤

-- What founding leaves after Store or Memory: tables as before while the connection is open; a crash leaves what it
-- left before, or the founded campaign. The facts about tables and crash need a clean disk. If the text is no world, or
-- the pass text breaks its rule (`pass_ok`), the connection is unchanged.
pub record FailsToFound {S : Type 0} (g : Ghosts S) (old : Held S) (text pass : List ℕ) (new : Held S) : Type 0 where
  -- if the disk is clean, the tables are as before while the connection is open (`ChangesNothing`)
  pub tables : HasCleanDisk (state g new) → ChangesNothing (state g old) (state g new)
  pub unfounded : (¬ IsWorldText text) ⊎ (pass_ok pass ≡ false) → new ≡ old
  -- if the disk is clean and the text is a world, a crash leaves what it could have left before, or the founded
  -- campaign (`MayLeaveCampaign`)
  pub crash : HasCleanDisk (state g new) → (w : WorldValue) → world_of text ≡ Ok w
      → MayLeaveCampaign (state g old) text (founded_of w pass) (state g new)

-- Why founding fails with Store: the connection isn't ready (`IsReadyToCreate`) and is unchanged, or it is ready and
-- the write, whose SQL statements are `own`, failed. In the second case, if the disk is clean, a call of the write gave
-- an error other than out of memory.
abbrev pub RefusesToWrite : {S : Type 0} → Ghosts S → Statements → Held S → Held S → Type 0
RefusesToWrite g own old new =
    ((¬ IsReadyToCreate (state g old)) × (new ≡ old))
    ⊎ (IsReadyToCreate (state g old) × GivesOtherError g own old new)

-- What a refused founding by a world text and a pass text leaves, by its cause. After a failed check nothing is
-- changed. After Store and Memory, if the disk is clean, the tables are as before while the connection is open, and a
-- crash leaves what it could have left before, or the founded campaign (`FailsToFound`). Store comes of a connection
-- that isn't ready, or of an error of the write (`RefusesToWrite`). With Memory the connection is unchanged, or a call
-- of the write ran out of memory (`LacksMemory`). What a call gave is known on a clean disk alone. Causes of opening
-- and upgrading never apply.
abbrev pub LeavesByCause : {S : Type 0} → Ghosts S → Held S → List ℕ → List ℕ → Held S → Cause → Type 0
LeavesByCause g old text pass new (BadWorld fault) = new ≡ old
LeavesByCause g old text pass new BadPassText = new ≡ old
LeavesByCause g old text pass new NotEmpty = new ≡ old
LeavesByCause g old text pass new NotACampaign = ⊥
LeavesByCause g old text pass new OldFormat = ⊥
LeavesByCause g old text pass new NotOld = ⊥
LeavesByCause g old text pass new (Damaged rule) = ⊥
LeavesByCause g old text pass new Differs = ⊥
LeavesByCause g old text pass new Store = FailsToFound g old text pass new × RefusesToWrite g (OfFoundingBy text pass) old new
LeavesByCause g old text pass new Memory = FailsToFound g old text pass new × LacksMemory g (OfFoundingBy text pass) old new

-- A founding was refused: its cause is the first check that fails, Store or Memory, and the connection is left as this
-- cause allows.
pub record RefusesFounding {S : Type 0} (g : Ghosts S) (old : Held S) (text pass : List ℕ)
    (why : Cause) (new : Held S) : Type 0 where
  pub cause : MayBeCause text pass (has_campaign old.schema) why
  pub leaves : LeavesByCause g old text pass new why
  -- a disk that isn't clean stays so, no failure is forgotten, and reads compared with digests stay so (`IsLater`)
  pub later : IsLater (state g old) (state g new)

-- What founding builds before it writes: `w` is the world of the text, and `c` the campaign founded in it with the pass
-- text, which keeps its rule (`pass_ok`).
pub record Prepares (text pass : List ℕ) (w : WorldValue) (c : CampaignValue) : Type 0 where
  pub world : world_of text ≡ Ok w
  pub pass_is_good : pass_ok pass ≡ true
  pub campaign : c ≡ founded_of w pass

-- ---- the cause for a fault of the world text, or of creating the tables

-- the cause for a fault of the world text: Memory for Memory, else `BadWorld` with the fault
abbrev pub cause_of_world_fault : WorldFault → Cause
cause_of_world_fault world.Memory = Memory
cause_of_world_fault fault = BadWorld fault

-- the cause for a fault of creating the tables, of the same name
abbrev pub cause_of_creation_fault : CreateFault → Cause
cause_of_creation_fault create.NotEmpty = NotEmpty
cause_of_creation_fault create.Store = Store
cause_of_creation_fault create.Memory = Memory
