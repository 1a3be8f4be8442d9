-- Why a command or founding ended in the fault Memory or Store: the error that a call of its write gave, or a lack of
-- memory before it. `old` and `new` are the connection before and after it, and `own` has the SQL statements of its
-- write. `g` is the kind of store, in memory or in files. A disk is clean if each read has returned what was written
-- (docs/PROVED.md, "Premises").
use Rattle.std.specs.Prelude.{◌≡◌, ◌⊎◌, ◌≤◌, ℕ, List, Bool, true, false, Ok}
use Rattle.sqlite_trees.specs.declared.store.Store.{Ghosts}
use Rattle.sqlite.specs.declared.error.Error.{Error}
use Rattle.sqlite.specs.Held.{Held, state}
use Rattle.sqlite.specs.State.{HasCleanDisk}
use Rattle.atl_world.specs.Worlds.{WorldValue}
use Rattle.atl_tables.specs.World.{world_of}
use Rattle.atl_campaign.specs.Founding.{founded_of}
use Rattle.atl_campaign.specs.Campaign.{CampaignValue}
use Rattle.atl_sql.specs.Causes.{Gives}
use Rattle.atl_sql.specs.Errors.{is_memory}
use Rattle.atl_keeping.specs.Keeps.{Keeps}
use Rattle.atl_descriptions.specs.Statements.{Statements}
use Rattle.atl_writing.specs.OwnStatements.{OfChange, OfFounding, OfJoining, OfMail}
use Rattle.atl_commands.specs.declared.command.Command.{Command}
use Rattle.atl_commands.specs.declared.command.Command.TheVariants.{Join, Mail, Close, Report}
use Rattle.atl_commands.specs.declared.command.Fault.{Fault}
use Rattle.atl_commands.specs.declared.command.Fault.TheVariants.{Memory, Store, Closed}
use Rattle.atl_commands.specs.Step.{step}

-- the set of the SQL statements that store what a command changes in campaign `c`, with the rows of the campaign after
-- the command; for a report it is empty
abbrev pub OfCommand : WorldValue → CampaignValue → Command → Statements
OfCommand w c (Join name pass word) = OfJoining c.next_faction (step w c (Join name pass word)).0
OfCommand w c (Mail faction pass text) = OfMail faction text
OfCommand w c (Close month pass words) = OfChange (step w c (Close month pass words)).0
OfCommand w c (Report faction pass) = λ sql params. ⊥

-- the set of the SQL statements that found a campaign with this world text and pass text; empty if the text is no world
abbrev pub OfFoundingBy : List ℕ → List ℕ → Statements
OfFoundingBy text pass sql params = (w : WorldValue) × (world_of text ≡ Ok w) × OfFounding text (founded_of w pass) sql params

-- A call of the transaction that runs the statements `own` gave an error; `memory` says whether the error was out of
-- memory.
pub record GivesError {S : Type 0} (g : Ghosts S) (own : Statements) (memory : Bool) (old new : Held S) : Type 0 where
  pub error : Error
  -- the error is out of memory exactly if `memory` is true
  pub memory_is : is_memory error ≡ memory
  -- a statement of `own`, or the commit, gave the error (`Gives`)
  pub given : Gives g own error old new

-- What the fault Memory means. Memory ran out before the database was asked to write: then the connection is unchanged.
-- Or else, if the disk is clean, a call of the write ran out of memory.
abbrev pub LacksMemory : {S : Type 0} → Ghosts S → Statements → Held S → Held S → Type 0
LacksMemory g own old new = (new ≡ old) ⊎ (HasCleanDisk (state g new) → GivesError g own true old new)

-- What the fault Store means: if the disk is clean, a call of the write gave an error other than out of memory.
abbrev pub GivesOtherError : {S : Type 0} → Ghosts S → Statements → Held S → Held S → Type 0
GivesOtherError g own old new = HasCleanDisk (state g new) → GivesError g own false old new

-- The fault has its cause: for Memory, the connection is unchanged, or a call of the write ran out of memory; for
-- Store, a call gave another error. What a call gave is known on a clean disk alone. Closed has no cause here: no
-- command ran.
abbrev pub HasCause : {S : Type 0} → Ghosts S → Statements → Held S → Held S → Fault → Type 0
HasCause g own old new Memory = LacksMemory g own old new
HasCause g own old new Store = GivesOtherError g own old new
HasCause g own old new Closed = ⊥

-- The fault of one command of a list has its cause, between the connection `old` before this command and `new` after
-- it. `faults` is how often the disk had failed when the list began. If the disk is clean, the tables before the
-- command held the campaign `c` and the world text `text`.
pub record IsFault {S : Type 0} (g : Ghosts S) (text : List ℕ) (faults : ℕ) (w : WorldValue) (c : CampaignValue)
    (command : Command) (fault : Fault) (new : Held S) : Type 0 where
  pub old : Held S
  -- before the command the disk had failed at least as often as before the list
  pub since : faults ≤ (state g old).faults
  -- if the disk is clean, the tables before the command held the campaign `c` and the text
  pub held : HasCleanDisk (state g new) → Keeps (state g old) text c
  -- the fault has its cause between the connection before the command and the one after it (`HasCause`)
  pub cause : HasCause g (OfCommand w c command) old new fault
