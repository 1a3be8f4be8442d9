-- What answering one command does to campaign and tables while the service is open: from campaign `before` and
-- connection `old` to `after` and `new`. `g` is the kind of store, in memory or in files. A disk is clean if each read
-- has returned what was written (docs/PROVED.md, "Premises").
use Rattle.std.specs.Prelude.{◌≡◌, ℕ, List, false, ⊤, Result, IfOk, IfErr, OnOk, OnErr}
use Rattle.sqlite_trees.specs.declared.store.Store.{Ghosts}
use Rattle.sqlite.specs.Held.{Held, state}
use Rattle.sqlite.specs.State.{HasCleanDisk}
use Rattle.atl_world.specs.Worlds.{WorldValue}
use Rattle.atl_words.specs.declared.mail_fault.MailFault.{MailFault}
use Rattle.atl_words.specs.declared.mail_fault.MailFault.TheVariants as mail
use Rattle.atl_campaign.specs.Campaign.{CampaignValue, MarkedCampaign}
use Rattle.atl_campaign.specs.Good.{IsGood}
use Rattle.atl_campaign.specs.Marks.{no_marks}
use Rattle.atl_keeping.specs.Keeps.{Keeps, IsLater, LeavesOthersAlone}
use Rattle.atl_keeping.specs.declared.fault.WriteFault.{WriteFault}
use Rattle.atl_keeping.specs.declared.fault.WriteFault.TheVariants as write
use Rattle.atl_commands.specs.declared.answering.MailError.{MailError}
use Rattle.atl_commands.specs.declared.answering.MailError.TheVariants as unkept
use Rattle.atl_commands.specs.declared.command.Command.{Command}
use Rattle.atl_commands.specs.declared.command.Answer.{Answer}
use Rattle.atl_commands.specs.declared.command.Answer.TheVariants.{Joined, Mailed, MonthDone, Text, Refused, Fault}
use Rattle.atl_commands.specs.declared.command.Fault.{Fault as Failure}
use Rattle.atl_commands.specs.declared.command.Fault.TheVariants as fault
use Rattle.atl_commands.specs.declared.command.Refusal.TheVariants as why
use Rattle.atl_commands.specs.Causes.{OfCommand, HasCause}
use Rattle.atl_commands.specs.Left.{LeavesGood}
use Rattle.atl_commands.specs.Step.{step}

-- The answer is no `Fault`.
abbrev pub IsNoFault : Answer → Type 0
IsNoFault (Fault _) = ⊥
IsNoFault _ = ⊤

-- If the answer is a report (`Text`) or a refusal, which change nothing, the given statement P holds.
abbrev pub IfTextOrRefused : Answer → Type 0 → Type 0
IfTextOrRefused (Joined _ _) P = ⊤
IfTextOrRefused (Mailed _ _) P = ⊤
IfTextOrRefused (MonthDone _) P = ⊤
IfTextOrRefused (Text _) P = P
IfTextOrRefused (Refused _) P = P
IfTextOrRefused (Fault _) P = ⊤

-- A command was answered without a fault: answer and new campaign are those of `step`, and this campaign is good. If
-- the disk is clean and the tables held the old campaign, they hold the new one.
pub record Answers {S : Type 0} (g : Ghosts S) (w : WorldValue) (before : CampaignValue) (old : Held S)
    (command : Command) (after : CampaignValue) (new : Held S) (answer : Answer) : Type 0 where
  pub step_is : step w before command ≡ (after, answer)
  pub no_fault : IsNoFault answer
  -- a report or a refusal changes neither campaign nor connection
  pub same : IfTextOrRefused answer ((after ≡ before) × (new ≡ old))
  pub good : IsGood w after
  -- if the disk is clean, tables that held the campaign before hold the campaign after, with the same world text
  pub tables : HasCleanDisk (state g new) → (text : List ℕ) → Keeps (state g old) text before → Keeps (state g new) text after

-- What a command that ended in a fault leaves on a clean disk, if the tables held the campaign before it with some
-- world text: they still do, while the connection is open. A crash leaves that campaign or the one after `step`, and
-- the one that it leaves is good (`LeavesGood`).
abbrev pub CommandLeavesAfterFault : {S : Type 0} → Ghosts S → WorldValue → CampaignValue → Held S → Command → Held S → Type 0
CommandLeavesAfterFault g w before old command new =
    HasCleanDisk (state g new) → (text : List ℕ) → Keeps (state g old) text before
    → LeavesGood w (state g old).faults (state g new) text before (step w before command).0

-- After any command, answered or failed, the connection is in no transaction. A disk that isn't clean stays so, no
-- failure of it is forgotten, and reads that are compared with digests stay so (`IsLater`). If the disk is clean and
-- the connection is open, no table or index is gone, and tables that aren't the campaign's hold what they held. For
-- that the connection must have had, before the command, the tables of a campaign and nothing uncommitted.
pub record LeavesIdle {S : Type 0} (g : Ghosts S) (old new : Held S) : Type 0 where
  pub idle : new.in_transaction ≡ false
  pub later : IsLater (state g old) (state g new)
  pub others : HasCleanDisk (state g new) → LeavesOthersAlone (state g old) (state g new)

-- the service's fault for a fault of a write to the store: Memory for Memory, Store for Store
abbrev pub fault_of_write : WriteFault → Failure
fault_of_write write.Memory = fault.Memory
fault_of_write write.Store = fault.Store

-- What must hold before a command is answered: the campaign is good, and the connection is in no transaction.
pub record IsReadyToAnswer {S : Type 0} (w : WorldValue) (c : CampaignValue) (conn : Held S) : Type 0 where
  pub good : IsGood w c
  pub idle : conn.in_transaction ≡ false

-- What `answer_to` promises: a command was answered, or failed with a fault that has its cause. Either way the
-- connection is in no transaction, and an answer leaves nothing marked, if nothing was.
pub record AnswersOrFails {S : Type 0} (g : Ghosts S) (w : WorldValue) (before : MarkedCampaign) (old : Held S)
    (command : Command) (result : Result Answer WriteFault) (after : MarkedCampaign) (new : Held S) : Type 0 where
  pub ok : IfOk result (Answers g w before.value old command after.value new)
  -- after a fault, on a clean disk, tables that held the campaign before the command still do, while the connection is
  -- open (`CommandLeavesAfterFault`)
  pub err : OnErr result (CommandLeavesAfterFault g w before.value old command new)
  pub cause : IfErr result (λ fault. HasCause g (OfCommand w before.value command) old new (fault_of_write fault))
  -- the connection is in no transaction, no failure of the disk is forgotten, and other tables stay (`LeavesIdle`)
  pub leaves : LeavesIdle g old new
  -- if nothing of the campaign was marked before, nothing is after an answer
  pub unmarked : before.marks ≡ no_marks → OnOk result (after.marks ≡ no_marks)

-- Why a mailing was not stored: `step` refuses it for this reason; or memory ran out, and then nothing more is
-- required.
abbrev pub Denies : WorldValue → CampaignValue → Command → MailError → Type 0
Denies w c command (unkept.Refused why) = step w c command ≡ (c, Refused why)
Denies w c command unkept.Memory = ⊤

-- the error for a fault of reading a mailing: the refusal of the same name, or Memory
abbrev pub mail_error : MailFault → MailError
mail_error mail.TooLong = unkept.Refused why.TooLong
mail_error mail.NoHeader = unkept.Refused why.NoHeader
mail_error mail.BadHeader = unkept.Refused why.BadHeader
mail_error mail.Memory = unkept.Memory
