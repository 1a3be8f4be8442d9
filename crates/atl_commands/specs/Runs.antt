-- What `run` and `run_all` return and leave: answers, campaign and tables of one command, and of a list. `Headline` is
-- the main theorem. `old` and `new` are the service before and after the command or the list. `g` is the kind of store,
-- in memory or in files, and `state g conn` the state of the database under a connection. A disk is clean if each read
-- has returned what was written (docs/PROVED.md, "Premises"). `c` is the campaign before the command or the list, and
-- `cs` and `rs` are the commands and answers after the first.
use Rattle.std.specs.Prelude.{◌≡◌, ◌≢◌, ◌⊎◌, ◌<◌, ◌+◌, ◌∷◌, ◌++◌, [], ℕ, List, map, take, drop, length, slice_get, Option, Some, None, ⊤}
use Rattle.sqlite_trees.specs.declared.store.Store.{Ghosts}
use Rattle.sqlite.specs.Held.{state}
use Rattle.sqlite.specs.State.{HasCleanDisk}
use Rattle.atl_world.specs.Worlds.{WorldValue}
use Rattle.atl_campaign.specs.Campaign.{CampaignValue}
use Rattle.atl_keeping.specs.Keeps.{HoldsCampaign, IsLater}
use Rattle.atl_commands.specs.declared.command.Command.{Command}
use Rattle.atl_commands.specs.declared.command.Answer.{Answer}
use Rattle.atl_commands.specs.declared.command.Answer.TheVariants.{Joined, Mailed, MonthDone, Text, Refused, Fault}
use Rattle.atl_commands.specs.declared.command.Answer.TheVariants as Answers
use Rattle.atl_commands.specs.declared.command.Fault.{Fault as Failure}
use Rattle.atl_commands.specs.declared.command.Fault.TheVariants.{Memory, Store, Closed}
use Rattle.atl_commands.specs.Causes.{OfCommand, HasCause, IsFault}
use Rattle.atl_commands.specs.Left.{LeavesGood}
use Rattle.atl_commands.specs.Step.{step, run_of}
use Rattle.atl_commands.specs.Service.{ServiceValue, text_in}

-- A command was carried out: campaign and answer are those of `step`, and, if the disk is clean, the tables hold the
-- new campaign.
pub record Accepts {S : Type 0} (g : Ghosts S) (c : CampaignValue) (old : ServiceValue S)
    (command : Command) (answer : Answer) (new : ServiceValue S) : Type 0 where
  pub after : CampaignValue
  -- the campaign after the command and the answer are those of `step`
  pub step : step old.world c command ≡ (after, answer)
  -- the service has the campaign after the command; its world is as before
  pub same : new ≡ record old { conn = new.conn; campaign = Some after }
  -- if the disk is clean, the tables hold the campaign after the command, with the world text that they had before
  pub tables : HoldsCampaign g new.conn (text_in g old.conn) after

-- A command was refused as `step` refuses it, and nothing is changed.
abbrev pub Refuses : {S : Type 0} → CampaignValue → ServiceValue S → Command → Answer → ServiceValue S → Type 0
Refuses c old command answer new = (step old.world c command ≡ (c, answer)) × (new ≡ old)

-- A fault closed the service. If the disk is clean, the tables hold the campaign before the command while the
-- connection is open. A crash leaves that campaign or the one after `step`, and the one that it leaves is good.
pub record Closes {S : Type 0} (g : Ghosts S) (c : CampaignValue) (old : ServiceValue S)
    (command : Command) (new : ServiceValue S) : Type 0 where
  -- the service is closed, so has no campaign; its world is as before
  pub same : new ≡ record old { conn = new.conn; campaign = None }
  -- If the disk is clean, the tables hold the campaign before the command while the connection is open. On a clean
  -- disk, a crash leaves that campaign or the one after `step`; the one that it leaves is good (`LeavesGood`).
  pub tables : HasCleanDisk (state g new.conn)
      → LeavesGood old.world (state g old.conn).faults (state g new.conn) (text_in g old.conn)
      c (step old.world c command).0

-- What one command may answer in a service that is open with campaign `c`, and what each answer leaves of the service.
-- Joined, Mailed, MonthDone and Text carry the command out (`Accepts`). Text, which is a report, and Refused change
-- nothing. Memory and Store close the service (`Closes`) and have their cause (`HasCause`). Closed never comes.
abbrev pub RunsOpen : {S : Type 0} → Ghosts S → CampaignValue → ServiceValue S → Command → Answer → ServiceValue S → Type 0
RunsOpen g c old command (Joined faction unit) new = Accepts g c old command (Joined faction unit) new
RunsOpen g c old command (Mailed orders faults) new = Accepts g c old command (Mailed orders faults) new
RunsOpen g c old command (MonthDone month) new = Accepts g c old command (MonthDone month) new
RunsOpen g c old command (Text report) new = Accepts g c old command (Text report) new × (new ≡ old)
RunsOpen g c old command (Refused why) new = Refuses c old command (Refused why) new
RunsOpen g c old command (Fault Memory) new =
    Closes g c old command new × HasCause g (OfCommand old.world c command) old.conn new.conn Memory
RunsOpen g c old command (Fault Store) new =
    Closes g c old command new × HasCause g (OfCommand old.world c command) old.conn new.conn Store
RunsOpen g c old command (Fault Closed) new = ⊥

-- What one command may answer and leave: an open service carries the command out, refuses it, or closes with a fault
-- (`RunsOpen`). A closed service answers Closed, and nothing changes. The last parameter is the campaign of `old`,
-- which is None if the service is closed.
abbrev pub RunsAt : {S : Type 0} → Ghosts S → ServiceValue S → Command → Answer → ServiceValue S → Option CampaignValue → Type 0
RunsAt g old command answer new (Some c) = RunsOpen g c old command answer new
RunsAt g old command answer new None = (answer ≡ Fault Closed) × (new ≡ old)

-- Running the command from service `old`, open or closed, may give this answer and leave service `new` (`RunsAt`).
abbrev pub Runs : {S : Type 0} → Ghosts S → ServiceValue S → Command → Answer → ServiceValue S → Type 0
Runs g old command answer new = RunsAt g old command answer new old.campaign

-- ---- lists of commands

-- There is one answer for each command. Each command was run by itself, in the service that the one before it left (the
-- first one in `old`), and gave its answer (`Runs`); no failure of the disk was forgotten (`IsLater`). The last one
-- left `new`; without commands it is `old`.
abbrev pub RunOneByOne : {S : Type 0} → Ghosts S → ServiceValue S → List Command → List Answer → ServiceValue S → Type 0
RunOneByOne g old [] [] new = new ≡ old
RunOneByOne {S} g old (command ∷ cs) (answer ∷ rs) new =
    (next : ServiceValue S)
    × Runs g old command answer next
    × IsLater (state g old.conn) (state g next.conn)
    × RunOneByOne g next cs rs new
RunOneByOne g old [] (answer ∷ rs) new = ⊥
RunOneByOne g old (command ∷ cs) [] new = ⊥

-- There is one answer for each command, and each is Closed.
abbrev pub AreClosed : List Command → List Answer → Type 0
AreClosed [] [] = ⊤
AreClosed (c ∷ cs) (a ∷ rs) = (a ≡ Fault Closed) × AreClosed cs rs
AreClosed [] (a ∷ rs) = ⊥
AreClosed (c ∷ cs) [] = ⊥

-- From campaign `c` on, the answers are those of `step` up to the first fault, and Closed after it. Without a fault the
-- service ends with the last campaign, which on a clean disk the tables hold. After a fault the service is closed, and
-- the fault, Memory or Store, has its cause (`IsFault`). On a clean disk the tables then stay at the campaign of the
-- commands before the fault, while the connection is open; a crash leaves it or the next one (`LeavesGood`). `text` is
-- the world text in the tables, and `faults` is how often the disk had failed before the list.
abbrev pub Follows : {S : Type 0} → Ghosts S → List ℕ → ℕ → WorldValue → CampaignValue → List Command → List Answer
    → ServiceValue S → Type 0
Follows g text faults w c [] [] new = (new.campaign ≡ Some c) × HoldsCampaign g new.conn text c
Follows g text faults w c (command ∷ cs) (Joined faction unit ∷ rs) new =
    ((step w c command).1 ≡ Joined faction unit) × Follows g text faults w (step w c command).0 cs rs new
Follows g text faults w c (command ∷ cs) (Mailed orders faulty ∷ rs) new =
    ((step w c command).1 ≡ Mailed orders faulty) × Follows g text faults w (step w c command).0 cs rs new
Follows g text faults w c (command ∷ cs) (MonthDone month ∷ rs) new =
    ((step w c command).1 ≡ MonthDone month) × Follows g text faults w (step w c command).0 cs rs new
Follows g text faults w c (command ∷ cs) (Text report ∷ rs) new =
    ((step w c command).1 ≡ Text report) × Follows g text faults w (step w c command).0 cs rs new
Follows g text faults w c (command ∷ cs) (Refused why ∷ rs) new =
    ((step w c command).1 ≡ Refused why) × Follows g text faults w (step w c command).0 cs rs new
Follows g text faults w c (command ∷ cs) (Fault fault ∷ rs) new =
    (fault ≢ Closed)
    × AreClosed cs rs
    × (new.campaign ≡ None)
    × (HasCleanDisk (state g new.conn) → LeavesGood w faults (state g new.conn) text c (step w c command).0)
    × IsFault g text faults w c command fault new.conn
Follows g text faults w c [] (a ∷ rs) new = ⊥
Follows g text faults w c (command ∷ cs) [] new = ⊥

-- What a list of commands may answer and leave: an open service answers as `step` up to the first fault, and Closed
-- after it (`Follows`), and keeps its world. A closed service answers Closed each time, and nothing changes. The last
-- parameter is the campaign of `old`, which is None if the service is closed.
abbrev pub FollowsAt : {S : Type 0} → Ghosts S → ServiceValue S → List Command → List Answer → ServiceValue S
    → Option CampaignValue → Type 0
FollowsAt g old commands answers new (Some c) =
    Follows g (text_in g old.conn) (state g old.conn).faults old.world c commands answers new × (new.world ≡ old.world)
FollowsAt g old commands answers new None = AreClosed commands answers × (new ≡ old)

-- Running the list of commands from service `old` may give these answers and leave service `new`.
pub record RunsAll {S : Type 0} (g : Ghosts S) (old : ServiceValue S) (commands : List Command)
    (answers : List Answer) (new : ServiceValue S) : Type 0 where
  -- the answers are those of `step` up to the first fault, and Closed after it (`Follows`), or, if the service was
  -- closed, each answer is Closed and nothing changes
  pub follows : FollowsAt g old commands answers new old.campaign
  -- each command was run by itself, in the service that the one before it left (`RunOneByOne`)
  pub each : RunOneByOne g old commands answers new
  -- a disk that isn't clean stays so, no failure is forgotten, and reads compared with digests stay so (`IsLater`)
  pub later : IsLater (state g old.conn) (state g new.conn)

-- The main theorem, for a list of commands from campaign `c` on: answers and campaign are those of `run_of`. If the
-- disk has been clean so far, the tables hold exactly the rows of this campaign and of the world text `text`.
pub record Headline {S : Type 0} (g : Ghosts S) (text : List ℕ) (w : WorldValue) (c : CampaignValue)
    (commands : List Command) (answers : List Answer) (new : ServiceValue S) : Type 0 where
  pub answers_are : answers ≡ (run_of w c commands).1
  pub campaign_is : new.campaign ≡ Some (run_of w c commands).0
  pub tables : HoldsCampaign g new.conn text (run_of w c commands).0

-- The command at index `count` ended in a fault with its cause: the answers before it are those of `run_of`, and all
-- later ones are Closed. If the disk is clean, the tables stay at the campaign before this command, while the
-- connection is open (`LeavesGood`). The list runs from campaign `c` on; the disk had failed `faults` times before.
pub record Interrupted {S : Type 0} (g : Ghosts S) (text : List ℕ) (faults : ℕ) (w : WorldValue) (c : CampaignValue)
    (commands : List Command) (answers : List Answer) (new : ServiceValue S) : Type 0 where
  -- the number of commands before the command that failed
  pub count : ℕ
  pub command : Command
  pub at : slice_get commands count ≡ Some command
  pub within : count < length commands
  pub fault : Failure
  -- the fault isn't Closed, so the service was open until then
  pub first : fault ≢ Closed
  -- the answers are those of `run_of` up to the command that failed, then its fault, and then Closed each time
  pub answers_are :
      answers ≡ (run_of w c (take count commands)).1
      ++ Answers.Fault fault ∷ map (λ _. Answers.Fault Closed) (drop (count + 1) commands)
  -- the service is closed, so has no campaign
  pub campaign_is : new.campaign ≡ None
  -- the fault has its cause, which came after the list began, and, if the disk is clean, the tables held the campaign
  -- of the commands before it
  pub cause : IsFault g text faults w (run_of w c (take count commands)).0 command fault new.conn
  -- If the disk is clean, the tables hold the campaign of the commands before the fault, while the connection is open.
  -- On a clean disk, a crash leaves that campaign or the one after the command that failed; the one that it leaves is
  -- good (`LeavesGood`).
  pub tables : HasCleanDisk (state g new.conn)
      → LeavesGood w faults (state g new.conn) text
      (run_of w c (take count commands)).0 (run_of w c (take (count + 1) commands)).0

-- From an open service `Headline` holds, or a command ended in a fault (`Interrupted`). From a closed one every answer
-- is Closed, and nothing changes. The last parameter is the campaign of `old`, which is None if the service is closed.
abbrev pub HeadlineAt : {S : Type 0} → Ghosts S → ServiceValue S → List Command → List Answer → ServiceValue S
    → Option CampaignValue → Type 0
HeadlineAt g old commands answers new (Some c) =
    Headline g (text_in g old.conn) old.world c commands answers new
    ⊎ Interrupted g (text_in g old.conn) (state g old.conn).faults old.world c commands answers new
HeadlineAt g old commands answers new None = (answers ≡ map (λ _. Answers.Fault Closed) commands) × (new ≡ old)
