-- `Serves`: what serving one request returns, writes, and leaves of the service. See docs/FORMATS.md, "HTTP". `old` and
-- `new` are the service before and after the request, and `before` and `after` the bytes of reader and writer
-- (`IoBytes`). `dice` has the club's seed, and `g` is the kind of store, in memory or in files. A verdict is what the
-- bytes seen come to: a problem or a request, which are final, or that more are needed (`More`).
use Rattle.std.specs.Prelude.{◌≡◌, ◌+◌, ◌<◌, ◌⊎◌, ℕ, List, length, take, Option, Some, None, Result, Ok, Err}
use Rattle.std.specs.FinMap.{len}
use Rattle.std.specs.declared.alloc.AllocError.{AllocError}
use Rattle.std.specs.Io.KnownBytes.{Keeps, Appends, Consumes, IsAtEnd}
use Rattle.sqlite_trees.specs.declared.store.Store.{Ghosts}
use Rattle.atl_campaign.specs.Campaign.{CampaignValue}
use Rattle.atl_commands.specs.declared.command.Command.{Command}
use Rattle.atl_commands.specs.declared.command.Command.TheVariants as command
use Rattle.atl_commands.specs.declared.command.Answer.{Answer}
use Rattle.atl_commands.specs.Service.{ServiceValue}
use Rattle.atl_commands.specs.Runs.{Runs}
use Rattle.atl_requests.specs.declared.dice.Dice.{Dice}
use Rattle.atl_requests.specs.declared.message.Message.{Message}
use Rattle.atl_requests.specs.declared.io.HttpFault.{HttpFault}
use Rattle.atl_requests.specs.declared.io.HttpFault.TheVariants.{Cut, ReadFault, WriteFault, Memory}
use Rattle.atl_parsing.specs.declared.request.Request.{Request}
use Rattle.atl_parsing.specs.declared.request.Request.TheVariants.{Join, Orders, Close, Report}
use Rattle.atl_parsing.specs.declared.request.FinalVerdict.{FinalVerdict}
use Rattle.atl_parsing.specs.declared.request.FinalVerdict.TheVariants.{Refused, Asks}
use Rattle.atl_parsing.specs.declared.request.Verdict.TheVariants.{More}
use Rattle.atl_requests.specs.Dice.{generator, joining_streams, word_of, first_words}
use Rattle.atl_parsing.specs.Heads.{Judges, ReadsNoFurther, as_verdict}
use Rattle.atl_requests.specs.Io.{MatchesReply}
use Rattle.atl_parsing.specs.Replies.{Reply, bytes_of, problem_reply}
use Rattle.atl_http.specs.Answered.{answer_reply}

-- the number of the faction that joins next; 0 for a closed service, which takes no command
abbrev pub next_faction : Option CampaignValue → ℕ
next_faction None = 0
next_faction (Some c) = c.next_faction

-- The command that a request asks for, with words of the dice. A join has the word for the faction that joins next,
-- whose number is `next`; a close has the words of its month, one for each of the `regions` regions.
abbrev pub command_of : Dice → (next regions : ℕ) → Request → Command
command_of dice next regions (Join name pass) = command.Join name pass (word_of (generator dice.seed (joining_streams + next)))
command_of dice next regions (Orders faction pass text) = command.Mail faction pass text
command_of dice next regions (Close month pass) = command.Close month pass (first_words regions (generator dice.seed month))
command_of dice next regions (Report faction pass) = command.Report faction pass

-- the command that a request asks for, with the words of the dice for the next faction and the regions of this service
abbrev pub command_in : {S : Type 0} → Dice → ServiceValue S → Request → Command
command_in dice old request = command_of dice (next_faction old.campaign) (len old.world.regions) request

-- The reply is right for a final verdict. A refused request gets the reply to its problem, and changes nothing; for any
-- other the command is run, and the reply is that to its answer.
abbrev pub IsReply : {S : Type 0} → Ghosts S → Dice → (old : ServiceValue S) → FinalVerdict
    → Reply → (new : ServiceValue S) → Type 0
IsReply g dice old (Refused problem) reply new = (reply ≡ problem_reply problem) × (new ≡ old)
IsReply g dice old (Asks request) reply new =
    (answer : Answer) × Runs g old (command_in dice old request) answer new × (reply ≡ answer_reply answer)

-- The message is the reply to a request with the final verdict `outcome` (`IsReply`). If memory ran out there is no
-- message, and the command has been run or not. `old` and `new` are the service before and after it.
abbrev pub RepliesWith : {S : Type 0} → Ghosts S → Dice → (old : ServiceValue S) → FinalVerdict
    → Result Message AllocError → (new : ServiceValue S) → Type 0
RepliesWith g dice old outcome (Ok message) new = (reply : Reply) × MatchesReply reply message × IsReply g dice old outcome reply new
RepliesWith g dice old outcome (Err e) new = (new ≡ old) ⊎ ((reply : Reply) × IsReply g dice old outcome reply new)

-- The reply is right for the bytes `seen`: no more were read than needed, their verdict is final, and the reply is that
-- to their verdict (`IsReply`).
abbrev pub RepliesTo : {S : Type 0} → Ghosts S → Dice → (old : ServiceValue S) → (seen : List ℕ)
    → Reply → (new : ServiceValue S) → Type 0
RepliesTo g dice old seen reply new =
    (outcome : FinalVerdict) × ReadsNoFurther seen × Judges seen (as_verdict outcome) × IsReply g dice old outcome reply new

-- the bytes that a reader has left (`left`) and those that a writer holds (`held`); None where they aren't known
pub record IoBytes : Type 0 where
  pub left : Option (List ℕ)
  pub held : Option (List ℕ)

-- What serving one request does, by its result. With Ok the whole reply to the bytes read (`RepliesTo`) was written,
-- and the result is its status; with WriteFault only the first bytes of it, perhaps none. With Cut, at the end of the
-- input, and with ReadFault more bytes were needed (`More`), nothing was written, and the service is unchanged. With
-- Memory nothing was written, and the service is unchanged or has run the command of the bytes read.
abbrev pub Serves : {S : Type 0} → Ghosts S → Dice → (before after : IoBytes) → (old : ServiceValue S)
    → Result ℕ HttpFault → (new : ServiceValue S) → Type 0
Serves g dice before after old (Ok status) new =
    (seen : List ℕ) × (reply : Reply)
    × Consumes before.left after.left seen
    × RepliesTo g dice old seen reply new
    × (status ≡ reply.status)
    × Appends before.held after.held (bytes_of reply)
Serves g dice before after old (Err Cut) new =
    (seen : List ℕ)
    × Consumes before.left after.left seen
    × Judges seen More
    × IsAtEnd after.left
    × Keeps before.held after.held
    × (new ≡ old)
Serves g dice before after old (Err ReadFault) new =
    (seen : List ℕ) × Consumes before.left after.left seen × Judges seen More × Keeps before.held after.held × (new ≡ old)
Serves g dice before after old (Err WriteFault) new =
    (seen : List ℕ) × (reply : Reply)
    × Consumes before.left after.left seen
    × RepliesTo g dice old seen reply new
    × (count : ℕ) × (count < length (bytes_of reply))
    × Appends before.held after.held (take count (bytes_of reply))
Serves g dice before after old (Err Memory) new =
    Keeps before.held after.held
    × ((new ≡ old)
    ⊎ ((seen : List ℕ) × (reply : Reply) × Consumes before.left after.left seen × RepliesTo g dice old seen reply new))
