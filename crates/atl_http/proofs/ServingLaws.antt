-- Laws on replies: the message for a problem, or for the answer of a command that was run, replies to the request. `g`
-- is the kind of store, in memory or in files, and `dice` has the club's seed. `old` and `new` are the service before
-- and after the request. `outcome` is the final verdict on it, a problem or a request, and `r` the result of making the
-- message.
use Rattle.std.proofs.Common.{◌≡◌, refl, sym, subst, inl, inr}
use Rattle.std.specs.Prelude.{Result, Ok, Err, IfOk}
use Rattle.std.specs.declared.alloc.AllocError.{AllocError}
use Rattle.atl_commands.specs.declared.command.Answer.{Answer}
use Rattle.atl_commands.specs.Runs.{Runs}
use Rattle.atl_parsing.specs.declared.problem.Problem.{Problem}
use Rattle.atl_parsing.specs.declared.request.Request.{Request}
use Rattle.atl_parsing.specs.declared.request.FinalVerdict.TheVariants.{Refused, Asks}
use Rattle.atl_http.specs.Answered.{answer_reply}
use Rattle.sqlite_trees.specs.declared.store.Store.{Ghosts}
use Rattle.atl_commands.specs.Service.{ServiceValue}
use Rattle.atl_requests.specs.declared.dice.Dice.{Dice}
use Rattle.atl_requests.specs.declared.message.Message.{Message}
use Rattle.atl_parsing.specs.declared.request.FinalVerdict.{FinalVerdict}
use Rattle.atl_parsing.specs.Replies.{problem_reply}
use Rattle.atl_http.specs.Serving.{IsReply, RepliesWith, command_in}
use Rattle.atl_requests.specs.Io.{MatchesReply}

-- The message for a problem is right for a request that is refused with this problem (`RepliesWith`), and the service
-- is unchanged. If memory ran out for the message, there is none.
pub replies_to_problem : {S : Type 0} (g : Ghosts S) (dice : Dice) (old : ServiceValue S) (outcome : FinalVerdict) (problem : Problem) (r : Result Message AllocError)
    → outcome ≡ Refused problem → IfOk r (MatchesReply (problem_reply problem)) → RepliesWith g dice old outcome r old
replies_to_problem g dice old outcome problem (Ok message) e says =
    (problem_reply problem, says, subst (λ o. IsReply g dice old o (problem_reply problem) old) (sym e) (refl, refl))
replies_to_problem g dice old outcome problem (Err none) e says = inl refl

-- The message for an answer is right for a request whose command was run with this answer (`RepliesWith`). If memory
-- ran out for the message, there is none, and the command has been run.
pub replies_to_request : {S : Type 0} (g : Ghosts S) (dice : Dice) (old new : ServiceValue S) (outcome : FinalVerdict) (request : Request) (answer : Answer) (r : Result Message AllocError)
    → outcome ≡ Asks request → Runs g old (command_in dice old request) answer new
    → IfOk r (MatchesReply (answer_reply answer)) → RepliesWith g dice old outcome r new
replies_to_request g dice old new outcome request answer (Ok message) e runs says =
    (answer_reply answer, says, subst (λ o. IsReply g dice old o (answer_reply answer) new) (sym e) (answer, runs, refl))
replies_to_request g dice old new outcome request answer (Err none) e runs says =
    inr (answer_reply answer, subst (λ o. IsReply g dice old o (answer_reply answer) new) (sym e) (answer, runs, refl))
