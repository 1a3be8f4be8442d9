-- `answer_reply`: status and body of the reply to each answer of a command. See docs/FORMATS.md, "HTTP".
use Rattle.std.specs.Prelude.{ℕ, List, None}
use Rattle.atl_parsing.specs.Replies.{Reply, json, plain, no_number, error_body}
use Rattle.atl_requests.specs.Bodies.{joined_body, mailed_body, month_body, success}
use Rattle.atl_commands.specs.declared.command.Answer.{Answer}
use Rattle.atl_commands.specs.declared.command.Answer.TheVariants.{Joined, Mailed, MonthDone, Text, Refused, Fault}
use Rattle.atl_commands.specs.declared.command.Refusal.{Refusal}
use Rattle.atl_commands.specs.declared.command.Refusal.TheVariants.{NameTaken, Full, NoFaction, WrongPass, Gone, TooLong, WrongFaction, WrongMonth, MonthLimit}
use Rattle.atl_commands.specs.Numbers.{number_of, refusal_name, fault_name}

-- the HTTP status for a refusal; 400 for refusals that aren't listed here
abbrev pub refusal_status : Refusal → ℕ
refusal_status NameTaken = 409
refusal_status Full = 409
refusal_status WrongFaction = 409
refusal_status WrongMonth = 409
refusal_status MonthLimit = 409
refusal_status NoFaction = 404
refusal_status WrongPass = 403
refusal_status Gone = 403
refusal_status TooLong = 413
refusal_status why = 400

-- the reply of this status to a refusal or a fault of a command, with this name and this number as JSON
abbrev pub failure : (status : ℕ) → (name : List ℕ) → (number : ℕ) → Reply
failure status name number = record { status = status; allow = None; kind = json; body = error_body name number }

-- The reply to an answer. It has status 200 with what was done as JSON, or with the report as plain text. For a refusal
-- it has its status, name and number, and for a fault 500, its name and the number 0, as JSON.
abbrev pub answer_reply : Answer → Reply
answer_reply (Joined faction unit) = success json (joined_body faction unit)
answer_reply (Mailed orders faults) = success json (mailed_body orders faults)
answer_reply (MonthDone month) = success json (month_body month)
answer_reply (Text report) = success plain report
answer_reply (Refused why) = failure (refusal_status why) (refusal_name why) (number_of why)
answer_reply (Fault fault) = failure 500 (fault_name fault) no_number
