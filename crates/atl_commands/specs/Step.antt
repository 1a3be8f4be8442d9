-- `step` and `run_of`: the campaign after one command and after a list, with the answers; the refusals in their order.
use Rattle.std.specs.Prelude.{◌==◌, ◌+◌, ◌∷◌, [], ℕ, List, length, not, nat_eq, nat_lt, if◌then◌else◌, Option, Some, None, Result, Ok, Err, unwrap_or}
use Rattle.std.specs.Cmp.Lexicographic.{pointwise}
use Rattle.std.specs.FinMap.{get, len}
use Rattle.atl_world.specs.Names.{name_ok, pass_ok}
use Rattle.atl_world.specs.Worlds.{WorldValue}
use Rattle.atl_words.specs.declared.mail_fault.MailFault.{MailFault}
use Rattle.atl_words.specs.declared.mail_fault.MailFault.TheVariants as mail
use Rattle.atl_orders.specs.Mailing.{Reading, reading}
use Rattle.atl_records.specs.declared.records.Faction.{Faction}
use Rattle.atl_records.specs.declared.records.JoinFault.{JoinFault}
use Rattle.atl_records.specs.declared.records.JoinFault.TheVariants.{NameTaken, Full, Memory}
use Rattle.atl_records.specs.Limits.{last_month}
use Rattle.atl_campaign.specs.Campaign.{CampaignValue, with_mail}
use Rattle.atl_campaign.specs.Joining.{join_of}
use Rattle.atl_commands.specs.Closing.{closed, reported_with}
use Rattle.atl_commands.specs.declared.command.Command.{Command}
use Rattle.atl_commands.specs.declared.command.Command.TheVariants.{Join, Mail, Close, Report}
use Rattle.atl_commands.specs.declared.command.Answer.{Answer}
use Rattle.atl_commands.specs.declared.command.Answer.TheVariants.{Joined, Mailed, MonthDone, Text, Refused, Fault}
use Rattle.atl_commands.specs.declared.command.Refusal.{Refusal}
use Rattle.atl_commands.specs.declared.command.Refusal.TheVariants as why
use Rattle.atl_commands.specs.declared.command.Fault.TheVariants as faults

-- the campaign with the first report of a faction, which is stored as it joins: it says what the faction sees, and has
-- no faulty lines and no events
abbrev pub reported : WorldValue → CampaignValue → ℕ → CampaignValue
reported w c faction = reported_with w c faction [] []

-- The campaign and answer for a result of `join_of`: the joined campaign with the faction's first report, and Joined;
-- or the campaign as it was, refused as NameTaken or Full, or with the fault Memory.
abbrev pub joined_with : WorldValue → CampaignValue → Result (CampaignValue × (ℕ × ℕ)) JoinFault → CampaignValue × Answer
joined_with w c (Ok (after, (faction, unit))) = (reported w after faction, Joined faction unit)
joined_with w c (Err NameTaken) = (c, Refused why.NameTaken)
joined_with w c (Err Full) = (c, Refused why.Full)
joined_with w c (Err Memory) = (c, Fault faults.Memory)

-- The faction that a lookup by number found, if the pass text is its own. Else the refusal: NoFaction if it found none,
-- WrongPass if the pass text is another.
abbrev pub faction_with_pass : List ℕ → Option Faction → Result Faction Refusal
faction_with_pass pass None = Err why.NoFaction
faction_with_pass pass (Some f) = if not (pointwise nat_eq f.pass pass) then Err why.WrongPass else Ok f

-- The campaign and answer for what a mailing was read as: stored in place of an older one, or the campaign as it was,
-- refused or out of memory. A stored one is answered with the number of its orders and its faulty lines; these are no
-- reason to refuse. A mailing `text` whose header names another faction than its sender `faction` is refused as
-- WrongFaction.
abbrev pub mailed : CampaignValue → ℕ → List ℕ → Result Reading MailFault → CampaignValue × Answer
mailed c faction text (Ok r) =
    if not (r.faction == faction) then (c, Refused why.WrongFaction)
    else (with_mail c faction text, Mailed (length r.entries) r.faults)
mailed c faction text (Err mail.TooLong) = (c, Refused why.TooLong)
mailed c faction text (Err mail.NoHeader) = (c, Refused why.NoHeader)
mailed c faction text (Err mail.BadHeader) = (c, Refused why.BadHeader)
mailed c faction text (Err mail.Memory) = (c, Fault faults.Memory)

-- the campaign and answer for a mailing, by what `faction_with_pass` gives: the campaign as it was with its refusal, or
-- with the refusal Gone if the faction is gone; or else what `mailed` gives
abbrev pub mailed_by : WorldValue → CampaignValue → ℕ → List ℕ → Result Faction Refusal → CampaignValue × Answer
mailed_by w c faction text (Err refusal) = (c, Refused refusal)
mailed_by w c faction text (Ok f) =
    if f.gone then (c, Refused why.Gone)
    else mailed c faction text (reading w text)

-- the unchanged campaign, and an answer by what `faction_with_pass` gives: its refusal, or the stored report of the
-- faction, which is empty if none is stored
abbrev pub report_answer : CampaignValue → ℕ → Result Faction Refusal → CampaignValue × Answer
report_answer c faction (Err refusal) = (c, Refused refusal)
report_answer c faction (Ok f) = (c, Text (unwrap_or (get c.reports faction) []))

-- The campaign and answer for closing a month with a pass text and words of the dice. It is closed if the pass text is
-- the campaign's, the month is the next one and at most `last_month`, and there is one word for each region. Else the
-- campaign stays, and the answer is the refusal for the first of these that fails.
abbrev pub closed_by : WorldValue → CampaignValue → ℕ → List ℕ → List ℕ → CampaignValue × Answer
closed_by w c month pass words =
    if not (pointwise nat_eq c.pass pass) then (c, Refused why.WrongPass)
    else (if not (month == c.month + 1) then (c, Refused why.WrongMonth)
    else (if nat_lt last_month month then (c, Refused why.MonthLimit)
    else (if not (length words == len w.regions) then (c, Refused why.WrongDice)
    else (closed w c words, MonthDone month))))

-- The campaign after one command, and its answer. A join is refused as BadName, else as BadPassText, else as `join_of`
-- refuses it. A report, a refusal and a fault leave the campaign as it is.
unfoldable pub step : WorldValue → CampaignValue → Command → CampaignValue × Answer
step w c (Join name pass word) =
    if not (name_ok name) then (c, Refused why.BadName)
    else (if not (pass_ok pass) then (c, Refused why.BadPassText)
    else joined_with w c (join_of w name pass word c))
step w c (Mail faction pass text) = mailed_by w c faction text (faction_with_pass pass (get c.factions faction))
step w c (Close month pass words) = closed_by w c month pass words
step w c (Report faction pass) = report_answer c faction (faction_with_pass pass (get c.factions faction))

-- the campaign after a list of commands, each run by `step`, and the list of answers
abbrev pub run_of : WorldValue → CampaignValue → List Command → CampaignValue × List Answer
run_of w c [] = (c, [])
run_of w c (command ∷ more) = let one = step w c command in let rest = run_of w one.0 more in (rest.0, one.1 ∷ rest.1)
