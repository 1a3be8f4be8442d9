-- Closing a month: mail is read, the month is played, and reports are stored. See docs/RULES.md, "Closing a month".
use Rattle.std.specs.Prelude.{ℕ, List, [], ◌∷◌, fold, Option, Some, None, Result, Ok, Err}
use Rattle.std.specs.List.{flat_map}
use Rattle.std.specs.FinMap.{entries, get}
use Rattle.atl_world.specs.Worlds.{WorldValue}
use Rattle.atl_lines.specs.declared.fault.FaultyLine.{FaultyLine}
use Rattle.atl_words.specs.declared.mail_fault.MailFault.{MailFault}
use Rattle.atl_orders.specs.Mailing.{Reading, reading}
use Rattle.atl_records.specs.declared.event.Event.{Event}
use Rattle.atl_campaign.specs.Campaign.{CampaignValue, active, with_report}
use Rattle.atl_phase.specs.Month.{by_faction}
use Rattle.atl_month.specs.Month.{after_month, month_of}
use Rattle.atl_report.specs.Report.{report_of}
use Rattle.atl_report.specs.Sight.{view_of}

-- the reading of a mailing's text (its faction, orders and faulty lines) as a list of one; an empty list if the text
-- can't be read
abbrev pub read_of : Result Reading MailFault → List Reading
read_of (Ok r) = r ∷ []
read_of (Err fault) = []

-- the readings of all stored mailings that can be read, in the order of the factions' numbers
abbrev pub readings : WorldValue → CampaignValue → List Reading
readings w c = flat_map (λ e. read_of (reading w e.1)) (entries c.mail)

-- the faulty lines of a mailing that was read; none if it can't be read
abbrev pub faults_of : Result Reading MailFault → List FaultyLine
faults_of (Ok r) = r.faults
faults_of (Err fault) = []

-- the faulty lines of a faction's stored mailing; none if there is no mailing, or it can't be read
abbrev pub faults_in : WorldValue → Option (List ℕ) → List FaultyLine
faults_in w None = []
faults_in w (Some text) = faults_of (reading w text)

-- the campaign with a new report for a faction: what it sees, the faulty lines `faults` of its mailing, and its own
-- events among `events`
abbrev pub reported_with : WorldValue → CampaignValue → ℕ → List FaultyLine → List Event → CampaignValue
reported_with w c faction faults events = with_report c faction (report_of w (view_of w c faction) faults events)

-- the campaign with a new report for one faction, where `faults` gives the faulty lines of each faction's mailing;
-- folded over the factions it gives all reports of a month
abbrev pub reported_to : WorldValue → (ℕ → List FaultyLine) → List Event → CampaignValue → ℕ → CampaignValue
reported_to w faults events c faction = reported_with w c faction (faults faction) events

-- The campaign once a month is closed. `before` is the campaign before the month; `after` and `events` are what the
-- month's phases give (`month_of`). It is `after` with the number of the month last closed one higher, and without
-- mail. Each faction that isn't gone in `before` gets a new report: the faulty lines of its mailing in `before`, its
-- own events, and what it sees once the month is closed.
abbrev pub with_month_reports : WorldValue → CampaignValue → CampaignValue × List Event → CampaignValue
with_month_reports w before (after, events) =
    fold (reported_to w (λ n. faults_in w (get before.mail n)) events) (after_month after) (active before)

-- the campaign after closing a month with these words of the dice, one for each region: mail read and removed, phases
-- run, month counted, and reports stored for the factions that weren't gone before
unfoldable pub closed : WorldValue → CampaignValue → List ℕ → CampaignValue
closed w c words = with_month_reports w c (month_of w c (by_faction (readings w c)) words)
