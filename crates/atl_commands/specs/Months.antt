-- For proofs alone: the mail of a campaign as it was read, and what closing a month requires.
use Rattle.std.specs.Prelude.{◌≡◌, ◌<◌, ◌++◌, ℕ, List, [], All, fold, map, length, unwrap_or}
use Rattle.std.specs.List.{AllByRecursion, flat_map}
use Rattle.std.specs.Ordering.{nat_cmp}
use Rattle.std.specs.FinMap.{FinMap, entries, get, len}
use Rattle.atl_world.specs.Worlds.{WorldValue, IsWorld}
use Rattle.atl_world.specs.Sums.{map_values}
use Rattle.atl_lines.specs.declared.fault.FaultyLine.{FaultyLine}
use Rattle.atl_orders.specs.declared.mailing.Mailing.{Mailing}
use Rattle.atl_orders.specs.Mailing.{IsReadWith, reading, reading_of}
use Rattle.atl_words.specs.Header.{IsMailingOf}
use Rattle.atl_world.specs.Every.{EachEntry, HasValue}
use Rattle.atl_records.specs.Limits.{last_month}
use Rattle.atl_campaign.specs.Campaign.{CampaignValue}
use Rattle.atl_commands.specs.declared.closing.ReadMail.{ReadMail}
use Rattle.atl_commands.specs.declared.reporting.MonthResult.{MonthResult}
use Rattle.atl_commands.specs.declared.command.Command.TheVariants.{Close}
use Rattle.atl_commands.specs.declared.command.Answer.TheVariants.{MonthDone}
use Rattle.atl_commands.specs.Closing.{closed, faults_of, read_of, readings, reported_to}
use Rattle.atl_commands.specs.Step.{step}

-- Some of the mail is read: these mailings and faulty lines, followed by those of the unread `rest`, are those of the
-- whole mail. Each of the mailings was read with the world, and each text in `rest` is a mailing of its faction.
abbrev pub ReadSoFar : WorldValue → CampaignValue → List Mailing → FinMap nat_cmp (List FaultyLine) → List (ℕ × List ℕ) → Type 0
ReadSoFar w c mailings faults rest =
    (map reading_of mailings ++ flat_map (λ e. read_of (reading w e.1)) rest ≡ readings w c)
    × All (IsReadWith w) mailings
    × (entries faults ++ map (λ e. (e.0, faults_of (reading w e.1))) rest
    ≡ entries (map_values (λ text. faults_of (reading w text)) c.mail))
    × EachEntry IsMailingOf rest

-- All mail of the campaign is read: `r` has the mailings in the factions' order, and the faulty lines of each under its
-- faction's number.
pub record HasRead (w : WorldValue) (c : CampaignValue) (r : ReadMail) : Type 0 where
  -- the mailings have the readings of the campaign's mail, in the order of the factions' numbers
  pub readings_are : map reading_of r.mailings.items ≡ readings w c
  -- each mailing is exactly what its own text gives with the world (`IsReadWith`)
  pub read : All (IsReadWith w) r.mailings.items
  -- the faulty lines of each stored mailing are under its faction's number
  pub faults : r.faults ≡ map_values (λ text. faults_of (reading w text)) c.mail

-- Each of these numbers is the number of a faction of the campaign, so a report for it leaves a good campaign good.
abbrev pub AreFactions : CampaignValue → List ℕ → Type 0
AreFactions c factions = AllByRecursion (λ n. HasValue c.factions n) factions

-- The campaign with a new report for each faction that the month's result lists, in the list's order. Each report has
-- the faction's events in the result, and its faulty lines there, none if the result has none under its number.
abbrev pub reported_to_all : WorldValue → CampaignValue → MonthResult → CampaignValue
reported_to_all w c outcome =
    fold (reported_to w (λ n. unwrap_or (get outcome.faults n) []) outcome.events.items) c outcome.factions.items

-- Closing this month is not refused: `step` makes the campaign of `closed` and answers MonthDone, the month limit isn't
-- reached, and there is one word for each region of a valid world.
pub record MayClose (w : WorldValue) (c : CampaignValue) (month : ℕ) (pass words : List ℕ) : Type 0 where
  pub step_is : step w c (Close month pass words) ≡ (closed w c words, MonthDone month)
  pub month_left : c.month < last_month
  pub dice : length words ≡ len w.regions
  pub world : IsWorld w
