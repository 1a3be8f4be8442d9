-- `OnlyTheLastMailCounts`: of a faction's mailings for a month only the last one counts. See docs/RULES.md, "Mail".
use Rattle.std.specs.Prelude.{◌≡◌, ◌==◌, ◌∷◌, [], ℕ, List, ⊤, Option, Some, None, if◌then◌else◌}
use Rattle.atl_world.specs.Worlds.{WorldValue}
use Rattle.atl_campaign.specs.Campaign.{CampaignValue}
use Rattle.atl_commands.specs.declared.command.Command.{Command}
use Rattle.atl_commands.specs.declared.command.Command.TheVariants.{Join, Mail, Close, Report}
use Rattle.atl_commands.specs.declared.command.Answer.{Answer}
use Rattle.atl_commands.specs.declared.command.Answer.TheVariants.{Joined, Mailed, MonthDone, Text, Refused, Fault}
use Rattle.atl_commands.specs.Step.{step, run_of}

-- The answer says that a mailing was stored.
abbrev pub IsMailed : Answer → Type 0
IsMailed (Joined _ _) = ⊥
IsMailed (Mailed _ _) = ⊤
IsMailed (MonthDone _) = ⊥
IsMailed (Text _) = ⊥
IsMailed (Refused _) = ⊥
IsMailed (Fault _) = ⊥

-- From campaign `c` on, each of these commands, run one after the other by `step`, is a mailing that is stored.
abbrev pub AreMailed : WorldValue → CampaignValue → List Command → Type 0
AreMailed w c [] = ⊤
AreMailed w c (Join _ _ _ ∷ more) = ⊥
AreMailed w c (Mail faction pass text ∷ more) =
    IsMailed (step w c (Mail faction pass text)).1 × AreMailed w (step w c (Mail faction pass text)).0 more
AreMailed w c (Close _ _ _ ∷ more) = ⊥
AreMailed w c (Report _ _ ∷ more) = ⊥

-- the text of a faction's last mailing among these commands, or `other` where there is none
abbrev pub last_text : ℕ → Option (List ℕ) → List Command → Option (List ℕ)
last_text n other [] = other
last_text n other (Join _ _ _ ∷ more) = last_text n other more
last_text n other (Mail faction _ text ∷ more) = last_text n (if faction == n then Some text else other) more
last_text n other (Close _ _ _ ∷ more) = last_text n other more
last_text n other (Report _ _ ∷ more) = last_text n other more

-- Two lists of mailings, stored from one campaign on, give the same campaign and answer when a month is closed, if
-- each faction's last text is the same in both.
abbrev pub OnlyTheLastMailCounts : Type 0
OnlyTheLastMailCounts =
    (w : WorldValue) (c : CampaignValue) (sent others : List Command) (month : ℕ) (pass words : List ℕ)
    → AreMailed w c sent
    → AreMailed w c others
    → ((n : ℕ) → last_text n None sent ≡ last_text n None others)
    → step w (run_of w c sent).0 (Close month pass words) ≡ step w (run_of w c others).0 (Close month pass words)
