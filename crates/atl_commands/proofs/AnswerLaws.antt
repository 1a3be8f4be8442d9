-- Laws on a command's answer: Refused with nothing changed is right where `step` refuses the command (`Answers`). After
-- a fault the campaign that a crash leaves is good (`LeavesGood`).
-- `g` is the kind of store, in memory or in files, and `w` the world. `c` and `conn` are the campaign and the
-- connection, which a refusal leaves as they are. After a fault `s` is the state of the database, and `text` the world
-- text in its tables. `faults` is how often the disk had failed before the command.
use Rattle.std.proofs.Common.{◌≡◌, ℕ, List, refl, inl, inr}
use Rattle.sqlite_trees.specs.declared.store.Store.{Ghosts}
use Rattle.sqlite.specs.Held.{Held}
use Rattle.sqlite.specs.State.{State}
use Rattle.atl_world.specs.Worlds.{WorldValue}
use Rattle.atl_campaign.specs.Campaign.{CampaignValue}
use Rattle.atl_campaign.specs.Good.{IsGood}
use Rattle.atl_keeping.specs.Keeps.{LeavesAfterFault}
use Rattle.atl_commands.specs.declared.command.Command.{Command}
use Rattle.atl_commands.specs.declared.command.Answer.TheVariants.{Refused}
use Rattle.atl_commands.specs.declared.command.Refusal.{Refusal}
use Rattle.atl_commands.specs.Left.{LeavesGood}
use Rattle.atl_commands.specs.Step.{step}
use Rattle.atl_commands.specs.Answering.{Answers}

-- where `step` refuses a command in a good campaign, the answer Refused with nothing changed is right (`Answers`)
pub is_refused : {S : Type 0} (g : Ghosts S) (w : WorldValue) (c : CampaignValue) (conn : Held S) (command : Command) (why : Refusal)
    → step w c command ≡ (c, Refused why) → IsGood w c
    → Answers g w c conn command c conn (Refused why)
is_refused g w c conn command why is good = record {
  step_is = is;
  no_fault = tt;
  same = (refl, refl);
  good = good;
  tables = λ clean text keeps. keeps;
}

-- If a write ended in a fault (`LeavesAfterFault`), the campaign that a crash leaves is good (`LeavesGood`). Premises:
-- the campaign `before` the write is good, and so is the one that it was to store (`after`).
pub leaves_good : (w : WorldValue) (faults : ℕ) (s : State) (text : List ℕ) (before after : CampaignValue)
    → IsGood w before → IsGood w after → LeavesAfterFault faults s text before after
    → LeavesGood w faults s text before after
leaves_good w faults s text before after good good_after stops = record {
  tables = stops;
  good = good;
  crash = λ db left. elim (stops.crash db left) [ inl old ↦ inl old | inr new ↦ inr (new, good_after) ];
}
