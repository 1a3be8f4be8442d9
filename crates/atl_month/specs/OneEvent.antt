-- A law of the month: each order that counts has exactly one event. See docs/RULES.md, "Orders of a month".
use Rattle.std.specs.Prelude.{ℕ, List}
use Rattle.std.specs.Ordering.{nat_cmp}
use Rattle.std.specs.FinMap.{FinMap, empty}
use Rattle.atl_world.specs.Worlds.{WorldValue}
use Rattle.atl_world.specs.declared.verb.Verb.{Verb}
use Rattle.atl_world.specs.declared.verb.Verb.TheVariants as verbs
use Rattle.atl_orders.specs.Mailing.{Reading}
use Rattle.atl_campaign.specs.Campaign.{CampaignValue}
use Rattle.atl_phase.specs.Fit.{AreFit}
use Rattle.atl_phase.specs.Month.{Aliases}
use Rattle.atl_phase.specs.PhaseOrders.{Task}
use Rattle.atl_phase.specs.Reports.{Counts, HasOneEvent}
use Rattle.atl_month.specs.Month.{month_meaning, new_month}

-- the aliases by which the phase of a verb reads which unit an order is for: those that FORM made (`made`), and none
-- for FORM itself, since there are none yet as its phase begins
abbrev pub aliases_for : Verb → Aliases → Aliases
aliases_for verbs.Form made = empty
aliases_for verb made = made

-- A law: each order that counts (`Counts`), with its unit by the aliases for its verb (`aliases_for`) of those that
-- FORM made, has exactly one event in the month. This supposes that the mailings can be read with the world (`AreFit`).
abbrev pub EachOrderHasOneEvent : Type 0
EachOrderHasOneEvent =
    (w : WorldValue) (c : CampaignValue) (readings : FinMap nat_cmp Reading) (words : List ℕ) → AreFit w readings →
    let after = (month_meaning w c (new_month readings words)).1 in
    (t : Task) → Counts (aliases_for t.order_value.verb after.aliases) readings t → HasOneEvent after.events t
