-- What is left of the units of a faction that sent no mailing. See docs/RULES.md, "Closing a month".
use Rattle.std.specs.Prelude.{◌≡◌, ◌≤◌, ◌<◌, ◌+◌, ◌==◌, ℕ, List, None, sum_by, if◌then◌else◌}
use Rattle.std.specs.FinMap.{get}
use Rattle.atl_records.specs.declared.event.Event.{Event}
use Rattle.atl_records.specs.declared.event.EventVerb.{EventVerb}
use Rattle.atl_records.specs.declared.event.EventVerb.TheVariants as verbs
use Rattle.atl_records.specs.declared.event.Outcome.{Outcome}
use Rattle.atl_records.specs.declared.event.Outcome.TheVariants as outcomes
use Rattle.atl_records.specs.declared.records.Unit.{Unit}
use Rattle.atl_records.specs.Holdings.{amount_of}
use Rattle.atl_campaign.specs.Campaign.{CampaignValue}
use Rattle.atl_phase.specs.OrderEffects.{IsStillThere}

-- how many men starved by an event: the number of a Starved event of upkeep, and 0 for any other
abbrev pub men_starved_by : EventVerb → Outcome → ℕ
men_starved_by verbs.Upkeep (outcomes.Starved men) = men
men_starved_by verb outcome = 0

-- how many men of the unit with a given number starved, by the events of a list
abbrev pub starved_in : List Event → (number : ℕ) → ℕ
starved_in events number = sum_by (λ e. if e.unit == number then men_starved_by e.verb e.outcome else 0) events

-- the unit has the same faction and name, `fewer` men less, and no less of any item
pub record IsLessBy (fewer : ℕ) (before after : Unit) : Type 0 where
  pub faction : after.faction ≡ before.faction
  pub name : after.holding.name ≡ before.holding.name
  pub men : after.holding.men + fewer ≡ before.holding.men
  pub items : (i : ℕ) → amount_of before.holding.items i ≤ amount_of after.holding.items i

-- what is left in the campaign `after` of unit u, given with its number, once `starved` of its men starved
pub record IsLeft (starved : ℕ) (after : CampaignValue) (number : ℕ) (u : Unit) : Type 0 where
  pub most : starved ≤ u.holding.men
  -- where fewer men starved than the unit had, it is still there, with its faction and name, no less of any item, and
  -- exactly those men less
  pub fewer : starved < u.holding.men → IsStillThere (IsLessBy starved) after number u
  -- where all its men starved, the unit is removed
  pub all : starved ≡ u.holding.men → get after.units number ≡ None
