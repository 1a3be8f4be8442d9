-- FORM: units form new ones. See docs/RULES.md, "Form".
use Rattle.std.specs.Prelude.{◌≡◌, ◌||◌, ◌++◌, ℕ, Bool, true, false, [], ◌∷◌, codes, fold, nat_le, nat_lt, not, Option, Some}
use Rattle.std.specs.Fmt.{decimal}
use Rattle.std.specs.FinMap.{empty, get, len}
use Rattle.atl_lines.specs.declared.order.Operands.TheVariants as operands
use Rattle.atl_world.specs.declared.verb.Verb.{Verb}
use Rattle.atl_world.specs.declared.verb.Verb.TheVariants as verbs
use Rattle.atl_lines.specs.Orders.{OperandsValue}
use Rattle.atl_records.specs.declared.event.EventFault.{EventFault}
use Rattle.atl_records.specs.declared.event.EventFault.TheVariants.{NotYours, UnitLimit}
use Rattle.atl_records.specs.declared.event.Outcome.{Outcome}
use Rattle.atl_records.specs.declared.event.Outcome.TheVariants.{Done}
use Rattle.atl_records.specs.declared.records.Unit.{Unit}
use Rattle.atl_world.specs.Every.{Every}
use Rattle.atl_records.specs.Limits.{last_unit, most_units}
use Rattle.atl_campaign.specs.Campaign.{CampaignValue, with_unit_begun}
use Rattle.atl_phase.specs.Month.{Aliases, MonthValue, with_alias}
use Rattle.atl_phase.specs.Inside.{structure_of_unit, region_of}
use Rattle.atl_phase.specs.Meaning.{Frame, Meaning}
use Rattle.atl_phase.specs.Outcomes.{fault_or, first_fault}
use Rattle.atl_phase.specs.PhaseOrders.{Task, orders_of}
use Rattle.atl_phase.specs.OrderEffects.{event_for, is_of_faction}
use Rattle.atl_phase.specs.declared.phase_order.Arrangement.TheVariants.{ByFaction}
use Rattle.atl_phase.specs.PhaseSpecs.{PhaseSpec, spec_without_books}

-- whether a verb is FORM
abbrev pub is_forming : Verb → Bool
is_forming verbs.Form = true
is_forming verb = false

-- whether no further unit can be formed: there are 100,000 units or more, or the next one's number is above 999,999,999
abbrev pub is_unit_limit : CampaignValue → Bool
is_unit_limit c = nat_le most_units (len c.units) || nat_lt last_unit c.next_unit

-- The first fault of an order of FORM from faction f for unit n, None where it has none. It is NotYours where n isn't
-- there or isn't of f, or UnitLimit where no further unit can be formed.
abbrev pub form_fault : CampaignValue → (f n : ℕ) → Option EventFault
form_fault c f n = first_fault ((not (is_of_faction f (get c.units n)), NotYours) ∷ (is_unit_limit c, UnitLimit) ∷ [])

-- a new unit, named `Unit` and its number, in the structure (0: none), without men, money, items, days or guard flag
abbrev pub new_unit : (number faction region structure : ℕ) → Unit
new_unit number faction region structure = record {
  faction = faction;
  region = region;
  structure = structure;
  holding = record { name = codes "Unit " ++ decimal number; men = 0; money = 0; guard = false; items = empty; days = empty };
}

-- The campaign with a new unit of faction f, in the region and the structure (0: none) of unit n; both are 0 where n
-- isn't there. It has the next unit number, which rises by one (`with_unit_begun`).
abbrev pub with_formed_unit : CampaignValue → (f n : ℕ) → CampaignValue
with_formed_unit c f n = with_unit_begun c (new_unit c.next_unit f (region_of c n) (structure_of_unit c n))

-- the campaign and the outcome after an order of FORM from faction f for unit n: Done with the number of the new unit,
-- or the fault (`form_fault`), with which nothing changes
abbrev pub form_by : CampaignValue → (f n : ℕ) → CampaignValue × Outcome
form_by c f n = fault_or c (form_fault c f n) (with_formed_unit c f n, Done c.next_unit)

-- the alias that an order of FORM gives; 0 for operands of any other form
abbrev pub alias_of : OperandsValue → ℕ
alias_of (operands.Alias alias) = alias
alias_of order = 0

-- The aliases after an order of FORM by faction f, with this alias and this outcome. Where it is Done, with the number
-- of the new unit, this unit has the alias; otherwise they stay.
abbrev pub aliases_after : Aliases → (f alias : ℕ) → Outcome → Aliases
aliases_after aliases f alias (Done number) = with_alias aliases f alias number
aliases_after aliases f alias outcome = aliases

-- What an order t of FORM leaves, by what it made: the campaign and the outcome. It leaves this campaign, and the month
-- with the event of the order, and with its alias if a unit was formed.
abbrev pub with_form_result : MonthValue → Task → CampaignValue × Outcome → CampaignValue × MonthValue
with_form_result m t (c, outcome) = (
  c,
  record m {
    aliases = aliases_after m.aliases t.faction (alias_of t.order_value.operands) outcome;
    events = m.events ++ event_for t outcome ∷ [];
  },
)

-- the campaign and the month after one order of FORM: with its event, and with its alias if a unit was formed
abbrev pub form_order : CampaignValue × MonthValue → Task → CampaignValue × MonthValue
form_order (c, m) t = with_form_result m t (form_by c t.faction t.unit)

-- the effect of the phase: the orders of FORM that count, carried out by faction and then by line
unfoldable pub form_meaning : Meaning
form_meaning w c m = fold form_order (c, m) (orders_of is_forming ByFaction m.aliases m.readings)

-- what the phase keeps: each unit that was there is there as it was
abbrev pub form_keeps : Frame
form_keeps w m before after = Every (λ n u. get after.units n ≡ Some u) before.units

-- the specification of the phase of FORM: it moves no amount of the books, and each unit that was there stays as it was
abbrev pub form_spec : PhaseSpec
form_spec = spec_without_books form_meaning form_keeps
