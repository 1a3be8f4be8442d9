-- For proofs alone: copies of the orders of FORM. The code makes them before it carries out the first one, since the
-- month, which has the orders, gets new aliases then.
use Rattle.std.specs.Prelude.{◌++◌, [], ◌∷◌}
use Rattle.atl_records.specs.declared.event.Event.{Event}
use Rattle.atl_records.specs.declared.event.EventVerb.TheVariants.{Order}
use Rattle.atl_records.specs.declared.event.Outcome.{Outcome}
use Rattle.atl_campaign.specs.Campaign.{CampaignValue}
use Rattle.atl_phase.specs.Month.{MonthValue}
use Rattle.atl_phase.specs.PhaseOrders.{Task}
use Rattle.atl_instant.specs.declared.form.Forming.{Forming}
use Rattle.atl_instant.specs.Form.{alias_of, aliases_after, form_by}

-- the copy of an order of FORM: its unit, line, faction, verb and alias
abbrev pub forming_of : Task → Forming
forming_of t = record {
  unit = t.unit;
  line = t.line;
  faction = t.faction;
  verb = t.order_value.verb;
  alias = alias_of t.order_value.operands;
}

-- the event that reports the outcome of an order of FORM, made of the copy of the order
abbrev pub forming_event : Forming → Outcome → Event
forming_event o outcome = record { faction = o.faction; unit = o.unit; line = o.line; verb = Order o.verb; outcome = outcome }

-- What an order of FORM leaves, by its copy o and what it made: the campaign and the outcome. It leaves this campaign,
-- and the month with the event of the order, and with its alias if a unit was formed.
abbrev pub with_forming_result : MonthValue → Forming → CampaignValue × Outcome → CampaignValue × MonthValue
with_forming_result m o (c, outcome) = (
  c,
  record m {
    aliases = aliases_after m.aliases o.faction o.alias outcome;
    events = m.events ++ forming_event o outcome ∷ [];
  },
)

-- the campaign and the month after one order of FORM, carried out by its copy
abbrev pub form_by_copy : CampaignValue × MonthValue → Forming → CampaignValue × MonthValue
form_by_copy (c, m) o = with_forming_result m o (form_by c o.faction o.unit)
