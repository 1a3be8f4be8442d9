-- GIVE and PAY: a unit gives items or money to another. See docs/RULES.md, "Giving". A unit is no worse off
-- (`IsNoWorse`) with the same faction, region, structure, name and guard flag, and no fewer men, no less money, items
-- or days.
use Rattle.std.specs.Prelude.{ℕ, ◌+◌, ◌-◌, ◌==◌, ◌&&◌, not, nat_lt, Bool, true, false, [], ◌∷◌, Option, Some, None, if◌then◌else◌}
use Rattle.std.specs.FinMap.{get}
use Rattle.atl_lines.specs.declared.order.Operands.TheVariants as operands
use Rattle.atl_world.specs.declared.verb.Verb.{Verb}
use Rattle.atl_world.specs.declared.verb.Verb.TheVariants as verbs
use Rattle.atl_lines.specs.Orders.{OperandsValue}
use Rattle.atl_records.specs.declared.event.EventFault.{EventFault}
use Rattle.atl_records.specs.declared.event.EventFault.TheVariants.{NoRoom, NotEnough, NotHere}
use Rattle.atl_records.specs.declared.event.Outcome.{Outcome}
use Rattle.atl_records.specs.declared.event.Outcome.TheVariants.{Done}
use Rattle.atl_records.specs.declared.records.Unit.{Unit}
use Rattle.atl_records.specs.Holdings.{HoldingValue, amount_of, with_amount_of}
use Rattle.atl_campaign.specs.Lending.{with_holding_at}
use Rattle.atl_records.specs.Limits.{holding_limit}
use Rattle.atl_campaign.specs.Campaign.{CampaignValue}
use Rattle.atl_phase.specs.Month.{Aliases}
use Rattle.atl_phase.specs.Outcomes.{fault_or, first_fault}
use Rattle.atl_phase.specs.PhaseOrders.{unit_of}
use Rattle.atl_phase.specs.NoWorse.{IsNoWorse}
use Rattle.atl_phase.specs.OrderEffects.{IsOwnOrder, OrderEffect, OrderMeaning}
use Rattle.atl_phase.specs.PhaseSpecs.{PhaseSpec, goes_by_orders}
use Rattle.atl_instant.specs.declared.give.Gift.{Gift}
use Rattle.atl_instant.specs.declared.give.Gift.TheVariants.{Item, Money}

-- whether a verb is GIVE or PAY
abbrev pub is_giving : Verb → Bool
is_giving verbs.Give = true
is_giving verbs.Pay = true
is_giving verb = false

-- how much a unit holds of what is given: its money, or its pieces of the item
abbrev pub held_of : Gift → HoldingValue → ℕ
held_of Money h = h.money
held_of (Item i) h = amount_of h.items i

-- what a unit holds once its money, or its amount of the item that is given, is n; 0 of an item isn't listed
abbrev pub with_held_of : Gift → HoldingValue → ℕ → HoldingValue
with_held_of Money h n = record h { money = n }
with_held_of (Item i) h n = record h { items = with_amount_of h.items i n }

-- The first fault as unit u gives n of the gift to a receiver, None where there is none. It is NotHere where the
-- receiver isn't there (None) or is in another region, NotEnough where u has less, or NoRoom where the receiver would
-- have more than 999,999,999. Where u gives to itself (`itself`), there is always room.
abbrev pub give_fault : Gift → (n : ℕ) → (itself : Bool) → Unit → Option Unit → Option EventFault
give_fault gift n itself u None = Some NotHere
give_fault gift n itself u (Some v) =
    first_fault (
    (not (v.region == u.region), NotHere)
    ∷ (nat_lt (held_of gift u.holding) n, NotEnough)
    ∷ (not itself && nat_lt holding_limit (held_of gift v.holding + n), NoRoom)
    ∷ [])

-- The campaign after n of the gift went from unit `from` to unit `to`, given as they are before; a giver that has less
-- keeps 0. Nothing changes if both are one unit, or one of them isn't there (None).
abbrev pub after_gift : CampaignValue → (from to : ℕ) → Gift → (n : ℕ) → Option Unit → Option Unit → CampaignValue
after_gift c from to gift n (Some u) (Some v) =
    let less = with_held_of gift u.holding (held_of gift u.holding - n) in
    let more = with_held_of gift v.holding (held_of gift v.holding + n) in
    if to == from then c else with_holding_at (with_holding_at c from less (Some u)) to more (Some v)
after_gift c from to gift n giver receiver = c

-- The campaign and the outcome as unit u, of number `from`, gives n of the gift to the receiver, of number `to` (None:
-- it isn't there). The outcome is Done with n, or a fault (`give_fault`), with which nothing changes.
abbrev pub give_to : CampaignValue → (from to : ℕ) → Gift → (n : ℕ) → Unit → Option Unit → CampaignValue × Outcome
give_to c from to gift n u receiver =
    fault_or c (give_fault gift n (to == from) u receiver) (after_gift c from to gift n (Some u) receiver, Done n)

-- the effect, Done with n, of an order by which unit `from` gives n of the gift, money or an item, to unit `to`; with a
-- fault (`give_fault`) nothing changes
unfoldable pub give : (from to : ℕ) → Gift → (n : ℕ) → OrderEffect
give from to gift n c u = give_to c from to gift n u (get c.units to)

-- The effect of an order of faction f for unit `from`, by its operands; an alias in them is a unit of f by `aliases`.
-- GIVE has an amount of an item, and PAY one of money; operands of any other form have no effect (None).
abbrev pub give_effect : Aliases → (f from : ℕ) → OperandsValue → Option OrderEffect
give_effect aliases f from (operands.UnitAndGoods to n item) = Some (give from (unit_of aliases f to) (Item item) n)
give_effect aliases f from (operands.UnitAndNumber to n) = Some (give from (unit_of aliases f to) Money n)
give_effect aliases f from other = None

-- what the phase does at one order: the effect of GIVE or PAY; None for operands of any other form
abbrev pub give_step : OrderMeaning
give_step w aliases t = give_effect aliases t.faction t.unit t.order_value.operands

-- The specification of the phase of GIVE and PAY: it carries its orders out one by one, and books nothing. A unit for
-- which no GIVE or PAY of its own faction counts is still there, and no worse off.
abbrev pub give_spec : PhaseSpec
give_spec = goes_by_orders give_step is_giving IsOwnOrder IsNoWorse
