-- TRANSFER: men move from one unit to another. See docs/RULES.md, "Transferring". A unit is no worse off (`IsNoWorse`)
-- with the same faction, region, structure, name and guard flag, and no fewer men, no less money, items or days.
use Rattle.std.specs.Prelude.{◌≡◌, ℕ, ◌+◌, ◌-◌, ◌*◌, ◌/◌, ◌==◌, ◌&&◌, not, nat_lt, Bool, true, false, [], ◌∷◌, ◌++◌, Option, Some, None, if◌then◌else◌}
use Rattle.std.specs.FinMap.{get, keys}
use Rattle.atl_lines.specs.declared.order.Operands.TheVariants as operands
use Rattle.atl_world.specs.declared.verb.Verb.{Verb}
use Rattle.atl_world.specs.declared.verb.Verb.TheVariants as verbs
use Rattle.atl_lines.specs.Orders.{OperandsValue}
use Rattle.atl_records.specs.declared.event.EventFault.{EventFault}
use Rattle.atl_records.specs.declared.event.EventFault.TheVariants.{NoRoom, NotEnough, NotHere, NotYours}
use Rattle.atl_records.specs.declared.event.Outcome.{Outcome}
use Rattle.atl_records.specs.declared.event.Outcome.TheVariants.{Done}
use Rattle.atl_records.specs.declared.records.Unit.{Unit}
use Rattle.atl_records.specs.Holdings.{HoldingValue, amount_of}
use Rattle.atl_campaign.specs.Lending.{with_holding_at}
use Rattle.atl_records.specs.Limits.{men_limit}
use Rattle.atl_campaign.specs.Campaign.{CampaignValue}
use Rattle.atl_phase.specs.Month.{Aliases}
use Rattle.atl_phase.specs.Outcomes.{fault_or, first_fault}
use Rattle.atl_phase.specs.PhaseOrders.{unit_of}
use Rattle.atl_phase.specs.NoWorse.{IsNoWorse}
use Rattle.atl_phase.specs.OrderEffects.{IsOwnOrder, OrderEffect, OrderMeaning}
use Rattle.atl_phase.specs.PhaseSpecs.{PhaseSpec, goes_by_orders}
use Rattle.atl_instant.specs.Amounts.{amounts_for}

-- whether a verb is TRANSFER
abbrev pub is_transferring : Verb → Bool
is_transferring verbs.Transfer = true
is_transferring verb = false

-- the days of a skill that go with n of `men` men who have `days` together: their part, rounded down; 0 for no men
abbrev pub days_going : (n men days : ℕ) → ℕ
days_going n men days = days * n / men

-- the days of a skill that go with n of a unit's men
abbrev pub going_of : (n : ℕ) → HoldingValue → (skill : ℕ) → ℕ
going_of n h s = days_going n h.men (amount_of h.days s)

-- the days of a skill that stay with a unit after n of its men went
abbrev pub staying_of : (n : ℕ) → HoldingValue → (skill : ℕ) → ℕ
staying_of n h s = amount_of h.days s - going_of n h s

-- the days of a skill that a unit that holds h has after n men of a unit that holds `other` came
abbrev pub raised_of : (n : ℕ) → (other h : HoldingValue) → (skill : ℕ) → ℕ
raised_of n other h s = amount_of h.days s + going_of n other s

-- what a unit holds after n of its men went (all, if it has fewer), with their part of the days; 0 days aren't listed
abbrev pub after_sending : (n : ℕ) → HoldingValue → HoldingValue
after_sending n h = record h { men = h.men - n; days = amounts_for (staying_of n h) (keys h.days) }

-- What a unit that holds h holds after n men of a unit that holds `other` came, with their part of the days. A skill of
-- which it has 0 days isn't listed.
abbrev pub after_receiving : (n : ℕ) → (other h : HoldingValue) → HoldingValue
after_receiving n other h =
    record h { men = h.men + n; days = amounts_for (raised_of n other h) (keys h.days ++ keys other.days) }

-- After n men went, the sender has the days of the skill that stay, and the receiver those that it had and those that
-- came. Before, the sender held `other`, and the receiver held h.
pub record HaveDaysOf (n : ℕ) (other h : HoldingValue) (skill : ℕ) : Type 0 where
  pub stay : amount_of (after_sending n other).days skill ≡ staying_of n other skill
  pub come : amount_of (after_receiving n other h).days skill ≡ raised_of n other h skill

-- the law that, however many men go, the sender keeps the days of each skill that stay, and the receiver has its own
-- and those that came
abbrev pub DaysGoWithMen : Type 0
DaysGoWithMen = (n : ℕ) (other h : HoldingValue) (skill : ℕ) → HaveDaysOf n other h skill

-- The first fault as unit u sends n men to a receiver, None where there is none. It is NotHere where the receiver isn't
-- there (None) or is in another region, or NotYours where it is another faction's. It is NotEnough where u has fewer
-- men, or NoRoom where the receiver would have over 999,999. To itself (`itself`) there is always room.
abbrev pub transfer_fault : (n : ℕ) → (itself : Bool) → Unit → Option Unit → Option EventFault
transfer_fault n itself u None = Some NotHere
transfer_fault n itself u (Some v) =
    first_fault (
    (not (v.region == u.region), NotHere)
    ∷ (not (v.faction == u.faction), NotYours)
    ∷ (nat_lt u.holding.men n, NotEnough)
    ∷ (not itself && nat_lt men_limit (v.holding.men + n), NoRoom)
    ∷ [])

-- The campaign after n men went from unit `from` to unit `to`, given as they are before; one that has fewer keeps none.
-- Nothing changes if both are one unit, or one of them isn't there (None).
abbrev pub after_transfer : CampaignValue → (from to n : ℕ) → Option Unit → Option Unit → CampaignValue
after_transfer c from to n (Some u) (Some v) =
    if to == from then c
    else with_holding_at (with_holding_at c from (after_sending n u.holding) (Some u)) to
    (after_receiving n u.holding v.holding) (Some v)
after_transfer c from to n sender receiver = c

-- The campaign and the outcome as unit u, of number `from`, sends n men to the receiver, of number `to` (None: it isn't
-- there). The outcome is Done with n, or a fault (`transfer_fault`), with which nothing changes.
abbrev pub transfer_to : CampaignValue → (from to n : ℕ) → Unit → Option Unit → CampaignValue × Outcome
transfer_to c from to n u receiver =
    fault_or c (transfer_fault n (to == from) u receiver) (after_transfer c from to n (Some u) receiver, Done n)

-- the effect, Done with n, of an order by which unit `from` sends n men to unit `to`; with a fault nothing changes
unfoldable pub transfer : (from to n : ℕ) → OrderEffect
transfer from to n c u = transfer_to c from to n u (get c.units to)

-- The effect of a TRANSFER of faction f for unit `from`, by its operands; an alias in them is a unit of f by `aliases`.
-- It is None for operands of any other form.
abbrev pub transfer_effect : Aliases → (f from : ℕ) → OperandsValue → Option OrderEffect
transfer_effect aliases f from (operands.UnitAndNumber to n) = Some (transfer from (unit_of aliases f to) n)
transfer_effect aliases f from other = None

-- what the phase does at one order: the effect of TRANSFER; None for operands of any other form
abbrev pub transfer_step : OrderMeaning
transfer_step w aliases t = transfer_effect aliases t.faction t.unit t.order_value.operands

-- The specification of the phase of TRANSFER: it carries its orders out one by one, and books nothing. A unit for which
-- no TRANSFER of its own faction counts is still there, and no worse off.
abbrev pub transfer_spec : PhaseSpec
transfer_spec = goes_by_orders transfer_step is_transferring IsOwnOrder IsNoWorse
