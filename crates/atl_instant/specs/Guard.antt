-- GUARD 1: a unit begins to guard its region. See docs/RULES.md, "Guarding". A unit is no worse off (`IsNoWorse`) with
-- the same faction, region, structure, name and guard flag, and no fewer men, no less money, items or days.
use Rattle.std.specs.Prelude.{◌≡◌, ℕ, ◌==◌, ◌&&◌, not, Bool, true, false, [], ◌∷◌, Option, Some, None}
use Rattle.std.specs.List.{list_any}
use Rattle.std.specs.FinMap.{get}
use Rattle.atl_lines.specs.declared.order.Operands.TheVariants as operands
use Rattle.atl_world.specs.declared.verb.Verb.{Verb}
use Rattle.atl_world.specs.declared.verb.Verb.TheVariants as verbs
use Rattle.atl_lines.specs.Orders.{OperandsValue}
use Rattle.atl_records.specs.declared.event.EventFault.{EventFault}
use Rattle.atl_records.specs.declared.event.EventFault.TheVariants.{Guarded, NoMen}
use Rattle.atl_records.specs.declared.event.Outcome.TheVariants.{Done}
use Rattle.atl_records.specs.declared.records.Unit.{Unit}
use Rattle.atl_campaign.specs.Good.{guards}
use Rattle.atl_campaign.specs.Campaign.{CampaignValue, numbers_in_region, with_guard}
use Rattle.atl_phase.specs.Outcomes.{fault_or, first_fault}
use Rattle.atl_phase.specs.NoWorse.{IsNoWorse}
use Rattle.atl_phase.specs.OrderEffects.{Affects, IsOwnOrder, OrderEffect, OrderMeaning}
use Rattle.atl_phase.specs.PhaseSpecs.{PhaseSpec, goes_by_orders}

-- whether a verb is GUARD
abbrev pub is_guarding : Verb → Bool
is_guarding verbs.Guard = true
is_guarding verb = false

-- whether a unit exists, guards, and is of another faction than the given one
abbrev pub guards_against : (faction : ℕ) → Option Unit → Bool
guards_against faction None = false
guards_against faction (Some v) = guards v && not (v.faction == faction)

-- whether a unit of another faction than the given one guards a region
abbrev pub is_guarded_against : CampaignValue → (region faction : ℕ) → Bool
is_guarded_against c region faction = list_any (λ n. guards_against faction (get c.units n)) (numbers_in_region region c.units)

-- why a unit can't begin to guard its region: NoMen where it has none, else Guarded where another faction guards the
-- region; None where it can
abbrev pub guard_fault : CampaignValue → Unit → Option EventFault
guard_fault c u = first_fault ((u.holding.men == 0, NoMen) ∷ (is_guarded_against c u.region u.faction, Guarded) ∷ [])

-- the effect of GUARD 1, Done with 0: the guard flag of unit n is set; with a fault (`guard_fault`) nothing changes
unfoldable pub guard : (n : ℕ) → OrderEffect
guard n c u = fault_or c (guard_fault c u) (with_guard c n true, Done 0)

-- the effect of an order of GUARD for unit n, by its operands: that of GUARD 1; None for operands of any other form, as
-- those of GUARD 0, which this phase passes over
abbrev pub guard_effect : (n : ℕ) → OperandsValue → Option OrderEffect
guard_effect n (operands.Flag true) = Some (guard n)
guard_effect n other = None

-- what the phase does at one order: the effect of GUARD 1; None for operands of any other form, as those of GUARD 0
abbrev pub guard_step : OrderMeaning
guard_step w aliases t = guard_effect t.unit t.order_value.operands

-- an order affects a unit if it is GUARD 1, and the unit's own faction wrote it for the unit
abbrev pub guard_affects : Affects
guard_affects t number faction = IsOwnOrder t number faction × (t.order_value.operands ≡ operands.Flag true)

-- The specification of the phase of GUARD 1: it carries its orders out one by one, and books nothing. A unit for which
-- no GUARD 1 of its own faction counts is still there, and no worse off.
abbrev pub guard_spec : PhaseSpec
guard_spec = goes_by_orders guard_step is_guarding guard_affects IsNoWorse
