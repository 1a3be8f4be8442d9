-- LEAVE, ENTER and PROMOTE: units leave structures, enter them, and hand them over to other units. See docs/RULES.md,
-- "Place". A unit is no worse off (`IsNoWorse`) with the same faction, region, structure, name and guard flag, and no
-- fewer men, no less money, items or days.
use Rattle.std.specs.Prelude.{ℕ, ◌==◌, Bool, true, false, not, [], ◌∷◌, Option, Some, None, if◌then◌else◌}
use Rattle.std.specs.FinMap.{get}
use Rattle.atl_world.specs.Worlds.{WorldValue}
use Rattle.atl_world.specs.ByNumber.{is_land_at}
use Rattle.atl_lines.specs.declared.order.Operands.TheVariants as operands
use Rattle.atl_world.specs.declared.verb.Verb.{Verb}
use Rattle.atl_world.specs.declared.verb.Verb.TheVariants as verbs
use Rattle.atl_lines.specs.Orders.{OperandsValue}
use Rattle.atl_records.specs.declared.event.EventFault.{EventFault}
use Rattle.atl_records.specs.declared.event.EventFault.TheVariants.{AtSea, NotHere, NotInside, NotOwner}
use Rattle.atl_records.specs.declared.event.Outcome.TheVariants.{Done}
use Rattle.atl_records.specs.declared.records.Structure.{Structure}
use Rattle.atl_records.specs.declared.records.Unit.{Unit}
use Rattle.atl_campaign.specs.Owners.{is_owned_by, with_place}
use Rattle.atl_campaign.specs.Campaign.{CampaignValue, with_owner}
use Rattle.atl_phase.specs.Month.{Aliases}
use Rattle.atl_phase.specs.Inside.{structure_of_unit}
use Rattle.atl_phase.specs.Outcomes.{fault_or, first_fault}
use Rattle.atl_phase.specs.PhaseOrders.{unit_of}
use Rattle.atl_phase.specs.NoWorse.{IsNoWorse}
use Rattle.atl_phase.specs.OrderEffects.{IsOwnOrder, OrderEffect, OrderMeaning}
use Rattle.atl_phase.specs.PhaseSpecs.{PhaseSpec, goes_by_orders}

-- whether a verb is LEAVE, ENTER or PROMOTE
abbrev pub is_placing : Verb → Bool
is_placing verbs.Leave = true
is_placing verbs.Enter = true
is_placing verbs.Promote = true
is_placing verb = false

-- why a unit can't leave the structure that it is inside: NotInside where it is inside none, else AtSea where its
-- region is water; None where it can
abbrev pub leave_fault : WorldValue → Unit → Option EventFault
leave_fault w u = first_fault ((u.structure == 0, NotInside) ∷ (not (is_land_at w u.region), AtSea) ∷ [])

-- the effect of LEAVE, Done with 0: unit n is inside no structure, and one that it owned gets its next owner
-- (`with_place`); with a fault (`leave_fault`) nothing changes
unfoldable pub leave : WorldValue → (n : ℕ) → OrderEffect
leave w n c u = fault_or c (leave_fault w u) (with_place c n u.region 0, Done 0)

-- whether a structure exists, and is in a given region
abbrev pub is_structure_in : ℕ → Option Structure → Bool
is_structure_in region None = false
is_structure_in region (Some s) = s.region == region

-- why a unit can't enter structure s: NotHere where there is no structure s in its region; None where it can
abbrev pub enter_fault : CampaignValue → (s : ℕ) → Unit → Option EventFault
enter_fault c s u = first_fault ((not (is_structure_in u.region (get c.structures s)), NotHere) ∷ [])

-- The campaign with unit n of this region, which was inside `from` (0: none), inside structure s. The structures left
-- and entered get new owners as `with_place` says. Nothing changes if `from` is s, or n isn't there.
abbrev pub with_unit_inside : CampaignValue → (n region from s : ℕ) → CampaignValue
with_unit_inside c n region from s = if from == s then c else with_place c n region s

-- the effect of ENTER, Done with 0: unit n is inside structure s (`with_unit_inside`); with a fault nothing changes
unfoldable pub enter : (n s : ℕ) → OrderEffect
enter n s c u = fault_or c (enter_fault c s u) (with_unit_inside c n u.region u.structure s, Done 0)

-- Why unit n, given as it is, can't make unit `to` the owner of the structure that n is inside; None where it can. It
-- is the first of these that fits: NotInside where n is inside none, NotOwner where n doesn't own that structure,
-- NotHere where `to` isn't there or isn't inside it.
abbrev pub promote_fault : CampaignValue → (n to : ℕ) → Unit → Option EventFault
promote_fault c n to u = first_fault (
    (u.structure == 0, NotInside)
    ∷ (not (is_owned_by (get c.structures u.structure) n), NotOwner)
    ∷ (not (structure_of_unit c to == u.structure), NotHere)
    ∷ [])

-- the effect of PROMOTE, Done with 0: unit `to` owns the structure that unit n is inside; with a fault nothing changes
unfoldable pub promote : (n to : ℕ) → OrderEffect
promote n to c u = fault_or c (promote_fault c n to u) (with_owner c u.structure to, Done 0)

-- The effect of an order of faction f for unit n, by the form of its operands. LEAVE has none, ENTER a number, and
-- PROMOTE a unit (of f by `a` if it is an alias); operands of any other form have no effect (None).
abbrev pub place_effect : WorldValue → Aliases → (f n : ℕ) → OperandsValue → Option OrderEffect
place_effect w a f n operands.Nothing = Some (leave w n)
place_effect w a f n (operands.Number s) = Some (enter n s)
place_effect w a f n (operands.Unit to) = Some (promote n (unit_of a f to))
place_effect w a f n other = None

-- what the phase does at one order: the effect of LEAVE, ENTER or PROMOTE; None for operands of any other form
abbrev pub place_step : OrderMeaning
place_step w a t = place_effect w a t.faction t.unit t.order_value.operands

-- The specification of the phase of LEAVE, ENTER and PROMOTE: it carries its orders out one by one, and books nothing.
-- A unit for which no LEAVE, ENTER or PROMOTE of its own faction counts is still there, and no worse off.
abbrev pub place_spec : PhaseSpec
place_spec = goes_by_orders place_step is_placing IsOwnOrder IsNoWorse
