-- MOVE: units go to a neighbouring region over land. See docs/RULES.md, "Walking".
use Rattle.std.specs.Prelude.{ℕ, ◌==◌, nat_lt, Bool, true, false, not, [], ◌∷◌, unwrap_or, Option, Some, None}
use Rattle.std.specs.Option.{option_map_or}
use Rattle.atl_world.specs.Worlds.{WorldValue}
use Rattle.atl_world.specs.declared.direction.Direction.{Direction}
use Rattle.atl_world.specs.ByNumber.{is_land_at, neighbour}
use Rattle.atl_lines.specs.declared.order.Operands.TheVariants as operands
use Rattle.atl_world.specs.declared.verb.Verb.{Verb}
use Rattle.atl_world.specs.declared.verb.Verb.TheVariants as verbs
use Rattle.atl_lines.specs.Orders.{OperandsValue}
use Rattle.atl_records.specs.declared.event.EventFault.{EventFault}
use Rattle.atl_records.specs.declared.event.EventFault.TheVariants.{AtSea, NoMen, NoWay, TooHeavy}
use Rattle.atl_records.specs.declared.event.Outcome.TheVariants.{Done}
use Rattle.atl_records.specs.declared.records.Unit.{Unit}
use Rattle.atl_records.specs.Levels.{carried_by, goods_weight}
use Rattle.atl_campaign.specs.Owners.{with_place}
use Rattle.atl_campaign.specs.Campaign.{CampaignValue, with_guard}
use Rattle.atl_phase.specs.Outcomes.{fault_or, first_fault}
use Rattle.atl_phase.specs.NoWorse.{IsNoWorse}
use Rattle.atl_phase.specs.OrderEffects.{IsOwnOrder, OrderEffect, OrderMeaning}
use Rattle.atl_phase.specs.PhaseSpecs.{PhaseSpec, goes_by_orders}

-- ---- which orders are of the phase

-- whether a verb is MOVE
abbrev pub is_walking : Verb → Bool
is_walking verbs.Move = true
is_walking verb = false

-- ---- MOVE

-- whether there is a neighbouring region (`Some`), and it is land
abbrev pub is_land_there : WorldValue → (to : Option ℕ) → Bool
is_land_there w to = option_map_or (is_land_at w) to false

-- why a unit can't walk to the neighbouring region `to` (None: there is none), the first that fits of NoMen, AtSea,
-- NoWay and TooHeavy; None where it can
abbrev pub walk_fault : WorldValue → Unit → (to : Option ℕ) → Option EventFault
walk_fault w u to = first_fault (
    (u.holding.men == 0, NoMen)
    ∷ (not (is_land_at w u.region), AtSea)
    ∷ (not (is_land_there w to), NoWay)
    ∷ (nat_lt (carried_by w u.holding) (goods_weight w u.holding), TooHeavy)
    ∷ [])

-- The campaign with unit n in region `to` and inside this structure there, or none for 0, and its guard flag cleared. A
-- structure that it owned and leaves gets its next owner, and one without an owner that it enters becomes its own.
-- Where there is no unit n, nothing changes.
abbrev pub with_unit_moved : (structure to : ℕ) → CampaignValue → (n : ℕ) → CampaignValue
with_unit_moved structure to c n = with_guard (with_place c n to structure) n false

-- The effect of MOVE, Done with 0: unit n walks to the region in this direction, inside no structure there, and its
-- guard flag is cleared. With a fault nothing changes, and the outcome is the fault.
unfoldable pub walk : WorldValue → (n : ℕ) → Direction → OrderEffect
walk w n direction c u =
    let to = neighbour w u.region direction in
    fault_or c (walk_fault w u to) (with_unit_moved 0 (unwrap_or to 0) c n, Done 0)

-- the effect of an order by its operands, if they name a direction; None for operands of any other form
abbrev pub by_direction : (Direction → OrderEffect) → OperandsValue → Option OrderEffect
by_direction effect (operands.Direction direction) = Some (effect direction)
by_direction effect other = None

-- the effect of order t in the phase of MOVE, by its unit and operands; None where the operands name no direction
abbrev pub walk_step : OrderMeaning
walk_step w aliases t = by_direction (walk w t.unit) t.order_value.operands

-- ---- the phase

-- The specification of the phase of MOVE, which carries its orders out one by one, and books nothing. A unit for which
-- no MOVE of its own faction counts is there after it, with the same faction, region, structure, name and guard flag,
-- and no less men, money, items or days (`IsNoWorse`).
abbrev pub walk_spec : PhaseSpec
walk_spec = goes_by_orders walk_step is_walking IsOwnOrder IsNoWorse
