-- SAIL: ships go to a neighbouring region with all units inside. See docs/RULES.md, "Sailing".
use Rattle.std.specs.Prelude.{◌≡◌, ◌≤◌, ℕ, ◌*◌, ◌==◌, ◌&&◌, nat_lt, Bool, true, false, not, [], ◌∷◌, fold, is_some, sum_by, unwrap_or, Option, Some}
use Rattle.std.specs.List.{slice_get}
use Rattle.std.specs.Option.{option_map_or}
use Rattle.std.specs.FinMap.{get}
use Rattle.atl_world.specs.Worlds.{WorldValue}
use Rattle.atl_world.specs.declared.direction.Direction.{Direction}
use Rattle.atl_world.specs.declared.world.Kind.{Kind}
use Rattle.atl_world.specs.ByNumber.{is_land_at, neighbour, size_of}
use Rattle.atl_world.specs.declared.verb.Verb.{Verb}
use Rattle.atl_world.specs.declared.verb.Verb.TheVariants as verbs
use Rattle.atl_records.specs.declared.event.EventFault.{EventFault}
use Rattle.atl_records.specs.declared.event.EventFault.TheVariants.{NoCrew, NoMen, NotComplete, NotInside, NotOwner, NoWay, TooHeavy}
use Rattle.atl_records.specs.declared.event.Outcome.TheVariants.{Done}
use Rattle.atl_records.specs.declared.records.Structure.{Structure}
use Rattle.atl_records.specs.declared.records.Unit.{Unit}
use Rattle.atl_world.specs.Every.{Every}
use Rattle.atl_campaign.specs.Good.{is_ship}
use Rattle.atl_records.specs.Holdings.{HoldingValue, amount_of}
use Rattle.atl_records.specs.Levels.{level_in_any, load_of}
use Rattle.atl_campaign.specs.Owners.{is_owned_by}
use Rattle.atl_campaign.specs.Campaign.{CampaignValue, numbers_inside, with_structure_region}
use Rattle.atl_phase.specs.Inside.{structure_of_unit}
use Rattle.atl_phase.specs.Meaning.{Frame}
use Rattle.atl_phase.specs.Outcomes.{fault_or, first_fault}
use Rattle.atl_phase.specs.PhaseOrders.{Task}
use Rattle.atl_phase.specs.OrderEffects.{Affects, IsStillThere, OrderEffect, OrderMeaning, meaning_by_orders, order_result, others_unaffected}
use Rattle.atl_phase.specs.NoWorse.{IsUnchanged}
use Rattle.atl_action.specs.Walk.{by_direction, with_unit_moved}
use Rattle.atl_phase.specs.PhaseSpecs.{PhaseSpec, spec_without_books}

-- ---- which orders are of the phase

-- whether a verb is SAIL
abbrev pub is_sailing : Verb → Bool
is_sailing verbs.Sail = true
is_sailing verb = false

-- ---- the ship and the units inside it

-- whether a structure is there, is a ship, and is complete
abbrev pub is_complete_ship : WorldValue → Option Structure → Bool
is_complete_ship w structure = option_map_or (λ s. is_ship w s && s.done == size_of w s.kind) structure false

-- a number of a structure's kind, such as its crew, which the function `number` picks; 0 where the structure or its
-- kind isn't there
abbrev pub number_of_kind : (Kind → ℕ) → WorldValue → Option Structure → ℕ
number_of_kind number w structure = option_map_or (λ s. option_map_or number (slice_get w.kinds s.kind) 0) structure 0

-- the crew that a ship's kind needs; 0 where the structure or its kind isn't there
abbrev pub crew_needed : WorldValue → Option Structure → ℕ
crew_needed = number_of_kind (λ k. k.crew)

-- the load that a ship's kind can take; 0 where the structure or its kind isn't there
abbrev pub capacity : WorldValue → Option Structure → ℕ
capacity = number_of_kind (λ k. k.capacity)

-- what the men of a unit are worth as a crew: their number times the unit's level in the world's skill of sailing; 0
-- where the world names no such skill
abbrev pub crew_of : WorldValue → HoldingValue → ℕ
crew_of w h = h.men * level_in_any h w.rules.sailing

-- the sum, over all units inside a structure, of what `f` gives for what each unit holds; 0 for structure 0 (none)
abbrev pub sum_inside : (HoldingValue → ℕ) → CampaignValue → (structure : ℕ) → ℕ
sum_inside f c s = sum_by (λ n. option_map_or (λ u. f u.holding) (get c.units n) 0) (numbers_inside s c.units)

-- ---- SAIL

-- whether a ship can sail from a region to its neighbour (None: it has none there): the world has that neighbour, and
-- the two aren't both land
abbrev pub is_way : WorldValue → (from : ℕ) → (neighbour : Option ℕ) → Bool
is_way w from neighbour =
    option_map_or (λ to. is_some (get w.regions to) && not (is_land_at w from && is_land_at w to)) neighbour false

-- Why unit n (`u`) can't sail the structure it is inside (None: none) to region `to` (None: no neighbour); None where
-- it can. The fault is the first that fits of NoMen, NotInside, NotOwner, NotComplete, NoWay, NoCrew, TooHeavy.
abbrev pub sail_fault : WorldValue → CampaignValue → (n : ℕ) → Unit → Option Structure → (to : Option ℕ) → Option EventFault
sail_fault w c n u ship to = first_fault (
    (u.holding.men == 0, NoMen)
    ∷ (u.structure == 0, NotInside)
    ∷ (not (is_owned_by ship n), NotOwner)
    ∷ (not (is_complete_ship w ship), NotComplete)
    ∷ (not (is_way w u.region to), NoWay)
    ∷ (nat_lt (sum_inside (crew_of w) c u.structure) (crew_needed w ship), NoCrew)
    ∷ (nat_lt (capacity w ship) (sum_inside (load_of w) c u.structure), TooHeavy)
    ∷ [])

-- the campaign with structure `ship`, if it is there, in region `to`, and all units inside too, guard flags cleared
unfoldable pub after_sailing : CampaignValue → (ship to : ℕ) → CampaignValue
after_sailing c ship to = with_structure_region (fold (with_unit_moved ship to) c (numbers_inside ship c.units)) ship to

-- The effect of SAIL, Done with 0: the ship that unit n is inside goes in this direction with all units inside, whose
-- guard flags are cleared. With a fault nothing changes, and the outcome is the fault.
unfoldable pub sail : WorldValue → (n : ℕ) → Direction → OrderEffect
sail w n direction c u =
    let to = neighbour w u.region direction in
    fault_or c (sail_fault w c n u (get c.structures u.structure) to) (after_sailing c u.structure (unwrap_or to 0), Done 0)

-- the effect of order t in the phase of SAIL, by its unit and operands; None where the operands name no direction
abbrev pub sail_step : OrderMeaning
sail_step w aliases t = by_direction (sail w t.unit) t.order_value.operands

-- ---- the phase

-- Unit `after` is unit `before`, with the same faction, structure and name, no less men, money, items or days, and no
-- new guard flag. Inside a structure its region may be another, and its flag cleared; inside none both stay.
pub record IsAtMostMoved (before after : Unit) : Type 0 where
  pub faction : after.faction ≡ before.faction
  pub structure : after.structure ≡ before.structure
  -- a unit inside no structure keeps its region
  pub region : before.structure ≡ 0 → after.region ≡ before.region
  pub name : after.holding.name ≡ before.holding.name
  -- a unit inside no structure keeps its guard flag
  pub guard : before.structure ≡ 0 → after.holding.guard ≡ before.holding.guard
  -- a unit without a guard flag gets none
  pub no_flag : before.holding.guard ≡ false → after.holding.guard ≡ false
  pub men : before.holding.men ≤ after.holding.men
  pub money : before.holding.money ≤ after.holding.money
  pub items : (i : ℕ) → amount_of before.holding.items i ≤ amount_of after.holding.items i
  pub days : (s : ℕ) → amount_of before.holding.days s ≤ amount_of after.holding.days s

-- each unit is still there, and has changed at most as `IsAtMostMoved` allows
abbrev pub AreAtMostMoved : CampaignValue → CampaignValue → Type 0
AreAtMostMoved before after = Every (λ n u. IsStillThere IsAtMostMoved after n u) before.units

-- No order t of SAIL counts as affecting a unit, whatever its number n and faction f. So what SAIL keeps of units that
-- no order affects (`IsAtMostMoved`) is kept of every unit.
abbrev pub affects_nobody : Affects
affects_nobody t n f = ⊥

-- Order t, if it is a SAIL, makes the ship sail that unit n, of whatever faction f, is inside, as things are when the
-- phase begins. The order is for a unit inside the same ship, of the faction that wrote it, and has no fault.
pub record SailsWith (w : WorldValue) (begun : CampaignValue) (t : Task) (n f : ℕ) : Type 0 where
  pub together : structure_of_unit begun t.unit ≡ structure_of_unit begun n
  pub done : (order_result (by_direction (sail w t.unit) t.order_value.operands) begun t.faction t.unit).1 ≡ Some (Done 0)

-- What SAIL keeps: each unit is still there, and has changed at most as `IsAtMostMoved` allows. A unit is unchanged if
-- no order of SAIL that counts makes its ship sail, as things are when the phase begins (`SailsWith`).
abbrev pub sail_keeps : Frame
sail_keeps w m before after =
    AreAtMostMoved before after
    × others_unaffected (SailsWith w before) IsUnchanged is_sailing w m before after

-- the specification of the phase of SAIL, which carries its orders out one by one, and books nothing
abbrev pub sail_spec : PhaseSpec
sail_spec = spec_without_books (meaning_by_orders sail_step is_sailing) sail_keeps
