-- NAME and GUARD 0: units give names, and stop guarding. See docs/RULES.md, "Name". A unit is no worse off
-- (`IsNoWorse`) with the same faction, region, structure, name and guard flag, and no fewer men, no less money, items
-- or days. A name is a list of its bytes.
use Rattle.std.specs.Prelude.{◌≢◌, ℕ, ◌==◌, Bool, true, false, not, List, [], ◌∷◌, Option, Some, None, if◌then◌else◌}
use Rattle.std.specs.FinMap.{get}
use Rattle.atl_world.specs.Worlds.{WorldValue}
use Rattle.atl_lines.specs.declared.order.NameKind.{NameKind}
use Rattle.atl_lines.specs.declared.order.NameKind.TheVariants as kinds
use Rattle.atl_lines.specs.declared.order.Operands.TheVariants as operands
use Rattle.atl_world.specs.declared.verb.Verb.{Verb}
use Rattle.atl_world.specs.declared.verb.Verb.TheVariants as verbs
use Rattle.atl_lines.specs.Orders.{OperandsValue}
use Rattle.atl_records.specs.declared.event.EventFault.{EventFault}
use Rattle.atl_records.specs.declared.event.EventFault.TheVariants.{NotInside, NotOwner}
use Rattle.atl_records.specs.declared.event.Outcome.{Outcome}
use Rattle.atl_records.specs.declared.event.Outcome.TheVariants.{Done}
use Rattle.atl_records.specs.declared.records.Structure.{Structure}
use Rattle.atl_campaign.specs.Good.{is_ship}
use Rattle.atl_campaign.specs.Campaign.{CampaignValue, with_faction_name, with_guard, with_structure_name, with_unit_name}
use Rattle.atl_phase.specs.Outcomes.{fault_or, first_fault}
use Rattle.atl_phase.specs.NoWorse.{IsNoWorse}
use Rattle.atl_phase.specs.OrderEffects.{Affects, IsOwnOrder, OrderEffect, OrderMeaning}
use Rattle.atl_phase.specs.PhaseSpecs.{PhaseSpec, goes_by_orders}

-- whether a verb is NAME or GUARD
abbrev pub is_naming : Verb → Bool
is_naming verbs.Name = true
is_naming verbs.Guard = true
is_naming verb = false

-- whether a structure is of the sort asked for: a ship where `ship` is true, and a building otherwise
abbrev pub is_structure_of_kind : WorldValue → (ship : Bool) → Structure → Bool
is_structure_of_kind w ship s = if ship then is_ship w s else not (is_ship w s)

-- Why unit n can't name the ship (where `ship` is true) or the building that it is inside; None where it can. It is
-- NotInside where what it is inside (None: nothing) is no such structure, else NotOwner where n doesn't own it.
abbrev pub structure_fault : WorldValue → ℕ → (ship : Bool) → Option Structure → Option EventFault
structure_fault w n ship None = Some NotInside
structure_fault w n ship (Some s) = first_fault ((not (is_structure_of_kind w ship s), NotInside) ∷ (not (s.owner == n), NotOwner) ∷ [])

-- The campaign and the outcome as unit n gives a name to the ship (where `ship` is true) or the building, of number
-- `inside`, that it is inside. The outcome is Done with 0, or a fault (`structure_fault`), with which nothing changes.
abbrev pub structure_name_result : WorldValue → CampaignValue → (n inside : ℕ) → (ship : Bool) → List ℕ → CampaignValue × Outcome
structure_name_result w c n inside ship name =
    fault_or c (structure_fault w n ship (get c.structures inside)) (with_structure_name c inside name, Done 0)

-- The campaign and the outcome after an order of NAME by unit n. By the kind of name, the unit or its faction gets it,
-- Done with 0; or the structure `inside` (0: none), which the unit is inside, as `structure_name_result` says.
abbrev pub name_result : WorldValue → CampaignValue → (n faction inside : ℕ) → NameKind → List ℕ → CampaignValue × Outcome
name_result w c n f s kinds.Unit name = (with_unit_name c n name, Done 0)
name_result w c n f s kinds.Faction name = (with_faction_name c f name, Done 0)
name_result w c n f s kinds.Building name = structure_name_result w c n s false name
name_result w c n f s kinds.Ship name = structure_name_result w c n s true name

-- The effect of NAME, Done with 0: unit n, its faction, or the structure that it is inside gets the name, as the kind
-- of name says. The structure alone may have a fault (`structure_fault`), and then nothing changes.
abbrev pub naming : WorldValue → (n : ℕ) → NameKind → List ℕ → OrderEffect
naming w n what name c u = name_result w c n u.faction u.structure what name

-- the effect of GUARD 0, Done with 0: the guard flag of unit n is cleared
abbrev pub leave_guard : (n : ℕ) → OrderEffect
leave_guard n c u = (with_guard c n false, Done 0)

-- the effect of an order of NAME or GUARD 0 for unit n, by its operands; None for operands of any other form, as those
-- of GUARD 1, which this phase passes over
abbrev pub name_effect : WorldValue → (n : ℕ) → OperandsValue → Option OrderEffect
name_effect w n (operands.Name what name) = Some (naming w n what name)
name_effect w n (operands.Flag false) = Some (leave_guard n)
name_effect w n other = None

-- what the phase does at one order: the effect of NAME or GUARD 0; None for any other operands, as those of GUARD 1
abbrev pub name_step : OrderMeaning
name_step w a t = name_effect w t.unit t.order_value.operands

-- an order affects a unit if the unit's own faction wrote it for the unit, and it isn't GUARD 1
abbrev pub name_affects : Affects
name_affects t number faction = IsOwnOrder t number faction × (t.order_value.operands ≢ operands.Flag true)

-- The specification of the phase of NAME and GUARD 0: it carries its orders out one by one, and books nothing. A unit
-- for which no NAME or GUARD 0 of its own faction counts is still there, and no worse off.
abbrev pub name_spec : PhaseSpec
name_spec = goes_by_orders name_step is_naming name_affects IsNoWorse
