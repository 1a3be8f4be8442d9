-- Laws of MOVE and SAIL, which keep the mailings and take back no Starved event. If a phase keeps what its
-- specification says, each unit of a faction without a mailing is still there after it (`PhaseLeavesUnmailed`). It has
-- its faction and name, no less of any item, and its men less the starved whom its Starved events report: none.
use Rattle.std.proofs.Common.{ℕ, false, refl}
use Rattle.std.specs.Prelude.{fold, unwrap_or}
use Rattle.std.specs.FinMap.{get}
use Rattle.atl_world.specs.Worlds.{WorldValue}
use Rattle.atl_world.specs.declared.direction.Direction.{Direction}
use Rattle.atl_world.specs.ByNumber.{neighbour}
use Rattle.atl_records.specs.declared.event.Outcome.TheVariants.{Done}
use Rattle.atl_records.specs.declared.records.Unit.{Unit}
use Rattle.atl_campaign.specs.Owners.{with_place}
use Rattle.atl_campaign.specs.Campaign.{CampaignValue, numbers_inside, with_guard, with_structure_region}
use Rattle.atl_action.specs.Sail.{IsAtMostMoved, after_sailing, is_sailing, sail, sail_fault, sail_spec, sail_step}
use Rattle.atl_action.specs.Walk.{is_walking, walk, walk_fault, walk_spec, walk_step, with_unit_moved}
use Rattle.atl_action.proofs.WalkLaws.{in_each_direction}
use Rattle.atl_phase.proofs.PhaseSpecLaws.{PhaseLeavesUnmailed}
use Rattle.atl_phase.proofs.UnmailedLaws.{HasItsItems, HaveTheirMen, OthersHaveMen, LeavesOthersMen, carried_leaves, guard_men, items_of_no_worse, men_in_turn, men_same, men_twice, men_unless, others_men, own_faction, place_men, unmailed_keep_items}

gone_men : (c : CampaignValue) (n r s : ℕ) → HaveTheirMen c (with_guard (with_place c n r s) n false)
gone_men c n r s = let there = with_place c n r s in men_twice c there (with_guard there n false) (place_men c n r s) (guard_men there n false)

-- ---- MOVE

walk_men : (w : WorldValue) (c : CampaignValue) (n : ℕ) (u : Unit) (direction : Direction)
    → HaveTheirMen c (walk w n direction c u).0
unfolding walk
walk_men w c n u direction =
    let to = neighbour w u.region direction in
    men_unless c (with_unit_moved 0 (unwrap_or to 0) c n) (Done 0) (walk_fault w u to) (gone_men c n (unwrap_or to 0) 0)

walk_leaves_men : LeavesOthersMen walk_step
walk_leaves_men w a c t x own =
    in_each_direction (λ effect. OthersHaveMen t.faction c (effect c x).0) (walk w t.unit) t.order_value.operands (λ direction. others_men t.faction c (walk w t.unit direction c x).0 (walk_men w c t.unit x direction))

-- MOVE leaves units of factions without a mailing their names and items, and their men less the starved
pub walk_leaves : PhaseLeavesUnmailed walk_spec
walk_leaves =
    carried_leaves walk_step is_walking walk_leaves_men (unmailed_keep_items is_walking own_faction items_of_no_worse)

-- ---- SAIL

sailed_men : (c : CampaignValue) (ship to : ℕ) → HaveTheirMen c (after_sailing c ship to)
unfolding after_sailing
sailed_men c ship to =
    let ns = numbers_inside ship c.units in
    let gone = fold (with_unit_moved ship to) c ns in
    men_twice c gone (with_structure_region gone ship to) (men_in_turn (with_unit_moved ship to) (λ d n. gone_men d n to ship) c ns) (men_same gone (with_structure_region gone ship to) refl)

sail_men : (w : WorldValue) (c : CampaignValue) (n : ℕ) (u : Unit) (direction : Direction)
    → HaveTheirMen c (sail w n direction c u).0
unfolding sail
sail_men w c n u direction =
    let to = neighbour w u.region direction in
    men_unless c (after_sailing c u.structure (unwrap_or to 0)) (Done 0) (sail_fault w c n u (get c.structures u.structure) to) (sailed_men c u.structure (unwrap_or to 0))

sail_leaves_men : LeavesOthersMen sail_step
sail_leaves_men w a c t x own =
    in_each_direction (λ effect. OthersHaveMen t.faction c (effect c x).0) (sail w t.unit) t.order_value.operands (λ direction. others_men t.faction c (sail w t.unit direction c x).0 (sail_men w c t.unit x direction))

items_of_carried : (u v : Unit) → IsAtMostMoved u v → HasItsItems u v
items_of_carried u v h = record { name = h.name; items = h.items }

-- SAIL leaves units of factions without a mailing their names and items, and their men less the starved
pub sail_leaves : PhaseLeavesUnmailed sail_spec
sail_leaves =
    carried_leaves sail_step is_sailing sail_leaves_men
    (λ w c d m keeps n u there none. let one = keeps.0 n u there in record { unit = one.unit; there = one.there; is_unaffected = items_of_carried u one.unit one.is_unaffected })
