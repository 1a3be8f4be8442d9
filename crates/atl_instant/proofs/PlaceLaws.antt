-- Laws of LEAVE, ENTER and PROMOTE: the campaign stays early, and a unit is no worse off unless its own faction wrote
-- one of these orders for it. A unit is no worse off (`IsNoWorse`) with the same faction, region, structure, name and
-- guard flag, and no fewer men, no less money, items or days.
use Rattle.std.proofs.Common.{◌≡◌, ◌≢◌, ◌==◌, ℕ, Bool, true, false, not, [], ◌∷◌, Option, Some, None, refl, sym, ap, ◌∙◌, arith}
use Rattle.std.proofs.lemmas.Bool.{true≢false}
use Rattle.std.specs.Prelude.{IfSome, if◌then◌else◌}
use Rattle.std.specs.Option.{option_map_or}
use Rattle.std.specs.FinMap.{get}
use Rattle.atl_world.specs.Worlds.{WorldValue}
use Rattle.atl_world.specs.ByNumber.{is_land_at}
use Rattle.atl_world.proofs.GeneralLaws.{is_equal, is_unequal}
use Rattle.atl_lines.specs.declared.order.Operands.TheVariants as operands
use Rattle.atl_orders.specs.Bounds.{AreOperandsOf}
use Rattle.atl_lines.specs.Orders.{OperandsValue}
use Rattle.atl_records.specs.declared.event.EventFault.TheVariants.{AtSea, NotHere, NotInside, NotOwner}
use Rattle.atl_records.specs.declared.event.Outcome.TheVariants.{Done}
use Rattle.atl_records.specs.declared.records.Structure.{Structure}
use Rattle.atl_records.specs.declared.records.Unit.{Unit}
use Rattle.atl_campaign.specs.Good.{IsEarly, IsOwned}
use Rattle.atl_campaign.specs.Owners.{is_owned_by, with_place}
use Rattle.atl_campaign.specs.Campaign.{CampaignValue, with_owner}
use Rattle.atl_campaign.proofs.LeavingLaws.{owned_by}
use Rattle.atl_phase.specs.Inside.{structure_of_unit}
use Rattle.atl_phase.specs.PhaseOrders.{unit_of}
use Rattle.atl_phase.specs.NoWorse.{IsNoWorse}
use Rattle.atl_phase.specs.OrderEffects.{IsOwnOrder}
use Rattle.atl_phase.specs.Bounds.{IsOrderly, StepsWell, nothing_remaining}
use Rattle.atl_phase.specs.Unbooked.{moves_nothing}
use Rattle.atl_phase.proofs.MeaningLaws.{same_month_by}
use Rattle.atl_phase.proofs.PlacingLaws.{place_stays, place_well}
use Rattle.atl_phase.proofs.RefitLaws.{IsRelabelled, early-relabelled}
use Rattle.atl_phase.proofs.StructureLaws.{at_number, get-changed, len-changed}
use Rattle.atl_phase.proofs.OutcomeLaws.{none_fits, not_apart}
use Rattle.atl_phase.proofs.UnbookedLaws.{same_total_of, unbooked_well}
use Rattle.atl_instant.specs.Place.{enter, with_unit_inside, is_structure_in, leave, leave_fault, enter_fault, place_effect, place_step, promote_fault, promote}
use Rattle.atl_instant.proofs.EffectLaws.{OrderKeeps, StepKeeps, keeps_all, keeps_others, keeps_unless, orderly_by}

-- what an order of LEAVE, ENTER or PROMOTE for unit n (u) of campaign c keeps (`OrderKeeps`), if it fits the world
-- (`fit`)
module _ (fit : Type 0) (w : WorldValue) (c : CampaignValue) (n : ℕ) (u : Unit) (is : get c.units n ≡ Some u) where
  abbrev KeepsOthersByPlace : CampaignValue → Type 0
  KeepsOthersByPlace d = OrderKeeps IsEarly fit w c n u.faction d

  left : KeepsOthersByPlace (leave w n c u).0
  unfolding leave
  left =
      keeps_unless w c n u.faction (leave_fault w u) (with_place c n u.region 0) (Done 0) (λ none.
      let some = none_fits (u.structure == 0) NotInside ((not (is_land_at w u.region), AtSea) ∷ []) none in
      let dry = none_fits (not (is_land_at w u.region)) AtSea [] some.1 in
      keeps_others w c n u.faction (with_place c n u.region 0)
      (λ early fits. place_well w c n u 0 is early (λ out. is_unequal u.structure 0 some.0 out) (λ not_none. absurd (not_none refl)) (λ wet. absurd (true≢false (sym (ap not wet) ∙ dry.0))))
      (λ k apart. place_stays c n u.region 0 k apart))

  -- ---- ENTER

  entered_by : (s : ℕ) (o : Option Structure) → get c.structures s ≡ o → (b : Bool) → (u.structure == s) ≡ b
      → not (is_structure_in u.region o) ≡ false → KeepsOthersByPlace (if b then c else with_place c n u.region s)
  entered_by s None there b same near = absurd (true≢false near)
  entered_by s (Some x) there true same near = keeps_all w c n u.faction
  entered_by s (Some x) there false same near =
      let here = not_apart x.region u.region near in
      keeps_others w c n u.faction (with_place c n u.region s)
      (λ early fits. place_well w c n u s is early (λ inside. is_unequal u.structure s same inside) (λ some. (x, there, here)) (λ wet. (x, there, (early.steady.water.structures s x there (ap (is_land_at w) here ∙ wet)).0)))
      (λ k apart. place_stays c n u.region s k apart)

  entered : (s : ℕ) → KeepsOthersByPlace (enter n s c u).0
  unfolding enter
  entered s =
      keeps_unless w c n u.faction (enter_fault c s u) (with_unit_inside c n u.region u.structure s) (Done 0) (λ none.
      entered_by s (get c.structures s) refl (u.structure == s) refl (none_fits (not (is_structure_in u.region (get c.structures s))) NotHere [] none).0)

  -- ---- PROMOTE

  -- if the structure that unit `to` is inside (0 where there is no such unit) is that of unit n, and isn't 0, unit
  -- `to` is there, and inside the same structure
  inside_to : (to : ℕ) (o : Option Unit) → get c.units to ≡ o
      → option_map_or (λ (x : Unit). x.structure) o 0 ≡ u.structure → u.structure ≢ 0
      → (v : Unit) × (get c.units to ≡ Some v) × (v.structure ≡ u.structure)
  inside_to to None there same some = absurd (some (sym same))
  inside_to to (Some v) there same some = (v, there, same)

  owner_well : (to : ℕ) → u.structure ≢ 0 → structure_of_unit c to ≡ u.structure → IsEarly w c
      → StepsWell IsEarly nothing_remaining w c (with_owner c u.structure to)
  owner_well to some near early =
      unbooked_well w c (with_owner c u.structure to)
      (early-relabelled w c n u is _ (at_number (owned_by to) c.structures u.structure) (get-changed (owned_by to) c.structures u.structure) (len-changed (owned_by to) c.structures u.structure)
      (λ q y there. relabelled y (q == u.structure)) (λ q y there. owned q y (q == u.structure) refl (early.steady.owners q y there)) early)
      (same_month_by refl) refl (same_total_of c (with_owner c u.structure to) refl refl)
    where
      relabelled : (y : Structure) (b : Bool) → IsRelabelled y (if b then owned_by to y else y)
      relabelled y true = record { kind = refl; region = refl; done = refl; name = λ old. old }
      relabelled y false = record { kind = refl; region = refl; done = refl; name = λ old. old }

      owned : (q : ℕ) (y : Structure) (b : Bool) → (q == u.structure) ≡ b → IsOwned c q y
          → IsOwned c q (if b then owned_by to y else y)
      owned q y true here old =
          let (v, there, within) = inside_to to (get c.units to) refl near some in
          record {
            owned = λ given. (v, there, within ∙ sym (is_equal q u.structure here));
            ownerless = λ none. let least = (early.steady.numbers.units to v there).0 in absurd (omega (arith, none, least));
          }
      owned q y false here old = old

  promoted : (to : ℕ) → KeepsOthersByPlace (promote n to c u).0
  unfolding promote
  promoted to =
      let owns = is_owned_by (get c.structures u.structure) n in
      let with_it = structure_of_unit c to == u.structure in
      keeps_unless w c n u.faction (promote_fault c n to u) (with_owner c u.structure to) (Done 0) (λ none.
      let one = none_fits (u.structure == 0) NotInside ((not owns, NotOwner) ∷ (not with_it, NotHere) ∷ []) none in
      let two = none_fits (not owns) NotOwner ((not with_it, NotHere) ∷ []) one.1 in
      let near = not_apart (structure_of_unit c to) u.structure (none_fits (not with_it) NotHere [] two.1).0 in
      keeps_others w c n u.faction (with_owner c u.structure to) (λ early fits. owner_well to (is_unequal u.structure 0 one.0) near early) (λ k apart. refl))

-- ---- the phase

-- Each order of LEAVE, ENTER or PROMOTE for a unit of its writer's faction leaves other units no worse off, and those
-- of other factions exactly their men. If it can be read with the world, it keeps an early campaign early, its month
-- and its balance, and books nothing (`StepKeeps`).
pub place_keeps : StepKeeps IsEarly place_step
place_keeps w a c t x own = by_operands t.order_value.operands
  where
    by_operands : (o : OperandsValue)
        → IfSome (place_effect w a t.faction t.unit o) (λ effect. OrderKeeps IsEarly (AreOperandsOf w o) w c t.unit x.faction (effect c x).0)
    by_operands operands.Nothing = left (AreOperandsOf w operands.Nothing) w c t.unit x own.there
    by_operands (operands.Number s) = entered (AreOperandsOf w (operands.Number s)) w c t.unit x own.there s
    by_operands (operands.Unit to) =
        promoted (AreOperandsOf w (operands.Unit to)) w c t.unit x own.there (unit_of a t.faction to)
    by_operands other = tt

-- In an early campaign a LEAVE, ENTER or PROMOTE for a unit of its writer's faction leaves no other unit worse off. If
-- it can be read with the world, the campaign stays early, in its month and in balance, and nothing is booked.
pub place_orderly : IsOrderly place_step IsEarly nothing_remaining moves_nothing IsOwnOrder IsNoWorse
place_orderly = orderly_by place_keeps (λ w a t n f own other. absurd (other own))
