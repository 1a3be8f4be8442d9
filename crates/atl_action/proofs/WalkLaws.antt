-- Laws of MOVE: a campaign stays steady, and a unit without an own order of MOVE (one from its faction) is no worse
-- off. It has the same faction, region, structure, name and guard flag, and no less men, money, items or days
-- (`IsNoWorse`). A walk out of a structure has two handovers: of this structure to its next owner, and of structure 0,
-- which isn't there.
use Rattle.std.proofs.Common.{◌≡◌, ◌≢◌, ◌==◌, ◌&&◌, ℕ, ◌≤◌, Bool, true, false, not, List, [], ◌∷◌, Option, Some, None, refl, sym, ap, subst, ◌∙◌, arith}
use Rattle.std.specs.Prelude.{IfSome, nat_lt, option_map, unwrap_or, if◌then◌else◌}
use Rattle.std.specs.List.{AllByRecursion}
use Rattle.std.specs.Option.{option_map_or}
use Rattle.std.proofs.lemmas.Iterator.Adapters.{option_map_id}
use Rattle.std.specs.Ordering.{nat_cmp}
use Rattle.std.specs.FinMap.{FinMap, get, len}
use Rattle.std.proofs.lemmas.Bool.{not-false, true≢false, eq-eqb}
use Rattle.std.proofs.lemmas.Option.{same_Some}
use Rattle.atl_world.specs.Worlds.{WorldValue, is_land}
use Rattle.atl_world.specs.declared.world.RegionPlan.{RegionPlan}
use Rattle.atl_world.specs.declared.direction.Direction.{Direction}
use Rattle.atl_world.specs.ByNumber.{is_land_at, neighbour}
use Rattle.atl_world.proofs.GeneralLaws.{is_equal, is_unequal}
use Rattle.atl_lines.specs.declared.order.Operands.TheVariants as operands
use Rattle.atl_lines.specs.Orders.{OperandsValue}
use Rattle.atl_records.specs.declared.event.EventFault.{EventFault}
use Rattle.atl_records.specs.declared.event.EventFault.TheVariants.{AtSea, NoMen, NoWay, TooHeavy}
use Rattle.atl_records.specs.declared.event.Outcome.TheVariants.{Done}
use Rattle.atl_records.specs.declared.records.Structure.{Structure}
use Rattle.atl_records.specs.declared.records.Unit.{Unit}
use Rattle.atl_world.specs.Every.{Every, HasValue}
use Rattle.atl_campaign.specs.Good.{IsOwned, IsSteady, is_ship}
use Rattle.atl_records.specs.Levels.{carried_by, goods_weight}
use Rattle.atl_campaign.specs.Owners.{after_handover, heir, with_position, with_place, with_place_at}
use Rattle.atl_campaign.specs.Campaign.{CampaignValue, with_guard}
use Rattle.atl_world.proofs.EveryLaws.{none_some, other_number}
use Rattle.atl_campaign.proofs.LeavingLaws.{owned_by}
use Rattle.atl_phase.specs.Outcomes.{fault_or, first_fault}
use Rattle.atl_phase.specs.NoWorse.{IsNoWorse}
use Rattle.atl_phase.specs.OrderEffects.{IsOwnOrder, OrderEffect}
use Rattle.atl_phase.specs.Bounds.{IsOrderly, StepsWell, nothing_remaining}
use Rattle.atl_phase.specs.Unbooked.{moves_nothing}
use Rattle.atl_phase.proofs.MeaningLaws.{same_month_by}
use Rattle.atl_phase.proofs.OutcomeLaws.{false_true, none_fits}
use Rattle.atl_phase.proofs.OwnerLaws.{heir_owns, owner_stays}
use Rattle.atl_phase.proofs.PlacingLaws.{mapped_twice, owns_no_other, place_stays}
use Rattle.atl_phase.proofs.StructureLaws.{changed_else, get-after_handover, get-changed, handed_is, handed_on, len-after_handover}
use Rattle.atl_phase.proofs.OrderEffectLaws.{no_worse_is_relation, well_same}
use Rattle.atl_phase.proofs.UnbookedLaws.{unchanged_is_no_worse, stays_well}
use Rattle.atl_action.specs.Walk.{by_direction, is_land_there, walk, walk_fault, walk_step, with_unit_moved}
use Rattle.atl_action.proofs.PeopleLaws.{AreSamePeople, elsewhere, elsewhere_is, elsewhere_people, put_elsewhere, put_elsewhere_if, put_elsewhere_same, guards_stay, total_people}
use Rattle.atl_action.proofs.TravelLaws.{AreTravelled, IsPut, IsSameStructure, steady-travelled, travelled}

-- a region that is land is in the world
pub land_is_there : (w : WorldValue) (r : ℕ) → is_land_at w r ≡ true → HasValue w.regions r
land_is_there w r land = by_plan (get w.regions r) refl land
  where
    by_plan : (o : Option RegionPlan) → get w.regions r ≡ o → option_map_or (is_land w.terrains) o false ≡ true
        → HasValue w.regions r
    by_plan None is dry = false_true dry
    by_plan (Some p) is dry = (p, is)

-- unit `n` is `u` in the steady campaign `c` before its walk; `to` is the number of the land region that it walks to
module _ (w : WorldValue) (c : CampaignValue) (n : ℕ) (u : Unit) (to : ℕ) (is : get c.units n ≡ Some u) (steady : IsSteady w c) (land : is_land_at w to ≡ true) where
  abbrev old_place : ℕ
  old_place = u.structure

  -- the next owner of the structure that unit n leaves; 0 where no other unit is inside
  abbrev next : ℕ
  next = heir c old_place n

  abbrev units : FinMap nat_cmp Unit
  units = elsewhere 0 to c.units n

  -- unit k after unit n walked: if k is n, in region `to`, outside structures, with its flag cleared; else as it was
  abbrev f : ℕ → Unit → Unit
  f k = put_elsewhere_if 0 to (k == n)

  -- ---- the units

  same_people : AreSamePeople c.units units
  same_people = elsewhere_people 0 to c.units n

  units_at : (k : ℕ) → get units k ≡ option_map (f k) (get c.units k)
  units_at = get-changed (put_elsewhere 0 to) c.units n

  here : get units n ≡ Some (put_elsewhere 0 to u)
  here = units_at n ∙ ap (option_map (f n)) is ∙ ap (λ b. Some (put_elsewhere_if 0 to b u)) (eq-eqb n n refl)

  away : (k : ℕ) → k ≢ n → get units k ≡ get c.units k
  away k apart =
      units_at k ∙ ap (λ b. option_map (put_elsewhere_if 0 to b) (get c.units k)) (other_number k n apart)
      ∙ option_map_id (get c.units k)

  outside : (v : Unit) → get units n ≡ Some v → v.structure ≡ 0
  outside v there = sym (ap (λ (x : Unit). x.structure) (same_Some (put_elsewhere 0 to u) v (sym here ∙ there)))

  -- ---- the structures

  low : Every (λ k v. 1 ≤ k) c.units
  low k v there = (steady.numbers.units k v there).0

  not_first : (q : ℕ) (y : Structure) → get c.structures q ≡ Some y → q ≢ 0
  not_first q y there zero = none_some y (sym steady.next.structures.first ∙ ap (get c.structures) (sym zero) ∙ there)

  -- the structures after the walk, by their numbers
  module _ (structures : FinMap nat_cmp Structure) where
    -- the campaign with the given structures after the walk: unit n is in region `to`, inside no structure, with its
    -- guard flag cleared
    abbrev after : CampaignValue
    after = travelled w c units structures f (λ q y. y)

    still_owned : (q : ℕ) (y : Structure) → get c.structures q ≡ Some y → y.owner ≢ n → IsOwned after q y
    still_owned q y there other =
        owner_stays c after n away q y (steady.owners q y there) other
        (λ none v at inside. not_first q y there (sym inside ∙ outside v at))

    -- The structure that unit n left, given to its next owner, has its right owner after the walk: the lowest of the
    -- other units inside, or none.
    left_owned : old_place ≢ 0 → (y : Structure) → IsOwned after old_place (owned_by next y)
    left_owned some = heir_owns c after n away old_place some low (λ v at inside. some (sym inside ∙ outside v at))

    -- `g` makes the structures after the walk, by number, of those before. Each keeps all but its owner, and is then
    -- owned by a unit inside, or by nobody where no unit is inside.
    module _ (g : ℕ → Structure → Structure) (at : (k : ℕ) → get structures k ≡ option_map (g k) (get c.structures k)) (count : len structures ≡ len c.structures)
        (same : Every (λ k y. IsSameStructure y (g k y) × ((g k y).region ≡ y.region)) c.structures) (owned : Every (λ k y. IsOwned after k (g k y)) c.structures) where
      forth : (k : ℕ) (y : Structure) → get c.structures k ≡ Some y → get structures k ≡ Some (g k y)
      forth k y there = at k ∙ ap (option_map (g k)) there

      put_by : (k : ℕ) (x : Unit) → get c.units k ≡ Some x → (b : Bool)
          → IsPut w c units structures f g (put_elsewhere_if 0 to b x)
      put_by k x there true =
          record { region = (steady.known.regions to).1 (land_is_there w to land); structure = λ some. absurd (some refl) }
      put_by k x there false =
          let p = steady.known.units k x there in
          record { region = p.region; structure = λ some. let (s, was, near) = p.structure some in (g x.structure s, forth x.structure s was, (same x.structure s was).1 ∙ near) }

      aboard_by : (k : ℕ) (x : Unit) → get c.units k ≡ Some x → (b : Bool)
          → is_land_at w (put_elsewhere_if 0 to b x).region ≡ false
          → (s : Structure) × (get structures (put_elsewhere_if 0 to b x).structure ≡ Some s) × (is_ship w s ≡ true)
      aboard_by k x there true wet = absurd (true≢false (sym land ∙ wet))
      aboard_by k x there false wet =
          let (s, was, ship) = steady.water.units k x there wet in
          (g x.structure s, forth x.structure s was, rw (same x.structure s was).0.kind ship)

      walked_travelled : AreTravelled w c units structures f g
      walked_travelled = record {
        units_at = units_at;
        structures_at = at;
        unit_count = same_people.count;
        structure_count = count;
        of_factions = same_people.of_factions;
        same_units = λ k x there. put_elsewhere_same 0 to (k == n) x;
        same_structures = λ k y there. (same k y there).0;
        put = λ k x there. put_by k x there (k == n);
        built = λ k y there. rw (same k y there).1 ((steady.known.structures k y there).region);
        owned = λ k y there. owned k y there;
        aboard = λ k x there. aboard_by k x there (k == n);
        afloat = λ k y there wet. steady.water.structures k y there (ap (is_land_at w) (sym (same k y there).1) ∙ wet);
        guarding = λ k x there. guards_stay 0 to (k == n) x;
      }

      -- A walk keeps a steady campaign steady and balanced books balanced (`StepsWell`), and the month, the reports and
      -- the set of factions stay. This supposes that each structure keeps all but its owner, and has its right owner.
      after_well : StepsWell IsSteady nothing_remaining w c after
      after_well =
          stays_well IsSteady w c after (steady-travelled w c units structures f g walked_travelled steady)
          (same_month_by refl) refl (total_people c after same_people refl)

  unowned : old_place ≡ 0 → (q : ℕ) (y : Structure) → get c.structures q ≡ Some y → IsOwned (after c.structures) q y
  unowned outside q y there =
      still_owned c.structures q y there
      (owns_no_other w c n u is steady q y there (λ same. not_first q y there (same ∙ outside)))

  outside_well : old_place ≡ 0 → StepsWell IsSteady nothing_remaining w c (after c.structures)
  outside_well outside =
      after_well c.structures (λ q y. y) (λ k. sym (option_map_id (get c.structures k))) refl
      (λ q y there. (record { kind = refl; done = refl; name = refl }, refl)) (unowned outside)

  -- ---- a unit that leaves a structure

  -- the campaign with the unit in region `to`, before owners change
  abbrev begun : CampaignValue
  begun = with_position c n to 0

  -- the campaign after the structure that the unit left got its next owner
  abbrev gone_out : CampaignValue
  gone_out = after_handover begun old_place n next

  -- the campaign after a further handover, of structure 0, which isn't there
  abbrev gone_off : CampaignValue
  gone_off = after_handover gone_out 0 0 n

  -- A structure with its owner after both handovers. Tests `a` and `b` say whether its number is that of the structure
  -- which the unit left, and whether it is 0; `e`, whether the unit owned it.
  abbrev with_both_handovers : (a e b : Bool) → Structure → Structure
  with_both_handovers a e b y = let x = if a && e then owned_by next y else y in if b && x.owner == 0 then owned_by n x else x

  given_same : (a e b : Bool) (y : Structure) → b ≡ false
      → IsSameStructure y (with_both_handovers a e b y) × ((with_both_handovers a e b y).region ≡ y.region)
  given_same true true b y high = rw high (record { kind = refl; done = refl; name = refl }, refl)
  given_same true false b y high = rw high (record { kind = refl; done = refl; name = refl }, refl)
  given_same false e b y high = rw high (record { kind = refl; done = refl; name = refl }, refl)

  given_owned : old_place ≢ 0 → (q : ℕ) (y : Structure) → get c.structures q ≡ Some y → (a e b : Bool)
      → (q == old_place) ≡ a → (y.owner == n) ≡ e → b ≡ false
      → IsOwned (after gone_off.structures) q (with_both_handovers a e b y)
  given_owned some q y there true true b p r high =
      rw high
      (subst (λ k. IsOwned (after gone_off.structures) k (owned_by next y)) (sym (is_equal q old_place p)) (left_owned gone_off.structures some y))
  given_owned some q y there true false b p r high =
      rw high (still_owned gone_off.structures q y there (is_unequal y.owner n r))
  given_owned some q y there false e b p r high =
      rw high
      (still_owned gone_off.structures q y there (owns_no_other w c n u is steady q y there (is_unequal q old_place p)))

  given_at : (q : ℕ)
      → get gone_off.structures q
      ≡ option_map (λ y. handed_on 0 0 n q (handed_on old_place n next q y)) (get c.structures q)
  given_at q =
      get-after_handover gone_out 0 0 n q
      ∙ ap (option_map (handed_on 0 0 n q)) (get-after_handover begun old_place n next q)
      ∙ mapped_twice (handed_on 0 0 n q) (handed_on old_place n next q) (get c.structures q)

  inside_well : old_place ≢ 0 → StepsWell IsSteady nothing_remaining w c (after gone_off.structures)
  inside_well some =
      after_well gone_off.structures (λ q y. handed_on 0 0 n q (handed_on old_place n next q y)) given_at
      (len-after_handover gone_out 0 0 n ∙ len-after_handover begun old_place n next)
      (λ q y there. given_same (q == old_place) (y.owner == n) (q == 0) y (other_number q 0 (not_first q y there)))
      (λ q y there. given_owned some q y there (q == old_place) (y.owner == n) (q == 0) refl refl (other_number q 0 (not_first q y there)))

  off_is : gone_off ≡ record begun { structures = gone_off.structures }
  off_is =
      handed_is gone_out 0 0 n
      ∙ ap (λ (d : CampaignValue). record d { structures = gone_off.structures }) (handed_is begun old_place n next)

  -- ---- both

  by_place : (b : Bool) → (old_place == 0) ≡ b
      → StepsWell IsSteady nothing_remaining w c (with_guard (if b then begun else gone_off) n false)
  by_place true t =
      subst (StepsWell IsSteady nothing_remaining w c) (sym (elsewhere_is 0 to c n))
      (outside_well (is_equal old_place 0 t))
  by_place false t =
      subst (λ d. StepsWell IsSteady nothing_remaining w c (with_guard d n false)) (sym off_is)
      (subst (λ (d : CampaignValue). StepsWell IsSteady nothing_remaining w c (record d { structures = gone_off.structures })) (sym (elsewhere_is 0 to c n)) (inside_well (is_unequal old_place 0 t)))

  -- If unit `n` walks to region `to`, which is land, a steady campaign stays steady, with the same month, reports and
  -- set of factions. The books stay in balance, and nothing is booked (`StepsWell`).
  pub walked_well : StepsWell IsSteady nothing_remaining w c (with_unit_moved 0 to c n)
  unfolding with_place
  walked_well =
      subst (λ o. StepsWell IsSteady nothing_remaining w c (with_guard (with_place_at c n to 0 o) n false)) (sym is)
      (by_place (old_place == 0) refl)

-- ---- an order

-- if a list gives no fault (`first_fault`), none of its tests is true
pub none_fit : (faults : List (Bool × EventFault)) → first_fault faults ≡ None
    → AllByRecursion (λ fault. fault.0 ≡ false) faults
none_fit [] is = tt
none_fit ((fits, fault) ∷ more) is = let (none, others) = none_fits fits fault more is in (none, none_fit more others)

-- A condition P holds of the effect of an order with operands o (`by_direction`), if they name a direction. This
-- supposes that P holds of the effect in each direction.
pub in_each_direction : (P : OrderEffect → Type 0) (effect : Direction → OrderEffect) (o : OperandsValue)
    → ((direction : Direction) → P (effect direction)) → IfSome (by_direction effect o) P
in_each_direction P effect (operands.Direction direction) each = each direction
in_each_direction P effect other each = tt

land_to : (w : WorldValue) (to : Option ℕ) → not (is_land_there w to) ≡ false → is_land_at w (unwrap_or to 0) ≡ true
land_to w None dry = false_true (sym dry)
land_to w (Some r) dry = not-false (is_land_at w r) dry

-- A condition P holds of the campaign after an order of MOVE, if it holds of the campaign before, and of the one in
-- which the unit walked
walk_cases : (P : CampaignValue → Type 0) (w : WorldValue) (c : CampaignValue) (n : ℕ) (u : Unit) (direction : Direction)
    → P c → ((to : ℕ) → is_land_at w to ≡ true → P (with_unit_moved 0 to c n)) → P (walk w n direction c u).0
unfolding walk
walk_cases P w c n u direction same gone =
    by_fault (neighbour w u.region direction) (walk_fault w u (neighbour w u.region direction)) refl
  where
    by_fault : (to : Option ℕ) (o : Option EventFault) → walk_fault w u to ≡ o
        → P (fault_or c o (with_unit_moved 0 (unwrap_or to 0) c n, Done 0)).0
    by_fault to (Some fault) e = same
    by_fault to None e =
        let no_way = (not (is_land_there w to), NoWay) ∷ (nat_lt (carried_by w u.holding) (goods_weight w u.holding), TooHeavy) ∷ [] in
        let fine = none_fit ((u.holding.men == 0, NoMen) ∷ (not (is_land_at w u.region), AtSea) ∷ no_way) e in
        gone (unwrap_or to 0) (land_to w to fine.1.1.0)

walk_well : (w : WorldValue) (c : CampaignValue) (n : ℕ) (u : Unit) → get c.units n ≡ Some u → (direction : Direction)
    → IsSteady w c → StepsWell IsSteady nothing_remaining w c (walk w n direction c u).0
walk_well w c n u is direction steady =
    walk_cases (λ d. StepsWell IsSteady nothing_remaining w c d) w c n u direction (well_same w c steady)
    (λ to land. walked_well w c n u to is steady land)

-- ---- other units stay

walk_stays : (w : WorldValue) (c : CampaignValue) (n : ℕ) (u : Unit) (direction : Direction) (k : ℕ) → k ≢ n
    → get (walk w n direction c u).0.units k ≡ get c.units k
walk_stays w c n u direction k apart =
    walk_cases (λ d. get d.units k ≡ get c.units k) w c n u direction refl (λ to land.
    changed_else (λ (x : Unit). record x { holding = record x.holding { guard = false } }) (with_place c n to 0).units n k apart (get (with_place c n to 0).units n) ∙ place_stays c n to 0 k apart)

-- In a steady campaign a MOVE for a unit of its writer's faction leaves no other unit worse off. If it can be read with
-- the world, the campaign stays steady, with the same month, reports and set of factions. Balanced books stay balanced,
-- and nothing is booked.
pub walk_orderly : IsOrderly walk_step IsSteady nothing_remaining moves_nothing IsOwnOrder IsNoWorse
walk_orderly = record {
  well = λ w a c t x steady fit own. in_each_direction (λ effect. StepsWell IsSteady nothing_remaining w c (effect c x).0) (walk w t.unit) t.order_value.operands (λ direction. walk_well w c t.unit x own.there direction steady);
  unaffected_is_relation = no_worse_is_relation;
  is_unaffected = λ w a c t x steady own k v there apart.
      unchanged_is_no_worse (walk_step w a t) c t x own k v there apart
      (λ j other. in_each_direction (λ effect. get (effect c x).0.units j ≡ get c.units j) (walk w t.unit) t.order_value.operands (λ direction. walk_stays w c t.unit x direction j other));
  bounded = λ w c steady e t. omega arith;
}
