-- Laws of SAIL: a ship goes with all units inside, no other unit changes, and the campaign stays steady. A campaign is
-- as begun if it is steady, no unit changed structures since the phase began, and the structure of unit `number` with
-- all units inside is as it was.
use Rattle.std.proofs.Common.{◌≡◌, ◌≢◌, ◌==◌, ◌&&◌, ◌||◌, ℕ, Bool, true, false, not, List, [], ◌∷◌, sum_by, Option, Some, None, refl, sym, ap, subst, ◌∙◌, inl, inr, arith, rules}
use Rattle.std.specs.Prelude.{fold, is_some, nat_lt, option_map, unwrap_or, if◌then◌else◌}
use Rattle.std.specs.List.{AllByRecursion, list_any}
use Rattle.std.specs.Option.{option_map_or}
use Rattle.std.proofs.Math.Bool.{or-true}
use Rattle.std.proofs.lemmas.Iterator.Adapters.{option_map_id}
use Rattle.std.proofs.lemmas.Option.{same_Some}
use Rattle.std.specs.Ordering.{nat_cmp}
use Rattle.std.specs.FinMap.{FinMap, get}
use Rattle.std.proofs.lemmas.Bool.{and_parts, cases_eq, cond_both, false_from_ne_true, not-false, eq-eqb}
use Rattle.std.proofs.lemmas.List.Elements.{recursion_from_All}
use Rattle.std.proofs.lemmas.List.Sums.{sum_by-cons}
use Rattle.atl_world.specs.Worlds.{WorldValue}
use Rattle.atl_world.specs.Sums.{with_changed_value}
use Rattle.atl_world.specs.declared.world.RegionPlan.{RegionPlan}
use Rattle.atl_world.specs.declared.direction.Direction.{Direction}
use Rattle.atl_world.specs.ByNumber.{is_land_at, neighbour, size_of}
use Rattle.atl_world.proofs.GeneralLaws.{is_equal, is_unequal}
use Rattle.atl_lines.specs.declared.order.Operands.TheVariants as operands
use Rattle.atl_lines.specs.Orders.{OperandsValue}
use Rattle.atl_records.specs.declared.event.EventFault.{EventFault}
use Rattle.atl_records.specs.declared.event.EventFault.TheVariants.{NoCrew, NoMen, NotComplete, NotInside, NotOwner, NoWay, TooHeavy}
use Rattle.atl_records.specs.declared.event.Outcome.{Outcome}
use Rattle.atl_records.specs.declared.event.Outcome.TheVariants.{Done, Fault}
use Rattle.atl_records.specs.declared.records.Structure.{Structure}
use Rattle.atl_records.specs.declared.records.Unit.{Unit}
use Rattle.atl_records.specs.Events.{event_fault_number}
use Rattle.atl_world.specs.Every.{Every, HasValue}
use Rattle.atl_campaign.specs.Good.{IsAboard, IsOwned, IsSteady, is_ship}
use Rattle.atl_records.specs.Holdings.{HoldingValue}
use Rattle.atl_records.specs.Levels.{load_of}
use Rattle.atl_campaign.specs.Owners.{after_handover, heir, is_owned_by, with_position, with_place, with_place_at}
use Rattle.atl_campaign.specs.Campaign.{CampaignValue, numbers_inside, with_guard, with_structure_region}
use Rattle.atl_world.proofs.EveryLaws.{other_number}
use Rattle.atl_campaign.proofs.InsideLaws.{inside_is_listed, is_no_zero, listed_is_inside}
use Rattle.atl_campaign.proofs.NumberListLaws.{IsListed}
use Rattle.atl_phase.specs.declared.phase_order.Arrangement.TheVariants.{ByUnit}
use Rattle.atl_phase.specs.Month.{MonthValue}
use Rattle.atl_phase.specs.Inside.{structure_of_unit}
use Rattle.atl_phase.specs.Outcomes.{fault_or}
use Rattle.atl_phase.specs.PhaseOrders.{Task, orders_of}
use Rattle.atl_phase.specs.OrderEffects.{IsStillThere, effect_on, faction_effect, meaning_by_orders, of_faction, one_order, order_result, others_unaffected}
use Rattle.atl_phase.specs.Bounds.{IsOrderly, IsUnaffectedRelation, StepsWell, nothing_remaining}
use Rattle.atl_phase.specs.Unbooked.{moves_nothing}
use Rattle.atl_phase.proofs.MeaningLaws.{same_month_by}
use Rattle.atl_phase.proofs.OutcomeLaws.{false_true}
use Rattle.atl_phase.proofs.RefitLaws.{mapped_from}
use Rattle.atl_phase.proofs.StructureLaws.{at_number, changed_else, get-changed, len-changed}
use Rattle.atl_phase.proofs.OrderEffectLaws.{carried_cases, well_same}
use Rattle.atl_phase.specs.NoWorse.{IsUnchanged}
use Rattle.atl_phase.proofs.UnbookedLaws.{stays_well}
use Rattle.atl_action.specs.Sail.{AreAtMostMoved, IsAtMostMoved, SailsWith, after_sailing, capacity, affects_nobody, crew_needed, crew_of, is_complete_ship, is_sailing, is_way, sail, sail_fault, sail_spec, sail_step, sum_inside}
use Rattle.atl_action.specs.Walk.{by_direction, with_unit_moved}
use Rattle.atl_action.proofs.PeopleLaws.{AreSamePeople, elsewhere, elsewhere_inside, elsewhere_is, elsewhere_people, put_elsewhere, put_elsewhere_if, put_elsewhere_same, guards_stay, people_same, people_twice, total_people}
use Rattle.atl_action.proofs.WalkLaws.{in_each_direction, none_fit}
use Rattle.atl_action.proofs.TravelLaws.{AreTravelled, IsPut, IsSameStructure, steady-travelled, travelled}

abbrev structure_in : Option Unit → ℕ
structure_in o = option_map_or (λ (x : Unit). x.structure) o 0

abbrev number_of_unit : (HoldingValue → ℕ) → Option Unit → ℕ
number_of_unit f o = option_map_or (λ (x : Unit). f x.holding) o 0

-- ---- lists of units

any_listed : (k : ℕ) (ns : List ℕ) → IsListed k ns → list_any (λ n. k == n) ns ≡ true
any_listed k [] listed = absurd listed
any_listed k (n ∷ ns) (inl same) = ap (λ b. b || list_any (λ n. k == n) ns) (eq-eqb k n same)
any_listed k (n ∷ ns) (inr listed) = ap (λ b. (k == n) || b) (any_listed k ns listed) ∙ or-true (k == n)

listed_any : (k : ℕ) (ns : List ℕ) → list_any (λ n. k == n) ns ≡ true → IsListed k ns
listed_any k [] e = false_true e
listed_any k (n ∷ ns) e =
    elim (cases_eq k n) [ inl same ↦ inl same | inr apart ↦ inr (listed_any k ns (ap (λ b. b || list_any (λ n. k == n) ns) (sym (other_number k n apart)) ∙ e)) ]

all_listed : (P : ℕ → Type 0) (ns : List ℕ) → ((k : ℕ) → IsListed k ns → P k) → AllByRecursion P ns
all_listed P [] h = tt
all_listed P (n ∷ ns) h = (h n (inl refl), all_listed P ns (λ k l. h k (inr l)))

-- ---- units that go along

-- the numbers of the ship, a structure, and of the region that it sails to
module _ (ship to : ℕ) where
  all_people : (m : FinMap nat_cmp Unit) (ns : List ℕ) → AreSamePeople m (fold (elsewhere ship to) m ns)
  all_people m [] = people_same m
  all_people m (n ∷ ns) =
      people_twice m (elsewhere ship to m n) (fold (elsewhere ship to) (elsewhere ship to m n) ns)
      (elsewhere_people ship to m n) (all_people (elsewhere ship to m n) ns)

  mapped_both : (a b : Bool) (o : Option Unit)
      → option_map (put_elsewhere_if ship to b) (option_map (put_elsewhere_if ship to a) o) ≡ option_map (put_elsewhere_if ship to (a || b)) o
  mapped_both a b o = grind rules

  -- A look-up of a unit, after the units of a list went along with the ship, finds it gone along if listed, else
  -- unchanged.
  all_at : (m : FinMap nat_cmp Unit) (ns : List ℕ) (k : ℕ)
      → get (fold (elsewhere ship to) m ns) k ≡ option_map (put_elsewhere_if ship to (list_any (λ n. k == n) ns)) (get m k)
  all_at m [] k = sym (option_map_id (get m k))
  all_at m (n ∷ ns) k =
      all_at (elsewhere ship to m n) ns k
      ∙ ap (option_map (put_elsewhere_if ship to (list_any (λ n. k == n) ns))) (get-changed (put_elsewhere ship to) m n k)
      ∙ mapped_both (k == n) (list_any (λ n. k == n) ns) (get m k)

  abbrev IsInside : FinMap nat_cmp Unit → ℕ → Type 0
  IsInside m n = (v : Unit) × (get m n ≡ Some v) × (v.structure ≡ ship)

  one_is : (d : CampaignValue) (n : ℕ) (v : Unit) → get d.units n ≡ Some v → v.structure ≡ ship
      → with_unit_moved ship to d n ≡ record d { units = elsewhere ship to d.units n }
  unfolding with_place
  one_is d n v is here =
      ap (λ o. with_guard (with_place_at d n to ship o) n false) is
      ∙ ap (λ b. with_guard (if b then with_position d n to ship else after_handover (after_handover (with_position d n to ship) v.structure n (heir d v.structure n)) ship 0 n) n false) (eq-eqb v.structure ship here)
      ∙ elsewhere_is ship to d n

  still_inside : (m : FinMap nat_cmp Unit) (n k : ℕ) → IsInside m k → IsInside (elsewhere ship to m n) k
  still_inside m n k (v, there, here) =
      (put_elsewhere_if ship to (k == n) v, get-changed (put_elsewhere ship to) m n k ∙ ap (option_map (put_elsewhere_if ship to (k == n))) there, by_test (k == n))
    where
      by_test : (b : Bool) → (put_elsewhere_if ship to b v).structure ≡ ship
      by_test true = refl
      by_test false = here

  still_all : (m : FinMap nat_cmp Unit) (n : ℕ) (ns : List ℕ) → AllByRecursion (IsInside m) ns
      → AllByRecursion (IsInside (elsewhere ship to m n)) ns
  still_all m n [] all = tt
  still_all m n (k ∷ ns) all = (still_inside m n k all.0, still_all m n ns all.1)

  all_is : (d : CampaignValue) (ns : List ℕ) → AllByRecursion (IsInside d.units) ns
      → fold (with_unit_moved ship to) d ns ≡ record d { units = fold (elsewhere ship to) d.units ns }
  all_is d [] all = refl
  all_is d (n ∷ ns) all =
      let (v, there, here) = all.0 in
      ap (λ e. fold (with_unit_moved ship to) e ns) (one_is d n v there here) ∙ all_is (record d { units = elsewhere ship to d.units n }) ns (still_all d.units n ns all.1)

  all_inside : (q : ℕ) (m : FinMap nat_cmp Unit) (ns : List ℕ) → AllByRecursion (IsInside m) ns
      → numbers_inside q (fold (elsewhere ship to) m ns) ≡ numbers_inside q m
  all_inside q m [] all = refl
  all_inside q m (n ∷ ns) all =
      let (v, there, here) = all.0 in
      all_inside q (elsewhere ship to m n) ns (still_all m n ns all.1) ∙ elsewhere_inside ship to m n q v there here

-- ---- a ship that goes

carried_same : (v : Unit) → IsAtMostMoved v v
carried_same v =
    record { faction = refl; structure = refl; region = λ none. refl; name = refl; guard = λ none. refl; no_flag = λ off. off; men = omega arith; money = omega arith; items = λ i. omega arith; days = λ s. omega arith }

-- `ship` is the number of `x`, a structure of the steady campaign `c` that sails, and `to` the region it sails to
module _ (w : WorldValue) (c : CampaignValue) (ship to : ℕ) (steady : IsSteady w c) (x : Structure) (is : get c.structures ship ≡ Some x) where
  abbrev aboard_numbers : List ℕ
  aboard_numbers = numbers_inside ship c.units

  abbrev units : FinMap nat_cmp Unit
  units = fold (elsewhere ship to) c.units aboard_numbers

  abbrev shifted : Structure → Structure
  shifted y = record y { region = to }

  abbrev structures : FinMap nat_cmp Structure
  structures = with_changed_value shifted c.structures ship

  -- the unit after the ship went: gone along with it, if it was inside, and otherwise as it was
  abbrev f : ℕ → Unit → Unit
  f k v = put_elsewhere_if ship to (v.structure == ship) v

  -- the structure of a number after the ship went: in region `to` if it is the ship, and otherwise as it was
  abbrev g : ℕ → Structure → Structure
  g = at_number shifted c.structures ship

  abbrev after : CampaignValue
  after = travelled w c units structures f g

  sailed_is : after_sailing c ship to ≡ after
  unfolding after_sailing
  sailed_is =
      ap (λ d. with_structure_region d ship to)
      (all_is ship to c aboard_numbers (all_listed (IsInside ship to c.units) aboard_numbers (listed_is_inside ship c.units)))

  some_ship : ship ≢ 0
  some_ship = is_no_zero c.structures c.next_structure steady.next.structures ship x is

  member : (k : ℕ) (v : Unit) → get c.units k ≡ Some v → list_any (λ n. k == n) aboard_numbers ≡ (v.structure == ship)
  member k v there = elim (cases_eq v.structure ship) [
    | inl here ↦ any_listed k aboard_numbers (inside_is_listed ship c.units some_ship k v there here) ∙ sym (eq-eqb v.structure ship here)
    | inr apart ↦
        let unlisted = false_from_ne_true (list_any (λ n. k == n) aboard_numbers) (λ t.
        let (u, at, inside) = listed_is_inside ship c.units k (listed_any k aboard_numbers t) in
        apart (ap (λ (y : Unit). y.structure) (same_Some v u (sym there ∙ at)) ∙ inside)) in
        unlisted ∙ sym (other_number v.structure ship apart)
  ]

  units_by : (k : ℕ) (o : Option Unit) → get c.units k ≡ o
      → option_map (put_elsewhere_if ship to (list_any (λ n. k == n) aboard_numbers)) o ≡ option_map (f k) o
  units_by k None there = refl
  units_by k (Some v) there = ap (λ b. Some (put_elsewhere_if ship to b v)) (member k v there)

  units_at : (k : ℕ) → get units k ≡ option_map (f k) (get c.units k)
  units_at k = all_at ship to c.units aboard_numbers k ∙ units_by k (get c.units k) refl

  carried : (k : ℕ) (v : Unit) → IsAtMostMoved v (f k v)
  carried k v =
      cond_both (v.structure == ship) (put_elsewhere ship to v) v (IsAtMostMoved v) (λ t. along (is_equal v.structure ship t))
      (λ _. carried_same v)
    where
      along : v.structure ≡ ship → IsAtMostMoved v (put_elsewhere ship to v)
      along here = record {
        faction = refl;
        structure = sym here;
        region = λ none. absurd (some_ship (sym here ∙ none));
        name = refl;
        guard = λ none. absurd (some_ship (sym here ∙ none));
        no_flag = λ off. refl;
        men = omega arith;
        money = omega arith;
        items = λ i. omega arith;
        days = λ s. omega arith;
      }

  at_ship : get structures ship ≡ Some (shifted x)
  at_ship =
      get-changed shifted c.structures ship ship ∙ ap (option_map (g ship)) is
      ∙ ap (λ b. Some (if b then shifted x else x)) (eq-eqb ship ship refl)

  at_other : (q : ℕ) → q ≢ ship → get structures q ≡ get c.structures q
  at_other q apart = changed_else shifted c.structures ship q apart (get c.structures ship)

  ship_owned : (q : ℕ) (y : Structure) → get c.structures q ≡ Some y → IsOwned after q (g q y)
  ship_owned q y there =
      cond_both (q == ship) (shifted y) y (IsOwned after q) (λ _. record { owned = owned; ownerless = ownerless })
      (λ _. record { owned = owned; ownerless = ownerless })
    where
      owned : y.owner ≢ 0 → (v : Unit) × (get units y.owner ≡ Some v) × (v.structure ≡ q)
      owned some =
          let (v, here, inside) = (steady.owners q y there).owned some in
          (f y.owner v, units_at y.owner ∙ ap (option_map (f y.owner)) here, (carried y.owner v).structure ∙ inside)

      ownerless : y.owner ≡ 0 → Every (λ m v. v.structure ≢ q) units
      ownerless none m v at inside =
          let (u, was, same) = mapped_from (f m) (get c.units m) v (sym (units_at m) ∙ at) in
          (steady.owners q y there).ownerless none m u was (sym (carried m u).structure ∙ ap (λ (z : Unit). z.structure) same ∙ inside)

  -- the structure is a ship and complete, and region `to` is in the campaign
  module _ (floats : is_ship w x ≡ true) (whole : x.done ≡ size_of w x.kind) (there_to : HasValue c.regions to) where
    put : (k : ℕ) (v : Unit) → get c.units k ≡ Some v → IsPut w c units structures f g (f k v)
    put k v there =
        cond_both (v.structure == ship) (put_elsewhere ship to v) v (IsPut w c units structures f g) (λ _. record { region = there_to; structure = λ some. (shifted x, at_ship, refl) })
        (λ t.
        let p = steady.known.units k v there in
        record { region = p.region; structure = λ some. let (s, was, near) = p.structure some in (s, at_other v.structure (is_unequal v.structure ship t) ∙ was, near) })

    aboard : (k : ℕ) (v : Unit) → get c.units k ≡ Some v → is_land_at w (f k v).region ≡ false
        → IsAboard w after (f k v)
    aboard k v there =
        cond_both (v.structure == ship) (put_elsewhere ship to v) v (λ u. is_land_at w u.region ≡ false → IsAboard w after u) (λ _ wet. (shifted x, at_ship, floats))
        (λ t wet. let (s, was, afloat) = steady.water.units k v there wet in (s, at_other v.structure (is_unequal v.structure ship t) ∙ was, afloat))

    afloat : (q : ℕ) (y : Structure) → get c.structures q ≡ Some y → is_land_at w (g q y).region ≡ false
        → (is_ship w y ≡ true) × (y.done ≡ size_of w y.kind)
    afloat q y there =
        cond_both (q == ship) (shifted y) y (λ (z : Structure). is_land_at w z.region ≡ false → (is_ship w y ≡ true) × (y.done ≡ size_of w y.kind))
        (λ t wet. subst (λ z. (is_ship w z ≡ true) × (z.done ≡ size_of w z.kind)) (same_Some x y (sym is ∙ ap (get c.structures) (sym (is_equal q ship t)) ∙ there)) (floats, whole))
        (λ _. steady.water.structures q y there)

    sailed_travelled : AreTravelled w c units structures f g
    sailed_travelled = record {
      units_at = units_at;
      structures_at = get-changed shifted c.structures ship;
      unit_count = (all_people ship to c.units aboard_numbers).count;
      structure_count = len-changed shifted c.structures ship;
      of_factions = (all_people ship to c.units aboard_numbers).of_factions;
      same_units = λ k v there. put_elsewhere_same ship to (v.structure == ship) v;
      same_structures = λ q y there. cond_both (q == ship) (shifted y) y (IsSameStructure y) (λ _. record { kind = refl; done = refl; name = refl }) (λ _. record { kind = refl; done = refl; name = refl });
      put = put;
      built = λ q y there. cond_both (q == ship) (shifted y) y (λ (z : Structure). HasValue c.regions z.region) (λ _. there_to) (λ _. (steady.known.structures q y there).region);
      owned = ship_owned;
      aboard = aboard;
      afloat = afloat;
      guarding = λ k v there. guards_stay ship to (v.structure == ship) v;
    }

    -- If a complete ship sails to a region that is there, a steady campaign stays steady, with the same month, reports
    -- and set of factions. The books stay in balance, and nothing is booked (`StepsWell`).
    pub sailed_well : StepsWell IsSteady nothing_remaining w c (after_sailing c ship to)
    sailed_well =
        subst (StepsWell IsSteady nothing_remaining w c) (sym sailed_is)
        (stays_well IsSteady w c after (steady-travelled w c units structures f g sailed_travelled steady)
        (same_month_by refl) refl (total_people c after (all_people ship to c.units aboard_numbers) refl))

  -- ---- what stays of each unit

  -- after a ship sailed, each unit is still there, and has changed at most as `IsAtMostMoved` allows
  pub sailed_at_most_moved : (k : ℕ) (v : Unit) → get c.units k ≡ Some v
      → IsStillThere IsAtMostMoved (after_sailing c ship to) k v
  sailed_at_most_moved k v there =
      subst (λ d. IsStillThere IsAtMostMoved d k v) (sym sailed_is)
      (record { unit = f k v; there = units_at k ∙ ap (option_map (f k)) there; is_unaffected = carried k v })

  -- after a ship sailed, each unit is inside the structure that it was inside before
  pub sailed_inside : (k : ℕ) → structure_of_unit (after_sailing c ship to) k ≡ structure_of_unit c k
  sailed_inside k = ap (λ d. structure_of_unit d k) sailed_is ∙ ap structure_in (units_at k) ∙ by_unit (get c.units k)
    where
      by_unit : (o : Option Unit) → structure_in (option_map (f k) o) ≡ structure_in o
      by_unit None = refl
      by_unit (Some v) = (carried k v).structure

  sailed_same : (k : ℕ) → structure_of_unit c k ≢ ship → get (after_sailing c ship to).units k ≡ get c.units k
  sailed_same k apart = ap (λ d. get d.units k) sailed_is ∙ units_at k ∙ by_unit (get c.units k) apart
    where
      by_unit : (o : Option Unit) → structure_in o ≢ ship → option_map (f k) o ≡ o
      by_unit None apart = refl
      by_unit (Some v) apart = ap (λ b. Some (put_elsewhere_if ship to b v)) (other_number v.structure ship apart)

  sailed_structure : (q : ℕ) → q ≢ ship → get (after_sailing c ship to).structures q ≡ get c.structures q
  sailed_structure q apart = ap (λ d. get d.structures q) sailed_is ∙ at_other q apart

  sailed_list : (q : ℕ) → numbers_inside q (after_sailing c ship to).units ≡ numbers_inside q c.units
  sailed_list q =
      ap (λ d. numbers_inside q d.units) sailed_is
      ∙ all_inside ship to q c.units aboard_numbers
      (all_listed (IsInside ship to c.units) aboard_numbers (listed_is_inside ship c.units))

-- ---- an order

carried_twice : (u v x : Unit) → IsAtMostMoved u v → IsAtMostMoved v x → IsAtMostMoved u x
carried_twice u v x one two = record {
  faction = two.faction ∙ one.faction;
  structure = two.structure ∙ one.structure;
  region = λ none. two.region (one.structure ∙ none) ∙ one.region none;
  name = two.name ∙ one.name;
  guard = λ none. two.guard (one.structure ∙ none) ∙ one.guard none;
  no_flag = λ off. two.no_flag (one.no_flag off);
  men = omega (arith, one.men, two.men);
  money = omega (arith, one.money, two.money);
  items = λ i. omega (arith, one.items i, two.items i);
  days = λ s. omega (arith, one.days s, two.days s);
}

at_most_moved_is_relation : IsUnaffectedRelation IsAtMostMoved
at_most_moved_is_relation = record { same = carried_same; transitive = carried_twice; faction = λ u v h. h.faction }

way_there : (w : WorldValue) (from : ℕ) (to : Option ℕ) → not (is_way w from to) ≡ false
    → HasValue w.regions (unwrap_or to 0)
way_there w from None t = false_true (sym t)
way_there w from (Some r) t =
    by_plan (get w.regions r) refl
    (and_parts (is_some (get w.regions r)) (not (is_land_at w from && is_land_at w r)) (not-false (is_way w from (Some r)) t)).0
  where
    by_plan : (o : Option RegionPlan) → get w.regions r ≡ o → is_some o ≡ true → HasValue w.regions r
    by_plan None there t = false_true t
    by_plan (Some p) there t = (p, there)

abbrev sail_faults : WorldValue → (n : ℕ) → Unit → (to : Option ℕ) → Option Structure → (crew load : ℕ)
    → List (Bool × EventFault)
sail_faults w n u to ship crew load =
    (u.holding.men == 0, NoMen)
    ∷ (u.structure == 0, NotInside)
    ∷ (not (is_owned_by ship n), NotOwner)
    ∷ (not (is_complete_ship w ship), NotComplete)
    ∷ (not (is_way w u.region to), NoWay)
    ∷ (nat_lt crew (crew_needed w ship), NoCrew)
    ∷ (nat_lt (capacity w ship) load, TooHeavy)
    ∷ []

-- A condition P holds of the result of an order of SAIL, if it holds of each outcome without a change, and after each
-- sailing. A ship that sails is complete, and sails to a region of the world.
sail_cases : (P : CampaignValue × Outcome → Type 0) (w : WorldValue) (c : CampaignValue) (n : ℕ) (u : Unit) (direction : Direction)
    → ((outcome : Outcome) → P (c, outcome))
    → ((to : ℕ) (x : Structure) → get c.structures u.structure ≡ Some x → is_ship w x ≡ true → x.done ≡ size_of w x.kind → HasValue w.regions to → P (after_sailing c u.structure to, Done 0))
    → P (sail w n direction c u)
unfolding sail
sail_cases P w c n u direction same gone_off =
    by_fault (neighbour w u.region direction) (sail_fault w c n u (get c.structures u.structure) (neighbour w u.region direction)) refl
  where
    by_ship : (to : Option ℕ) (o : Option Structure) → get c.structures u.structure ≡ o
        → not (is_complete_ship w o) ≡ false → not (is_way w u.region to) ≡ false
        → P (after_sailing c u.structure (unwrap_or to 0), Done 0)
    by_ship to None at whole way = false_true (sym whole)
    by_ship to (Some x) at whole way =
        let parts = and_parts (is_ship w x) (x.done == size_of w x.kind) (not-false (is_complete_ship w (Some x)) whole) in
        gone_off (unwrap_or to 0) x at parts.0 (is_equal x.done (size_of w x.kind) parts.1) (way_there w u.region to way)

    by_fault : (to : Option ℕ) (o : Option EventFault) → sail_fault w c n u (get c.structures u.structure) to ≡ o
        → P (fault_or c o (after_sailing c u.structure (unwrap_or to 0), Done 0))
    by_fault to (Some fault) e = same (Fault (event_fault_number fault))
    by_fault to None e =
        let ship = get c.structures u.structure in
        let fine = none_fit (sail_faults w n u to ship (sum_inside (crew_of w) c u.structure) (sum_inside (load_of w) c u.structure)) e in
        by_ship to ship refl fine.1.1.1.0 fine.1.1.1.1.0

sail_well : (w : WorldValue) (c : CampaignValue) (n : ℕ) (u : Unit) (direction : Direction) → IsSteady w c
    → StepsWell IsSteady nothing_remaining w c (sail w n direction c u).0
sail_well w c n u direction steady =
    sail_cases (λ p. StepsWell IsSteady nothing_remaining w c p.0) w c n u direction (λ outcome. well_same w c steady)
    (λ to x at floats whole there. sailed_well w c u.structure to steady x at floats whole ((steady.known.regions to).1 there))

sail_moves_at_most : (w : WorldValue) (c : CampaignValue) (n : ℕ) (u : Unit) (direction : Direction) → IsSteady w c
    → (k : ℕ) (v : Unit) → get c.units k ≡ Some v → IsStillThere IsAtMostMoved (sail w n direction c u).0 k v
sail_moves_at_most w c n u direction steady k v there =
    sail_cases (λ p. IsStillThere IsAtMostMoved p.0 k v) w c n u direction (λ outcome. record { unit = v; there = there; is_unaffected = carried_same v })
    (λ to x at floats whole near. sailed_at_most_moved w c u.structure to steady x at k v there)

-- In a steady campaign a SAIL for a unit of its writer's faction changes units at most as `IsAtMostMoved` allows. If it
-- can be read with the world, the campaign stays steady, with the same month, reports and set of factions. Balanced
-- books stay balanced, and nothing is booked.
pub sail_orderly : IsOrderly sail_step IsSteady nothing_remaining moves_nothing affects_nobody IsAtMostMoved
sail_orderly = record {
  well = λ w a c t x steady fit own. in_each_direction (λ effect. StepsWell IsSteady nothing_remaining w c (effect c x).0) (sail w t.unit) t.order_value.operands (λ direction. sail_well w c t.unit x direction steady);
  unaffected_is_relation = at_most_moved_is_relation;
  is_unaffected = λ w a c t x steady own k v there apart. in_each_direction (λ effect. IsStillThere IsAtMostMoved (effect c x).0 k v) (sail w t.unit) t.order_value.operands (λ direction. sail_moves_at_most w c t.unit x direction steady k v there);
  bounded = λ w c steady e t. omega arith;
}

-- Every unit of c, the campaign before, is in d, that after, and has changed at most as `IsAtMostMoved` allows, if this
-- is so of each unit that no order of SAIL affects: by `affects_nobody` these are all units.
pub all_carried : (w : WorldValue) (m : MonthValue) (c d : CampaignValue)
    → others_unaffected affects_nobody IsAtMostMoved is_sailing w m c d → AreAtMostMoved c d
all_carried w m c d keeps n u there = keeps n u there (λ k d l nobody. nobody)

-- ---- units that stay: those whose structure doesn't sail

sum_same : (g h : ℕ → ℕ) (ns : List ℕ) → ((k : ℕ) → IsListed k ns → g k ≡ h k) → sum_by g ns ≡ sum_by h ns
sum_same g h [] same = refl
sum_same g h (n ∷ ns) same =
    grind (arith, sum_by-cons g n ns, sum_by-cons h n ns, same n (inl refl), sum_same g h ns (λ k l. same k (inr l)))

same_outcome_unless : (c d x y : CampaignValue) (o : Option EventFault)
    → (fault_or c o (x, Done 0)).1 ≡ (fault_or d o (y, Done 0)).1
same_outcome_unless c d x y o = grind rules

-- `begun` is the campaign as the phase begins. `number` and `faction` are those of a unit, which the laws below show to
-- be unchanged if its structure doesn't sail.
module _ (w : WorldValue) (begun : CampaignValue) (number faction : ℕ) where
  -- the number of the structure that unit `number` is inside as the phase begins
  abbrev s : ℕ
  s = structure_of_unit begun number

  -- Campaign `c` is as begun, after some orders of the phase.
  record IsAsBegun (c : CampaignValue) : Type 0 where
    pub steady : IsSteady w c
    -- each unit is inside the structure that it was inside as the phase began
    pub places : (k : ℕ) → structure_of_unit c k ≡ structure_of_unit begun k
    -- the structure that unit `number` is inside is as it was
    pub structure : get c.structures s ≡ get begun.structures s
    -- all units inside this structure are as they were
    pub units : (k : ℕ) → structure_of_unit begun k ≡ s → get c.units k ≡ get begun.units k
    -- the same units are inside this structure as before
    pub list : numbers_inside s c.units ≡ numbers_inside s begun.units

  -- `c` is the campaign after some orders of the phase
  module _ (c : CampaignValue) (same : IsAsBegun c) where
    sum_inside_same : (f : HoldingValue → ℕ) → sum_inside f c s ≡ sum_inside f begun s
    sum_inside_same f =
        ap (sum_by (λ n. number_of_unit f (get c.units n))) same.list
        ∙ sum_same (λ n. number_of_unit f (get c.units n)) (λ n. number_of_unit f (get begun.units n)) (numbers_inside s begun.units) (λ k listed. ap (number_of_unit f) (same.units k (is_in k listed)))
      where
        is_in : (k : ℕ) → IsListed k (numbers_inside s begun.units) → structure_of_unit begun k ≡ s
        is_in k listed = let (v, there, here) = listed_is_inside s begun.units k listed in ap structure_in there ∙ here

    -- if `c` is as begun (`IsAsBegun`), an order of SAIL for a unit in unit `number`'s structure has the fault, or
    -- none, that it would have had at the start
    fault_same : (n : ℕ) (u : Unit) (to : Option ℕ) → u.structure ≡ s
        → sail_fault w c n u (get c.structures u.structure) to
        ≡ sail_fault w begun n u (get begun.structures u.structure) to
    fault_same n u to here = rw (here, same.structure, sum_inside_same (crew_of w), sum_inside_same (load_of w)) refl

    same_outcome : (n : ℕ) (u : Unit) (direction : Direction) → u.structure ≡ s
        → (sail w n direction c u).1 ≡ (sail w n direction begun u).1
    unfolding sail
    same_outcome n u direction here =
        let to = neighbour w u.region direction in
        ap (λ o. (fault_or c o (after_sailing c u.structure (unwrap_or to 0), Done 0)).1) (fault_same n u to here)
        ∙ same_outcome_unless c begun (after_sailing c u.structure (unwrap_or to 0)) (after_sailing begun u.structure (unwrap_or to 0)) (sail_fault w begun n u (get begun.structures u.structure) to)

    same_faction_outcome : (f n : ℕ) (direction : Direction) → structure_of_unit begun n ≡ s
        → (faction_effect (sail w n direction) c f n).1 ≡ (faction_effect (sail w n direction) begun f n).1
    same_faction_outcome f n direction here =
        ap (λ o. (effect_on (sail w n direction) c (of_faction f o)).1) (same.units n here)
        ∙ by_unit (get begun.units n) here
      where
        by_faction : (u : Unit) → u.structure ≡ s → (b : Bool)
            → (effect_on (sail w n direction) c (if b then Some u else None)).1
            ≡ (effect_on (sail w n direction) begun (if b then Some u else None)).1
        by_faction u here true = same_outcome n u direction here
        by_faction u here false = refl

        by_unit : (o : Option Unit) → structure_in o ≡ s
            → (effect_on (sail w n direction) c (of_faction f o)).1
            ≡ (effect_on (sail w n direction) begun (of_faction f o)).1
        by_unit None here = refl
        by_unit (Some u) here = by_faction u here (u.faction == f)

    sailed_else : (ship to : ℕ) (x : Structure) → get c.structures ship ≡ Some x → is_ship w x ≡ true
        → x.done ≡ size_of w x.kind → HasValue w.regions to → s ≢ ship → IsAsBegun (after_sailing c ship to)
    sailed_else ship to x at floats whole there apart = record {
      steady = (sailed_well w c ship to same.steady x at floats whole ((same.steady.known.regions to).1 there)).holds_still;
      places = λ k. sailed_inside w c ship to same.steady x at k ∙ same.places k;
      structure = sailed_structure w c ship to same.steady x at s apart ∙ same.structure;
      units = λ k here. sailed_same w c ship to same.steady x at k (λ is. apart (sym here ∙ sym (same.places k) ∙ is)) ∙ same.units k here;
      list = sailed_list w c ship to same.steady x at s ∙ same.list;
    }

    -- If `c` is as begun (`IsAsBegun`), so is the campaign after an order of SAIL with operands `o` for unit n of
    -- faction f. This supposes that by the order the structure of unit `number` wouldn't have sailed at the start.
    order_stays : (f n : ℕ) (o : OperandsValue)
        → (structure_of_unit begun n ≡ s → (order_result (by_direction (sail w n) o) begun f n).1 ≡ Some (Done 0) → ⊥)
        → IsAsBegun (order_result (by_direction (sail w n) o) c f n).0
    order_stays f n (operands.Direction direction) apart =
        carried_cases (λ p. (structure_of_unit begun n ≡ s → p.1 ≡ Done 0 → ⊥) → IsAsBegun p.0) (sail w n direction) c f n (λ apart. same)
        (λ u is own. sail_cases (λ p. (structure_of_unit begun n ≡ s → p.1 ≡ Done 0 → ⊥) → IsAsBegun p.0) w c n u direction (λ outcome apart. same)
        (λ to x at floats whole there apart. sailed_else u.structure to x at floats whole there (λ same_ship. apart (sym (same.places n) ∙ ap structure_in is ∙ sym same_ship) refl)))
        (λ in_it done. apart in_it (ap (λ outcome. Some outcome) (sym (same_faction_outcome f n direction in_it) ∙ done)))
    order_stays f n other apart = same

    task_stays : (m : MonthValue) (t : Task) → (SailsWith w begun t number faction → ⊥)
        → IsAsBegun (one_order sail_step w (c, m) t).0
    task_stays m t apart =
        order_stays t.faction t.unit t.order_value.operands
        (λ in_it done. apart (record { together = in_it; done = done }))

  tasks_stay : (c : CampaignValue) (m : MonthValue) (ts : List Task) → IsAsBegun c
      → AllByRecursion (λ t. SailsWith w begun t number faction → ⊥) ts
      → IsAsBegun (fold (one_order sail_step w) (c, m) ts).0
  tasks_stay c m [] same others = same
  tasks_stay c m (t ∷ ts) same others =
      let next = one_order sail_step w (c, m) t in
      tasks_stay next.0 next.1 ts (task_stays c same m t others.0) others.1

-- if the campaign is steady as the phase begins, a unit that no SAIL that counts takes along (`SailsWith`) is unchanged
pub others_do_not_sail : (w : WorldValue) (c : CampaignValue) (m : MonthValue) → IsSteady w c
    → others_unaffected (SailsWith w c) IsUnchanged is_sailing w m c (sail_spec.meaning w c m).0
unfolding meaning_by_orders
others_do_not_sail w c m steady n u there others =
    let ts = orders_of is_sailing ByUnit m.aliases m.readings in
    let begun : IsAsBegun w c n u.faction c = record { steady = steady; places = λ k. refl; structure = refl; units = λ k here. refl; list = refl } in
    let stays = tasks_stay w c n u.faction c m ts begun (recursion_from_All (λ t. SailsWith w c t n u.faction → ⊥) ts others) in
    record { unit = u; there = stays.units n refl ∙ there; is_unaffected = refl }
