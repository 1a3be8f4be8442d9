-- Laws of BUILD: it keeps what BUILD needs of a campaign and leaves other units as they are; the code does what is
-- defined. `n` is the number of unit `u`, which builds, and `c` the campaign before that; `can` says that `c` has what
-- BUILD needs. `k` is a kind, `kind` its number, and `s` a structure. `fit` says that the unit can carry its order out.
use Rattle.std.proofs.Common.{◌≡◌, ◌≢◌, ◌==◌, ℕ, ◌+◌, ◌-◌, ◌*◌, ◌≤◌, ◌<◌, Bool, true, false, not, [], ◌∷◌, length, Option, Some, None, refl, sym, ap, subst, ◌∙◌, arith}
use Rattle.std.proofs.lemmas.Bool.{not-false, true≢false}
use Rattle.std.specs.Prelude.{IfSome, min, nat_le, nat_lt, option_and_then, option_map, if◌then◌else◌}
use Rattle.std.specs.List.{slice_get}
use Rattle.std.specs.Option.{option_map_or}
use Rattle.std.proofs.lemmas.Bool.Decides.{nat_tests}
use Rattle.std.proofs.lemmas.Option.{slice_get_within}
use Rattle.std.proofs.Math.Nat.{mul-le-mul_left}
use Rattle.std.specs.FinMap.{entries, get, len, len-entries}
use Rattle.atl_world.specs.Limits.{most_size}
use Rattle.atl_world.specs.Worlds.{IsKind, WorldValue}
use Rattle.atl_world.specs.Sums.{sum_over}
use Rattle.atl_world.specs.declared.world.Kind.{Kind}
use Rattle.atl_world.specs.ByNumber.{is_land_at, size_of}
use Rattle.atl_lines.specs.declared.order.Operands.TheVariants as operands
use Rattle.atl_lines.specs.Orders.{OperandsValue}
use Rattle.atl_records.specs.declared.event.EventFault.{EventFault}
use Rattle.atl_records.specs.declared.event.EventFault.TheVariants.{AtSea, Complete, NoMaterial, NoMen, NoSkill, NotInside, StructureLimit}
use Rattle.atl_records.specs.declared.event.Outcome.{Outcome}
use Rattle.atl_records.specs.declared.event.Outcome.TheVariants.{Done}
use Rattle.atl_records.specs.declared.books.BooksEntry.{BooksEntry}
use Rattle.atl_records.specs.declared.books.BooksEntry.TheVariants.{Used}
use Rattle.atl_records.specs.declared.books.Thing.{Thing}
use Rattle.atl_records.specs.declared.books.Thing.TheVariants.{Item, Money, People}
use Rattle.atl_records.specs.declared.records.Structure.{Structure}
use Rattle.atl_records.specs.declared.records.Unit.{Unit}
use Rattle.atl_records.specs.Books.{entry_index}
use Rattle.atl_campaign.specs.Good.{IsNumbered, IsSteady}
use Rattle.atl_records.specs.Levels.{level_in}
use Rattle.atl_campaign.proofs.BegunLaws.{IsFresh, built, built_is, nobody_inside, raised, raised_there}
use Rattle.atl_records.specs.Holdings.{HoldingValue, IsHolding, amount_of}
use Rattle.atl_records.specs.Limits.{holding_limit, most_structures, most_units}
use Rattle.atl_campaign.specs.Owners.{with_place}
use Rattle.atl_campaign.specs.Campaign.{CampaignValue, with_done}
use Rattle.atl_world.proofs.EveryLaws.{each-from_every}
use Rattle.atl_phase.specs.Meaning.{LeavesWell, most_moved}
use Rattle.atl_phase.specs.Bounds.{HaveRoom, IsOrderly, StepsWell}
use Rattle.atl_phase.specs.Outcomes.{fault_or}
use Rattle.atl_phase.specs.NoWorse.{IsNoWorse}
use Rattle.atl_phase.specs.OrderEffects.{IsOwnOrder, effect_on, faction_effect, of_faction}
use Rattle.atl_records.proofs.HoldingLaws.{amount_within}
use Rattle.atl_phase.proofs.OutcomeLaws.{none_fits, not_less}
use Rattle.atl_phase.proofs.PlacingLaws.{place_stays}
use Rattle.atl_phase.proofs.HeldLaws.{sum_within}
use Rattle.atl_phase.proofs.OrderEffectLaws.{no_worse_is_relation, well_same, well_twice}
use Rattle.atl_phase.proofs.UnbookedLaws.{unchanged_is_no_worse}
use Rattle.atl_market.specs.Build.{after_building_on, after_start, begin, begin_fault, build_effect, build_moves, build_step, go_on, go_on_at, inside_fault, is_structure_limit, new_structure, size_added, structure_and_kind_at, with_kind, with_new_structure}
use Rattle.atl_market.specs.Bounds.{CanBuild, build_remaining}
use Rattle.atl_market.specs.Making.{CanUse}
use Rattle.atl_market.proofs.BuildBegunLaws.{built_well, first_name_ok, raised_well}
use Rattle.atl_market.proofs.BuildPlaceLaws.{place_well}
use Rattle.atl_market.proofs.BuildUsedLaws.{others_stay, used, used_for_well, used_room, user, user_there}
use Rattle.atl_market.proofs.ItemUseLaws.{used_is}

nonzero_is_positive : (n : ℕ) → (n == 0) ≡ false → 1 ≤ n
nonzero_is_positive n is = grind (arith, nat_tests)

more_than : (a b : ℕ) → nat_le a b ≡ false → b < a
more_than a b is = grind (arith, nat_tests)

-- ---- structures are numbered from 1 without a gap

-- the next structure's number is at most 10,000, if structures are numbered from 1 without a gap and are fewer than
-- 10,000
pub next_within : (c : CampaignValue) → IsNumbered c.structures c.next_structure → len c.structures < most_structures
    → c.next_structure ≤ most_structures
next_within c numbered room = omega (arith, numbered.count, room)

-- No further structure may be begun exactly if the next structure's number is above 10,000, where structures are
-- numbered from 1 without a gap.
pub limit_by_next : (c : CampaignValue) → IsNumbered c.structures c.next_structure
    → nat_lt most_structures c.next_structure ≡ is_structure_limit c
limit_by_next c numbered = rw numbered.count (by_count most_structures (len c.structures))
  where
    by_count : (most count : ℕ) → nat_lt most (count + 1) ≡ nat_le most count
    by_count most count = grind (arith, nat_tests)

-- ---- orders without a fault

-- a unit has all that it needs to begin a structure of a kind: men, land, the level, material, and room for a structure
pub record CanBegin (w : WorldValue) (c : CampaignValue) (u : Unit) (k : Kind) : Type 0 where
  pub men : 1 ≤ u.holding.men
  pub land : is_land_at w u.region ≡ true
  pub skill : k.level ≤ level_in u.holding k.skill
  pub material : 1 ≤ amount_of u.holding.items k.material
  pub room : len c.structures < most_structures

-- where `BUILD kind` has no fault, the unit has all that it needs to begin a structure of the kind
pub can_begin : (w : WorldValue) (c : CampaignValue) (u : Unit) (k : Kind) → begin_fault w c u k ≡ None
    → CanBegin w c u k
can_begin w c u k is =
    let limit = (is_structure_limit c, StructureLimit) ∷ [] in
    let material = (amount_of u.holding.items k.material == 0, NoMaterial) ∷ limit in
    let skill = (nat_lt (level_in u.holding k.skill) k.level, NoSkill) ∷ material in
    let one = none_fits (u.holding.men == 0) NoMen ((not (is_land_at w u.region), AtSea) ∷ skill) is in
    let two = none_fits (not (is_land_at w u.region)) AtSea skill one.1 in
    let three = none_fits (nat_lt (level_in u.holding k.skill) k.level) NoSkill material two.1 in
    let four = none_fits (amount_of u.holding.items k.material == 0) NoMaterial limit three.1 in
    let five = none_fits (is_structure_limit c) StructureLimit [] four.1 in
    record {
      men = nonzero_is_positive u.holding.men one.0;
      land = not-false (is_land_at w u.region) two.0;
      skill = not_less (level_in u.holding k.skill) k.level three.0;
      material = nonzero_is_positive (amount_of u.holding.items k.material) four.0;
      room = more_than most_structures (len c.structures) five.0;
    }

-- a unit has all that it needs to continue a structure: men, the level and material, and the structure isn't complete
pub record CanGoOn (u : Unit) (s : Structure) (k : Kind) : Type 0 where
  pub men : 1 ≤ u.holding.men
  pub missing : s.done < k.size
  pub skill : k.level ≤ level_in u.holding k.skill
  pub material : 1 ≤ amount_of u.holding.items k.material

-- where `BUILD` inside a structure has no fault, the unit has all that it needs to continue the structure
pub can_go_on : (u : Unit) (s : Structure) (k : Kind) → inside_fault u s k ≡ None → CanGoOn u s k
can_go_on u s k is =
    let material = (amount_of u.holding.items k.material == 0, NoMaterial) ∷ [] in
    let skill = (nat_lt (level_in u.holding k.skill) k.level, NoSkill) ∷ material in
    let one = none_fits (u.holding.men == 0) NoMen ((nat_le k.size s.done, Complete) ∷ skill) is in
    let two = none_fits (nat_le k.size s.done) Complete skill one.1 in
    let three = none_fits (nat_lt (level_in u.holding k.skill) k.level) NoSkill material two.1 in
    let four = none_fits (amount_of u.holding.items k.material == 0) NoMaterial [] three.1 in
    record {
      men = nonzero_is_positive u.holding.men one.0;
      missing = more_than k.size s.done two.0;
      skill = not_less (level_in u.holding k.skill) k.level three.0;
      material = nonzero_is_positive (amount_of u.holding.items k.material) four.0;
    }

-- ---- the size that is added

least_is_positive : (x y z : ℕ) → 1 ≤ x → 1 ≤ y → 1 ≤ z → 1 ≤ min (min x y) z
least_is_positive x y z a b c = omega (arith, a, b, c)

least_within_second : (x y z : ℕ) → min (min x y) z ≤ y
least_within_second x y z = omega arith

least_within_third : (x y z : ℕ) → min (min x y) z ≤ z
least_within_third x y z = omega arith

product_is_positive : (a b : ℕ) → 1 ≤ a → 1 ≤ b → 1 ≤ a * b
product_is_positive a b l m = let h : a * 1 ≤ a * b = mul-le-mul_left a m in omega (arith, l, h)

-- a unit with the holding `h` builds at a structure of kind `k`, of whose size `done` is done
module _ (k : Kind) (h : HoldingValue) (done : ℕ) where
  -- a unit adds at most as much as it holds of the material
  pub size_held : size_added k h done ≤ amount_of h.items k.material
  size_held = least_within_second (h.men * level_in h k.skill) (amount_of h.items k.material) (k.size - done)

  -- a unit adds at most what is missing to the kind's size
  pub size_missing : size_added k h done ≤ k.size - done
  size_missing = least_within_third (h.men * level_in h k.skill) (amount_of h.items k.material) (k.size - done)

  size_some : 1 ≤ h.men → 1 ≤ level_in h k.skill → 1 ≤ amount_of h.items k.material → done < k.size
      → 1 ≤ size_added k h done
  size_some men level material missing =
      least_is_positive (h.men * level_in h k.skill) (amount_of h.items k.material) (k.size - done) (product_is_positive h.men (level_in h k.skill) men level) material (omega (arith, missing))

kind_size : (w : WorldValue) (i : ℕ) (k : Kind) → slice_get w.kinds i ≡ Some k → size_of w i ≡ k.size
kind_size w i k is = ap (λ o. option_map_or (λ (x : Kind). x.size) o most_size) is

-- ---- a structure is begun

-- unit `n`, which is `u`, begins a structure of kind `k`, which has the number `kind`
module _ (w : WorldValue) (c : CampaignValue) (n kind : ℕ) (u : Unit) (k : Kind) (is : get c.units n ≡ Some u) where
  abbrev size : ℕ
  size = size_added k u.holding 0

  abbrev after_use : CampaignValue
  after_use = used w c n k.material size u is

  -- campaign `d` with the new structure begun in it, and unit `n` moved into that structure
  abbrev from_used : CampaignValue → CampaignValue
  from_used d = with_place (with_new_structure d kind k u.region size) n u.region c.next_structure

  begun_is : after_start c n kind k u.region size ≡ from_used after_use
  begun_is = ap from_used (used_is w c n k.material size u is)

  begun_stays : (j : ℕ) → j ≢ n → get (after_start c n kind k u.region size).units j ≡ get c.units j
  begun_stays j apart =
      ap (λ (d : CampaignValue). get d.units j) begun_is
      ∙ place_stays (with_new_structure after_use kind k u.region size) n u.region c.next_structure j apart
      ∙ others_stay w c n k.material size u is j apart

  -- `k` is the world's kind with the number `kind`, and the unit can begin the structure (`fit`)
  module _ (kind_is : slice_get w.kinds kind ≡ Some k) (can : CanBuild w c) (fit : CanBegin w c u k) where
    good : IsKind (length w.items) (length w.skills) k
    good = can.kinds kind k kind_is

    room : c.next_structure ≤ most_structures
    room = next_within c can.steady.next.structures fit.room

    one_well : StepsWell CanBuild build_remaining w c after_use
    one_well = used_for_well w c n k.material size u is (size_held k u.holding 0) good.material can

    abbrev new : Structure
    new = new_structure c.next_structure kind k u.region size

    fresh : IsFresh w after_use new
    fresh = record {
      kind = slice_get_within w.kinds kind k kind_is;
      name = first_name_ok k c.next_structure (omega (arith, room));
      region = (can.steady.known.units n u is).region;
      land = fit.land;
      least = size_some k u.holding 0 fit.men (omega (arith, good.level_least, fit.skill)) fit.material (omega (arith, good.size_least));
      most = subst (λ x. size ≤ x) (sym (kind_size w kind k kind_is)) (omega (arith, size_missing k u.holding 0));
      ownerless = refl;
    }

    after_raising : CampaignValue
    after_raising = raised w after_use new fresh room one_well.holds_still.steady

    begun_well : StepsWell CanBuild build_remaining w c (after_start c n kind k u.region size)
    unfolding after_raising
    begun_well =
        let between = one_well.holds_still in
        let two_well = raised_well w after_use new fresh room between in
        let there = user_there w c n k.material size u is in
        let apart = nobody_inside w after_use new fresh room between.steady n (user w c n k.material size u is) there in
        let three_well =
        place_well w after_raising n (user w c n k.material size u is) c.next_structure there two_well.holds_still apart (λ some. (new, raised_there w after_use new fresh room between.steady, refl)) (λ wet. absurd (true≢false (sym fit.land ∙ wet))) in
        subst (StepsWell CanBuild build_remaining w c) (sym begun_is) (well_twice w c after_use (from_used after_use) one_well (well_twice w after_use after_raising (from_used after_use) two_well three_well))

-- ---- more of a structure is done

-- unit `n`, which is `u`, continues the structure `s` of kind `k`
module _ (w : WorldValue) (c : CampaignValue) (n : ℕ) (u : Unit) (s : Structure) (k : Kind) (is : get c.units n ≡ Some u) where
  abbrev added : ℕ
  added = size_added k u.holding s.done

  abbrev paid : CampaignValue
  paid = used w c n k.material added u is

  -- campaign `d` with as much more of the unit's structure done as the unit adds
  abbrev further : CampaignValue → CampaignValue
  further d = with_done d u.structure (s.done + added)

  on_is : after_building_on c n k.material added u.structure (s.done + added) ≡ further paid
  on_is = ap further (used_is w c n k.material added u is)

  on_stays : (j : ℕ) → j ≢ n
      → get (after_building_on c n k.material added u.structure (s.done + added)).units j ≡ get c.units j
  on_stays j apart = ap (λ (d : CampaignValue). get d.units j) on_is ∙ others_stay w c n k.material added u is j apart

  -- the unit is inside `s` (`there`), whose kind is `k` (`kind_is`), and can continue it (`fit`)
  module _ (there : get c.structures u.structure ≡ Some s) (kind_is : slice_get w.kinds s.kind ≡ Some k) (can : CanBuild w c) (fit : CanGoOn u s k) where
    paid_well : StepsWell CanBuild build_remaining w c paid
    paid_well =
        used_for_well w c n k.material added u is (size_held k u.holding s.done) (can.kinds s.kind k kind_is).material
        can

    most : s.done + added ≤ size_of w s.kind
    most =
        subst (λ x. s.done + added ≤ x) (sym (kind_size w s.kind k kind_is))
        (up added s.done k.size (size_missing k u.holding s.done) fit.missing)
      where
        up : (a d m : ℕ) → a ≤ m - d → d < m → d + a ≤ m
        up a d m l h = omega (arith, l, h)

    on_well : StepsWell CanBuild build_remaining w c (after_building_on c n k.material added u.structure (s.done + added))
    on_well =
        let done_is = built_is w paid u.structure s (s.done + added) there in
        subst (StepsWell CanBuild build_remaining w c) (sym (on_is ∙ done_is))
        (well_twice w c paid (built w paid u.structure s (s.done + added) there) paid_well (built_well w paid u.structure s (s.done + added) there (omega arith) most paid_well.holds_still))

-- ---- an order

-- `P` holds of the campaign after `BUILD kind`, if it holds of the campaign before, and of the one in which the unit
-- began the structure, where it can (`CanBegin`).
begin_cases : (P : CampaignValue → Type 0) (w : WorldValue) (c : CampaignValue) (n kind : ℕ) (k : Kind) (u : Unit) → P c
    → (CanBegin w c u k → P (after_start c n kind k u.region (size_added k u.holding 0))) → P (begin w n kind k c u).0
unfolding begin
begin_cases P w c n kind k u same go = by_fault (begin_fault w c u k) refl
  where
    by_fault : (o : Option EventFault) → begin_fault w c u k ≡ o
        → P (fault_or c o (after_start c n kind k u.region (size_added k u.holding 0), Done (size_added k u.holding 0))).0
    by_fault (Some fault) e = same
    by_fault None e = go (can_begin w c u k e)

go_on_cases : (P : CampaignValue → Type 0) (w : WorldValue) (c : CampaignValue) (n : ℕ) (u : Unit) → P c
    → ((s : Structure) (k : Kind) → get c.structures u.structure ≡ Some s → slice_get w.kinds s.kind ≡ Some k → CanGoOn u s k
    → P (after_building_on c n k.material (size_added k u.holding s.done) u.structure (s.done + size_added k u.holding s.done))) → P (go_on w n c u).0
unfolding go_on
go_on_cases P w c n u same go = by_structure (get c.structures u.structure) refl
  where
    by_fault : (s : Structure) (k : Kind) → get c.structures u.structure ≡ Some s → slice_get w.kinds s.kind ≡ Some k
        → (o : Option EventFault) → inside_fault u s k ≡ o
        → P (fault_or c o (after_building_on c n k.material (size_added k u.holding s.done) u.structure (s.done + size_added k u.holding s.done), Done (size_added k u.holding s.done))).0
    by_fault s k there kind_is (Some fault) e = same
    by_fault s k there kind_is None e = go s k there kind_is (can_go_on u s k e)

    -- for `go_on_cases`: `P` holds after `BUILD` by a unit outside any structure, which has a fault: NoMen or NotInside
    outside : (b : Bool) → P (fault_or c (if b then Some NoMen else Some NotInside) (c, Done 0)).0
    outside true = same
    outside false = same

    by_kind : (s : Structure) → get c.structures u.structure ≡ Some s → (o : Option Kind) → slice_get w.kinds s.kind ≡ o
        → P (go_on_at c n u (option_map (λ k. (s, k)) o)).0
    by_kind s there None kind_is = outside (u.holding.men == 0)
    by_kind s there (Some k) kind_is = by_fault s k there kind_is (inside_fault u s k) refl

    by_structure : (o : Option Structure) → get c.structures u.structure ≡ o
        → P (go_on_at c n u (option_and_then (with_kind w) o)).0
    by_structure None there = outside (u.holding.men == 0)
    by_structure (Some s) there = by_kind s there (slice_get w.kinds s.kind) refl

module _ (w : WorldValue) (c : CampaignValue) (n : ℕ) (u : Unit) (is : get c.units n ≡ Some u) where
  begin_well : (kind : ℕ) (k : Kind) → slice_get w.kinds kind ≡ Some k → CanBuild w c
      → StepsWell CanBuild build_remaining w c (begin w n kind k c u).0
  begin_well kind k kind_is can =
      begin_cases (λ d. StepsWell CanBuild build_remaining w c d) w c n kind k u (well_same w c can)
      (λ fit. begun_well w c n kind u k is kind_is can fit)

  go_on_well : CanBuild w c → StepsWell CanBuild build_remaining w c (go_on w n c u).0
  go_on_well can =
      go_on_cases (λ d. StepsWell CanBuild build_remaining w c d) w c n u (well_same w c can)
      (λ s k there kind_is fit. on_well w c n u s k is there kind_is can fit)

  begin_stays : (kind : ℕ) (k : Kind) (j : ℕ) → j ≢ n → get (begin w n kind k c u).0.units j ≡ get c.units j
  begin_stays kind k j apart =
      begin_cases (λ d. get d.units j ≡ get c.units j) w c n kind k u refl
      (λ fit. begun_stays w c n kind u k is j apart)

  go_on_stays : (j : ℕ) → j ≢ n → get (go_on w n c u).0.units j ≡ get c.units j
  go_on_stays j apart =
      go_on_cases (λ d. get d.units j ≡ get c.units j) w c n u refl
      (λ s k there kind_is fit. on_stays w c n u s k is j apart)

-- ---- what BUILD may still book

remaining_within : (w : WorldValue) (c : CampaignValue) → CanBuild w c → (e : BooksEntry) (t : Thing)
    → build_remaining c e t ≤ build_moves e t
remaining_within w c can e t = by_thing t
  where
    all_within : (f : HoldingValue → ℕ) (most : ℕ) → ((h : HoldingValue) → IsHolding h → f h ≤ most)
        → sum_over (λ (u : Unit). f u.holding) c.units ≤ length (entries c.units) * most
    all_within f most each =
        sum_within (λ (u : Unit). f u.holding) most (entries c.units)
        (each-from_every (λ n u. f u.holding ≤ most) c.units (λ n u is. each u.holding (can.steady.numbers.units n u is).1))

    few : (s n : ℕ) → s ≤ n * holding_limit → n ≤ most_units → s ≤ most_moved
    few s n l m = omega (arith, l, m)

    nothing : (s n : ℕ) → s ≤ n * 0 → s ≤ 0
    nothing s n l = omega (arith, l)

    none : sum_over (λ (u : Unit). 0) c.units ≤ 0
    none =
        nothing (sum_over (λ (u : Unit). 0) c.units) (length (entries c.units))
        (all_within (λ h. 0) 0 (λ h is. omega arith))

    by_entry : (i : ℕ) (b : Bool)
        → sum_over (λ (u : Unit). if b then amount_of u.holding.items i else 0) c.units ≤ (if b then most_moved else 0)
    by_entry i true =
        few (sum_over (λ (u : Unit). amount_of u.holding.items i) c.units) (length (entries c.units))
        (all_within (λ h. amount_of h.items i) holding_limit (λ h is. amount_within h i is))
        (omega (arith, len-entries c.units, can.steady.numbers.few_units))
    by_entry i false = none

    by_thing : (s : Thing) → build_remaining c e s ≤ build_moves e s
    by_thing Money = none
    by_thing People = none
    by_thing (Item i) = by_entry i (entry_index e == entry_index Used)

-- ---- the phase

-- An order of BUILD that can be read with the world, for a unit of its writer's faction, keeps what BUILD needs, the
-- month and the balance of the books, within the bounds on them. A unit without an order of its own faction is there
-- and no worse off (`IsOrderly`).
pub build_orderly : IsOrderly build_step CanBuild build_remaining build_moves IsOwnOrder IsNoWorse
build_orderly = record {
  well = λ w a c t x can fit own. well w c t.unit x own.there can t.order_value.operands;
  unaffected_is_relation = no_worse_is_relation;
  is_unaffected = λ w a c t x can own j v there apart. unchanged_is_no_worse (build_step w a t) c t x own j v there apart (λ i other. stays w c t.unit x own.there i other t.order_value.operands);
  bounded = remaining_within;
}
  where
    well : (w : WorldValue) (c : CampaignValue) (n : ℕ) (x : Unit) → get c.units n ≡ Some x → CanBuild w c
        → (s : OperandsValue)
        → IfSome (build_effect w n s) (λ effect. StepsWell CanBuild build_remaining w c (effect c x).0)
    well w c n x is can (operands.Kind (Some kind)) = by_kind (slice_get w.kinds kind) refl
      where
        by_kind : (o : Option Kind) → slice_get w.kinds kind ≡ o
            → IfSome (option_map (begin w n kind) o) (λ effect. StepsWell CanBuild build_remaining w c (effect c x).0)
        by_kind None kind_is = tt
        by_kind (Some k) kind_is = begin_well w c n x is kind k kind_is can
    well w c n x is can (operands.Kind None) = go_on_well w c n x is can
    well w c n x is can other = tt

    stays : (w : WorldValue) (c : CampaignValue) (n : ℕ) (x : Unit) → get c.units n ≡ Some x → (j : ℕ) → j ≢ n
        → (s : OperandsValue) → IfSome (build_effect w n s) (λ effect. get (effect c x).0.units j ≡ get c.units j)
    stays w c n x is j apart (operands.Kind (Some kind)) = by_kind (slice_get w.kinds kind)
      where
        by_kind : (o : Option Kind)
            → IfSome (option_map (begin w n kind) o) (λ effect. get (effect c x).0.units j ≡ get c.units j)
        by_kind None = tt
        by_kind (Some k) = begin_stays w c n x is kind k j apart
    stays w c n x is j apart (operands.Kind None) = go_on_stays w c n x is j apart
    stays w c n x is j apart other = tt

-- a change that leaves a campaign as BUILD needs it (`CanBuild`) leaves it steady, with the same bound (`LeavesWell`)
pub leaves_steady : (w : WorldValue) (c d : CampaignValue) → LeavesWell CanBuild build_moves w c d
    → LeavesWell IsSteady build_moves w c d
leaves_steady w c d h =
    record { leaves_it = h.leaves_it.steady; same_month = h.same_month; balances = h.balances; near = h.near }

-- A unit can use any amount of an item of the world that it holds (`CanUse`). This supposes that the campaign is as
-- BUILD needs it (`CanBuild`), and that the books have room for what all units hold (`build_remaining`).
pub can_use : (w : WorldValue) (c : CampaignValue) (n item amount : ℕ) (u : Unit) → get c.units n ≡ Some u
    → amount ≤ amount_of u.holding.items item → item < length w.items → CanBuild w c → HaveRoom (build_remaining c) c
    → CanUse w c n item amount
can_use w c n item amount u is enough known can room = record {
  unit = u;
  there = is;
  known = known;
  enough = enough;
  steady = can.steady;
  room = used_room c n item amount u is enough room;
}

-- ---- the code does what is defined

structure_and_kind_found : (w : WorldValue) (c : CampaignValue) (structure : ℕ) (s : Structure) (k : Kind)
    → get c.structures structure ≡ Some s → slice_get w.kinds s.kind ≡ Some k
    → structure_and_kind_at w c structure ≡ Some (s, k)
structure_and_kind_found w c structure s k there kind_is =
    ap (option_and_then (with_kind w)) there ∙ ap (option_map {U = Structure × Kind} (λ x. (s, x))) kind_is

abbrev begun_outcome : CampaignValue → (n kind : ℕ) → Kind → (region size : ℕ) → CampaignValue × Outcome
begun_outcome c n kind k region size = (after_start c n kind k region size, Done size)

abbrev continued_outcome : CampaignValue → (n material size structure done : ℕ) → CampaignValue × Outcome
continued_outcome c n material size structure done = (after_building_on c n material size structure done, Done size)

-- Where `BUILD kind` of faction `f` for its unit `n` has no fault, the order's definition (`begin`) gives campaign `d`,
-- in which the structure is begun (`after_start`), and Done with `says`. `size` and `says` are how much the unit adds.
pub begin_done : (w : WorldValue) (c d : CampaignValue) (f n kind : ℕ) (u : Unit) (k : Kind) (size says : ℕ)
    → of_faction f (get c.units n) ≡ Some u → begin_fault w c u k ≡ None
    → d ≡ after_start c n kind k u.region size → says ≡ size → size ≡ size_added k u.holding 0
    → (d, Done says) ≡ faction_effect (begin w n kind k) c f n
unfolding begin
begin_done w c d f n kind u k size says is none first asked_is size_is =
    let whole = begun_outcome c n kind k u.region (size_added k u.holding 0) in
    let chain : faction_effect (begin w n kind k) c f n ≡ whole = ap (effect_on (begin w n kind k) c) is ∙ ap (λ o. fault_or c o whole) none in
    rw (first, asked_is, size_is) (sym chain)

-- Where `BUILD` of faction `f` for its unit `n` inside structure `s` of kind `k` has no fault, the order's definition
-- (`go_on`) gives campaign `d`, in which more is done (`after_building_on`), and Done with `says`. `size` and `says`
-- are how much the unit adds.
pub go_on_done : (w : WorldValue) (c d : CampaignValue) (f n : ℕ) (u : Unit) (s : Structure) (k : Kind) (size says : ℕ)
    → of_faction f (get c.units n) ≡ Some u → get c.structures u.structure ≡ Some s → slice_get w.kinds s.kind ≡ Some k
    → inside_fault u s k ≡ None → d ≡ after_building_on c n k.material size u.structure (s.done + size) → says ≡ size
    → size ≡ size_added k u.holding s.done → (d, Done says) ≡ faction_effect (go_on w n) c f n
unfolding go_on
go_on_done w c d f n u s k size says is there kind_is none first asked_is size_is =
    let added = size_added k u.holding s.done in
    let whole = continued_outcome c n k.material added u.structure (s.done + added) in
    let chain : faction_effect (go_on w n) c f n ≡ whole = ap (effect_on (go_on w n) c) is ∙ ap (go_on_at c n u) (structure_and_kind_found w c u.structure s k there kind_is) ∙ ap (λ o. fault_or c o whole) none in
    rw (first, asked_is, size_is) (sym chain)

-- what is done of a structure after an order of `BUILD` without a fault is at most `most_size`, if its kind's size is
pub done_small : (u : Unit) (s : Structure) (k : Kind) → inside_fault u s k ≡ None → k.size ≤ most_size
    → s.done + size_added k u.holding s.done ≤ most_size
done_small u s k none small =
    up (size_added k u.holding s.done) s.done k.size (size_missing k u.holding s.done) (can_go_on u s k none).missing
    small
  where
    up : (a d m : ℕ) → a ≤ m - d → d < m → m ≤ most_size → d + a ≤ most_size
    up a d m l h small = omega (arith, l, h, small)
