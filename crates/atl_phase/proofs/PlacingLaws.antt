-- Laws of a unit that goes to another structure of its region, or to none, while structures change owners (handovers):
-- the campaign stays steady, and other units stay. A refit (`IsRefit`) is a campaign in which one unit is in another
-- structure of its region, and structures have other owners and names. The right owner of a structure (`IsOwned`) is a
-- unit inside it, or nobody (0) where no unit is inside.
use Rattle.std.proofs.Common.{◌≡◌, ◌≢◌, ◌==◌, ◌&&◌, ℕ, ◌≤◌, Bool, true, false, Option, Some, None, refl, sym, ap, subst, ◌∙◌, arith}
use Rattle.std.proofs.lemmas.Bool.{true≢false, eq-eqb}
use Rattle.std.proofs.lemmas.Option.{same_Some}
use Rattle.std.specs.Prelude.{option_map, if◌then◌else◌}
use Rattle.std.specs.FinMap.{get}
use Rattle.atl_world.specs.Worlds.{WorldValue}
use Rattle.atl_world.specs.ByNumber.{is_land_at}
use Rattle.atl_world.proofs.GeneralLaws.{is_equal, is_unequal}
use Rattle.atl_records.specs.declared.records.Structure.{Structure}
use Rattle.atl_records.specs.declared.records.Unit.{Unit}
use Rattle.atl_world.specs.Every.{Every}
use Rattle.atl_campaign.specs.Good.{IsEarly, IsOwned, IsSteady, is_ship}
use Rattle.atl_records.specs.declared.books.Thing.{Thing}
use Rattle.atl_campaign.specs.Owners.{after_handover, heir, with_position, with_place, with_place_at}
use Rattle.atl_campaign.specs.Campaign.{CampaignValue}
use Rattle.atl_campaign.specs.Totals.{total}
use Rattle.atl_world.proofs.EveryLaws.{get-insert_other, other_number}
use Rattle.atl_campaign.proofs.InsideLaws.{is_no_zero}
use Rattle.atl_campaign.proofs.LeavingLaws.{owned_by}
use Rattle.atl_campaign.proofs.RegionLaws.{changed-known, get-insert_same}
use Rattle.atl_phase.specs.Bounds.{StepsWell, nothing_remaining}
use Rattle.atl_phase.proofs.MeaningLaws.{same_month_by}
use Rattle.atl_phase.proofs.OwnerLaws.{heir_owns, owner_stays}
use Rattle.atl_phase.proofs.RefitLaws.{IsRefit, IsRelabelled, early-refitted, refitted, steady-refitted, total-refitted}
use Rattle.atl_phase.proofs.StructureLaws.{changed_else, get-after_handover, handed_is, handed_on, len-after_handover, placed_cases}
use Rattle.atl_phase.proofs.UnbookedLaws.{unbooked_well}

-- to map g over an option o, and then f over the result, is to map f of g over o once
pub mapped_twice : {A : Type 0} (f g : A → A) (o : Option A)
    → option_map f (option_map g o) ≡ option_map (λ y. f (g y)) o
mapped_twice f g None = refl
mapped_twice f g (Some y) = refl

relabelled_if : (b : Bool) (to : ℕ) (y : Structure) → IsRelabelled y (if b then owned_by to y else y)
relabelled_if true to y = record { kind = refl; region = refl; done = refl; name = λ old. old }
relabelled_if false to y = record { kind = refl; region = refl; done = refl; name = λ old. old }

relabelled_twice : (x y z : Structure) → IsRelabelled x y → IsRelabelled y z → IsRelabelled x z
relabelled_twice x y z one two =
    record { kind = two.kind ∙ one.kind; region = two.region ∙ one.region; done = two.done ∙ one.done; name = λ old. two.name (one.name old) }

-- in a steady campaign unit n (u) owns no structure q but the one that it is inside
pub owns_no_other : (w : WorldValue) (c : CampaignValue) (n : ℕ) (u : Unit) → get c.units n ≡ Some u → IsSteady w c
    → (q : ℕ) (y : Structure) → get c.structures q ≡ Some y → q ≢ u.structure → y.owner ≢ n
owns_no_other w c n u is steady q y there other own =
    let least = (steady.numbers.units n u is).0 in
    let (v, here, inside) = (steady.owners q y there).owned (λ none. absurd (omega (arith, own, none, least))) in
    let one : Some v ≡ Some u = sym here ∙ ap (get c.units) own ∙ is in
    let unit : v ≡ u = cc in
    other (sym inside ∙ ap (λ (x : Unit). x.structure) unit)

-- in the steady campaign c unit n (u) goes from the structure that it is inside to another one, s; structure 0
-- stands for none
module _ (w : WorldValue) (c : CampaignValue) (n : ℕ) (u : Unit) (s : ℕ) (is : get c.units n ≡ Some u) (steady : IsSteady w c) (apart : u.structure ≢ s) where
  abbrev old_place : ℕ
  old_place = u.structure

  abbrev next_owner : ℕ
  next_owner = heir c old_place n

  abbrev moved : Unit
  moved = record u { structure = s }

  -- the campaign with unit n inside structure s, before structures change owners
  abbrev begun : CampaignValue
  begun = with_position c n u.region s

  -- the campaign with unit n inside structure s, after a handover of the structure that the unit left to its next owner
  abbrev after_leaving : CampaignValue
  after_leaving = after_handover begun old_place n next_owner

  -- the campaign after unit n went: the structure that unit n left has its next owner, and the one that unit n entered
  -- is owned by unit n if nobody owned it
  abbrev after_entering : CampaignValue
  after_entering = after_handover after_leaving s 0 n

  abbrev owner_after : ℕ → Structure → Structure
  owner_after q y = handed_on s 0 n q (handed_on old_place n next_owner q y)

  -- the campaign after unit n went, given as a refit: unit n inside structure s, and each structure with its new owner
  abbrev pub placed_campaign : CampaignValue
  placed_campaign = refitted w c n u s is after_entering.structures owner_after

  placed_is : with_place c n u.region s ≡ after_entering
  unfolding with_place
  placed_is =
      ap (with_place_at c n u.region s) is
      ∙ ap (λ b. if b then begun else after_entering) (other_number old_place s apart)

  placed_campaign_is : after_entering ≡ placed_campaign
  placed_campaign_is =
      handed_is after_leaving s 0 n ∙ ap (λ (d : CampaignValue). record d { structures = after_entering.structures }) (handed_is begun old_place n next_owner)
      ∙ ap (λ m. record c { units = m; structures = after_entering.structures }) (changed-known (λ (x : Unit). record x { region = u.region; structure = s }) c.units n u is)

  -- putting unit n inside structure s of its region (`with_place`) makes the campaign `placed_campaign`
  pub place_is : with_place c n u.region s ≡ placed_campaign
  place_is = placed_is ∙ placed_campaign_is

  at : (q : ℕ)
      → get after_entering.structures q
      ≡ option_map (λ y. handed_on s 0 n q (handed_on old_place n next_owner q y)) (get c.structures q)
  at q =
      get-after_handover after_leaving s 0 n q
      ∙ ap (option_map (handed_on s 0 n q)) (get-after_handover begun old_place n next_owner q)
      ∙ mapped_twice (handed_on s 0 n q) (handed_on old_place n next_owner q) (get c.structures q)

  same_but_owner : (q : ℕ) (y : Structure) → IsRelabelled y (handed_on s 0 n q (handed_on old_place n next_owner q y))
  same_but_owner q y =
      let x = handed_on old_place n next_owner q y in
      relabelled_twice y x (handed_on s 0 n q x) (relabelled_if (q == old_place && y.owner == n) next_owner y) (relabelled_if (q == s && x.owner == 0) n x)

  -- ---- the owners of the structures after the move

  numbered_from_one : Every (λ k v. 1 ≤ k) c.units
  numbered_from_one k v there = (steady.numbers.units k v there).0

  away : (k : ℕ) → k ≢ n → get placed_campaign.units k ≡ get c.units k
  away k other = get-insert_other c.units n k moved other

  inside_it : (v : Unit) → get placed_campaign.units n ≡ Some v → v.structure ≡ s
  inside_it v there =
      sym (ap (λ (x : Unit). x.structure) (same_Some moved v (sym (get-insert_same c.units n moved) ∙ there)))

  still_owned : (q : ℕ) (y : Structure) → get c.structures q ≡ Some y → y.owner ≢ n → (y.owner ≡ 0 → s ≢ q)
      → IsOwned placed_campaign q y
  still_owned q y there other free =
      owner_stays c placed_campaign n away q y (steady.owners q y there) other
      (λ none v here inside. free none (sym (inside_it v here) ∙ inside))

  entered_owned : (q : ℕ) (y : Structure) → get c.structures q ≡ Some y → q ≢ old_place → q ≡ s → (z : Bool)
      → (y.owner == 0) ≡ z → IsOwned placed_campaign q (if z then owned_by n y else y)
  entered_owned q y there other here true t = record {
    owned = λ some. (moved, get-insert_same c.units n moved, sym here);
    ownerless = λ none. let least = numbered_from_one n u is in absurd (omega (arith, none, least));
  }
  entered_owned q y there other here false t =
      still_owned q y there (owns_no_other w c n u is steady q y there other)
      (λ none. absurd (true≢false (sym (eq-eqb y.owner 0 none) ∙ t)))

  -- a structure with its owner after both handovers, by whether it is the one left (`a`), was unit n's own (`e`),
  -- and is the one entered (`b`)
  abbrev after_handovers : (a e b : Bool) → Structure → Structure
  after_handovers a e b y = let x = if a && e then owned_by next_owner y else y in if b && x.owner == 0 then owned_by n x else x

  by_tests : (q : ℕ) (y : Structure) → get c.structures q ≡ Some y → (a e b : Bool) → (q == old_place) ≡ a
      → (y.owner == n) ≡ e → (q == s) ≡ b → IsOwned placed_campaign q (after_handovers a e b y)
  by_tests q y there true e true p r t = absurd (apart (sym (is_equal q old_place p) ∙ is_equal q s t))
  by_tests q y there true true false p r t =
      subst (λ k. IsOwned placed_campaign k (owned_by next_owner y)) (sym (is_equal q old_place p))
      (heir_owns c placed_campaign n away old_place (λ zero. is_no_zero c.structures c.next_structure steady.next.structures q y there (is_equal q old_place p ∙ zero)) numbered_from_one (λ v here inside. apart (sym inside ∙ inside_it v here)) y)
  by_tests q y there true false false p r t =
      still_owned q y there (is_unequal y.owner n r) (λ none here. is_unequal q s t (sym here))
  by_tests q y there false e true p r t =
      entered_owned q y there (is_unequal q old_place p) (is_equal q s t) (y.owner == 0) refl
  by_tests q y there false e false p r t =
      still_owned q y there (owns_no_other w c n u is steady q y there (is_unequal q old_place p))
      (λ none here. is_unequal q s t (sym here))

  -- ---- the campaign

  -- structure s, if not 0, is in the unit's region (`inside`), and where the region is water, s is a ship (`afloat`)
  module _ (inside : s ≢ 0 → (x : Structure) × (get c.structures s ≡ Some x) × (x.region ≡ u.region)) (afloat : is_land_at w u.region ≡ false → (x : Structure) × (get c.structures s ≡ Some x) × (is_ship w x ≡ true)) where
    refit : IsRefit w c n u s is after_entering.structures owner_after
    refit = record {
      at = at;
      count = len-after_handover after_leaving s 0 n ∙ len-after_handover begun old_place n next_owner;
      same = λ q y there. same_but_owner q y;
      owned = λ q y there. by_tests q y there (q == old_place) (y.owner == n) (q == s) refl refl refl;
      inside = inside;
      afloat = afloat;
    }

    -- a steady campaign is steady after unit n went inside structure s, if s is none (0) or a structure of the unit's
    -- region, and a ship where the region is water
    pub placed_steady : IsSteady w placed_campaign
    placed_steady = steady-refitted w c n u s is after_entering.structures owner_after refit steady

    -- an early campaign is early after unit n went inside structure s, if s is none (0) or a structure of the unit's
    -- region, and a ship where the region is water
    pub placed_early : IsEarly w c → IsEarly w placed_campaign
    placed_early early = early-refitted w c n u s is after_entering.structures owner_after refit early

    -- the total of each thing is the same after unit n went
    pub placed_total : (t : Thing) → total placed_campaign t ≡ total c t
    placed_total = total-refitted w c n u s is after_entering.structures owner_after

-- in the early campaign c unit n (u) goes from the structure that it is inside to another one, s; 0 is none
module _ (w : WorldValue) (c : CampaignValue) (n : ℕ) (u : Unit) (s : ℕ) (is : get c.units n ≡ Some u) (early : IsEarly w c) (apart : u.structure ≢ s) where
  -- A move to another structure of the region, or on land to none (0), keeps an early campaign early, its month and its
  -- balance, and books nothing (`StepsWell`). On water the structure must be a ship.
  pub place_well : (s ≢ 0 → (x : Structure) × (get c.structures s ≡ Some x) × (x.region ≡ u.region))
      → (is_land_at w u.region ≡ false → (x : Structure) × (get c.structures s ≡ Some x) × (is_ship w x ≡ true))
      → StepsWell IsEarly nothing_remaining w c (with_place c n u.region s)
  place_well inside afloat =
      let steady = early.steady in
      subst (StepsWell IsEarly nothing_remaining w c) (sym (place_is w c n u s is steady apart))
      (unbooked_well w c (placed_campaign w c n u s is steady apart) (placed_early w c n u s is steady apart inside afloat early)
      (same_month_by refl) refl (placed_total w c n u s is steady apart inside afloat))

-- putting unit n in region r and structure s leaves each other unit k as it is
pub place_stays : (c : CampaignValue) (n r s k : ℕ) → k ≢ n → get (with_place c n r s).units k ≡ get c.units k
place_stays c n r s k apart =
    placed_cases (λ d. get d.units k ≡ get c.units k) c n r s refl (changed_else (λ (x : Unit). record x { region = r; structure = s }) c.units n k apart (get c.units n))
    (λ d q from to h. ap (λ (e : CampaignValue). get e.units k) (handed_is d q from to) ∙ h)
