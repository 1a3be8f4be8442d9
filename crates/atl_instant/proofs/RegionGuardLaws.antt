-- Laws of the code's map of which faction guards each region: it has exactly the factions that guard, when it is made
-- and when a unit begins to guard. To note a unit is to enter its faction under its region, if it guards.
use Rattle.std.proofs.Common.{◌≡◌, ◌==◌, ℕ, Bool, true, false, not, ◌&&◌, ◌||◌, List, [], ◌∷◌, Option, Some, None, refl, sym, ap, subst, ◌∙◌, inl, inr}
use Rattle.std.specs.Prelude.{if◌then◌else◌, nat_lt}
use Rattle.std.specs.List.{list_any}
use Rattle.std.proofs.lemmas.Bool.{cases_eq}
use Rattle.std.proofs.lemmas.Option.{same_Some}
use Rattle.std.specs.FinMap.{empty, entries, get, get-empty, insert}
use Rattle.std.specs.Ordering.{nat_cmp}
use Rattle.atl_world.proofs.GeneralLaws.{equal_itself, is_equal}
use Rattle.atl_records.specs.declared.event.EventFault.TheVariants.{Guarded, NoMen}
use Rattle.atl_records.specs.declared.records.Unit.{Unit}
use Rattle.atl_world.specs.Every.{EachEntry, Every}
use Rattle.atl_campaign.specs.Good.{AreOfOneFaction, guards}
use Rattle.atl_campaign.specs.Campaign.{CampaignValue, numbers_in_region, with_guard}
use Rattle.atl_world.proofs.EveryLaws.{each-from_every, every-from_each, every-insert, get-insert_other, none_some}
use Rattle.atl_campaign.proofs.RegionLaws.{get-insert_same}
use Rattle.atl_campaign.proofs.NumberListLaws.{IsListed, listed_passing, passing_listed}
use Rattle.atl_phase.specs.Outcomes.{first_fault}
use Rattle.atl_instant.specs.Guard.{guard_fault, guards_against, is_guarded_against}
use Rattle.atl_instant.specs.RegionGuards.{AreRegionGuards, GuardMap, IsGuardOf, guard_map_of, has_other_guard, with_guard_of, with_guards_of}
use Rattle.atl_instant.proofs.GuardingLaws.{flagged, flagged_is, guarding, own_guards}

-- ---- as units are noted

-- the units of campaign c, noted one by one in a map from each guarded region to the faction that guards it
module _ (c : CampaignValue) where
  abbrev AreUnits : List (ℕ × Unit) → Type 0
  AreUnits es = EachEntry (λ n u. get c.units n ≡ Some u) es

  -- some unit of the given faction guards the region in campaign c
  abbrev Held : (region faction : ℕ) → Type 0
  Held region faction = (n : ℕ) × (u : Unit) × (get c.units n ≡ Some u) × IsGuardOf region faction u

  -- one region, and one faction, both by number
  module _ (region faction : ℕ) where
    abbrev IsOwn : Unit → Type 0
    IsOwn u = guards u ≡ true → u.region ≡ region → u.faction ≡ faction

    -- the map keeps the faction of a region when a unit is noted, if the unit is of that faction or doesn't guard there
    one_stays : (m : GuardMap) (u : Unit) → IsOwn u → get m region ≡ Some faction
        → get (with_guard_of m u) region ≡ Some faction
    one_stays m u own at = by_test (guards u) own
      where
        by_test : (b : Bool) → (b ≡ true → u.region ≡ region → u.faction ≡ faction)
            → get (if b then insert m u.region u.faction else m) region ≡ Some faction
        by_test true own =
            elim (cases_eq u.region region) [
              | inl same ↦ ap (get (insert m u.region u.faction)) (sym same) ∙ get-insert_same m u.region u.faction ∙ ap Some (own refl same)
              | inr apart ↦ get-insert_other m u.region region u.faction (λ same. apart (sym same)) ∙ at
            ]
        by_test false own = at

    all_stay : (m : GuardMap) (es : List (ℕ × Unit)) → EachEntry (λ n u. IsOwn u) es → get m region ≡ Some faction
        → get (with_guards_of m es) region ≡ Some faction
    all_stay m [] own at = at
    all_stay m (e ∷ es) own at = all_stay (with_guard_of m e.1) es own.1 (one_stays m e.1 own.0 at)

    -- if a unit of the faction that the map has for the region guards there, this is still so once a unit is noted
    held_more : (m : GuardMap) (n : ℕ) (u : Unit) → get c.units n ≡ Some u
        → (get m region ≡ Some faction → Held region faction) → get (with_guard_of m u) region ≡ Some faction
        → Held region faction
    held_more m n u is old = by_test (guards u) refl
      where
        by_test : (b : Bool) → guards u ≡ b → get (if b then insert m u.region u.faction else m) region ≡ Some faction
            → Held region faction
        by_test true on at =
            elim (cases_eq u.region region) [
              | inl same ↦
                  let own = same_Some _ _ (sym (get-insert_same m u.region u.faction) ∙ ap (get (insert m u.region u.faction)) same ∙ at) in
                  (n, u, is, record { on_guard = on; in_region = same; belongs = own })
              | inr apart ↦ old (sym (get-insert_other m u.region region u.faction (λ same. apart (sym same))) ∙ at)
            ]
        by_test false on at = old at

  held_of : (m : GuardMap) (es : List (ℕ × Unit)) → AreUnits es → ((r f : ℕ) → get m r ≡ Some f → Held r f) → (r f : ℕ)
      → get (with_guards_of m es) r ≡ Some f → Held r f
  held_of m [] are old = old
  held_of m (e ∷ es) are old = held_of (with_guard_of m e.1) es are.1 (λ r f. held_more r f m e.0 e.1 are.0 (old r f))

  -- all units that guard one and the same region are of one faction (`one`)
  module _ (one : AreOfOneFaction guards c) where
    own_of : (n : ℕ) (u : Unit) → get c.units n ≡ Some u → guards u ≡ true → (es : List (ℕ × Unit)) → AreUnits es
        → EachEntry (λ k v. IsOwn u.region u.faction v) es
    own_of n u is on [] are = tt
    own_of n u is on (e ∷ es) are = (λ also same. one e.0 e.1 are.0 n u is also on same, own_of n u is on es are.1)

    noted_of : (m : GuardMap) (es : List (ℕ × Unit)) → AreUnits es
        → EachEntry (λ n u. guards u ≡ true → get (with_guards_of m es) u.region ≡ Some u.faction) es
    noted_of m [] are = tt
    noted_of m (e ∷ es) are =
        (λ on. all_stay e.1.region e.1.faction (with_guard_of m e.1) es (own_of e.0 e.1 are.0 on es are.1) (by_test (guards e.1) on), noted_of (with_guard_of m e.1) es are.1)
      where
        by_test : (b : Bool) → b ≡ true
            → get (if b then insert m e.1.region e.1.faction else m) e.1.region ≡ Some e.1.faction
        by_test true on = get-insert_same m e.1.region e.1.faction
        by_test false on = cc

    -- the map of a campaign has, for each region that units guard, their faction, and nothing else (`AreRegionGuards`),
    -- if all units that guard a region are of one faction
    pub holders_are : AreRegionGuards c (guard_map_of c)
    holders_are =
        let are = each-from_every (λ n u. get c.units n ≡ Some u) c.units (λ n u is. is) in
        record {
          noted = every-from_each (λ n u. guards u ≡ true → get (guard_map_of c) u.region ≡ Some u.faction) c.units (noted_of empty (entries c.units) are);
          held = held_of empty (entries c.units) are (λ r f at. none_some f (sym (get-empty nat_cmp r) ∙ at));
        }

-- ---- what the map says

any_listed : (p : ℕ → Bool) (ns : List ℕ) (k : ℕ) → IsListed k ns → p k ≡ true → list_any p ns ≡ true
any_listed p [] k listed t = absurd listed
any_listed p (n ∷ ns) k (inl same) t = ap (λ b. b || list_any p ns) (ap p (sym same) ∙ t)
any_listed p (n ∷ ns) k (inr rest) t = passes_later (p n) (any_listed p ns k rest t)
  where
    passes_later : (b : Bool) → list_any p ns ≡ true → (b || list_any p ns) ≡ true
    passes_later true t = refl
    passes_later false t = t

list_any_false : (p : ℕ → Bool) (ns : List ℕ) → ((k : ℕ) → IsListed k ns → p k ≡ false) → list_any p ns ≡ false
list_any_false p [] none = refl
list_any_false p (n ∷ ns) none =
    ap (λ b. b || list_any p ns) (none n (inl refl)) ∙ list_any_false p ns (λ k listed. none k (inr listed))

-- map m has exactly the factions that guard regions of campaign c (`are`); one region and one faction by number
module _ (c : CampaignValue) (m : GuardMap) (are : AreRegionGuards c m) (region faction : ℕ) where
  abbrev against : ℕ → Bool
  against n = guards_against faction (get c.units n)

  abbrev is_here : Unit → Bool
  is_here u = u.region == region

  all_own : ((u : Unit) → u.region ≡ region → get m u.region ≡ Some u.faction → u.faction ≡ faction)
      → is_guarded_against c region faction ≡ false
  all_own own =
      list_any_false against (numbers_in_region region c.units)
      (λ k listed. let (u, is, here) = listed_passing is_here c.units k listed in ap (guards_against faction) is ∙ by_test u (guards u) (are.noted k u is) (is_equal u.region region here))
    where
      by_test : (u : Unit) (b : Bool) → (b ≡ true → get m u.region ≡ Some u.faction) → u.region ≡ region
          → (b && not (u.faction == faction)) ≡ false
      by_test u true noted here = ap (λ f. not (f == faction)) (own u here (noted refl)) ∙ ap not (equal_itself faction)
      by_test u false noted here = refl

  -- by the map another faction than the given one guards the region exactly if this is so in the campaign
  pub map_agrees : has_other_guard faction (get m region) ≡ is_guarded_against c region faction
  map_agrees = by_holder (get m region) refl
    where
      other_holder : (holder : ℕ) → get m region ≡ Some holder → (b : Bool) → (holder == faction) ≡ b
          → not b ≡ is_guarded_against c region faction
      other_holder holder at true same =
          sym (all_own (λ u here noted. same_Some _ _ (sym noted ∙ ap (get m) here ∙ at) ∙ is_equal holder faction same))
      other_holder holder at false apart =
          let (n, u, is, guard) = are.held region holder at in
          let against_it : against n ≡ true =
          ap (guards_against faction) is ∙ ap (λ b. b && not (u.faction == faction)) guard.on_guard ∙ ap (λ f. not (f == faction)) guard.belongs ∙ ap not apart in
          sym (any_listed against (numbers_in_region region c.units) n (passing_listed is_here c.units n u is (ap (λ r. r == region) guard.in_region ∙ equal_itself region)) against_it)

      by_holder : (o : Option ℕ) → get m region ≡ o → has_other_guard faction o ≡ is_guarded_against c region faction
      by_holder None at = sym (all_own (λ u here noted. none_some u.faction (sym at ∙ ap (get m) (sym here) ∙ noted)))
      by_holder (Some holder) at = other_holder holder at (holder == faction) refl

-- The fault that the code finds, for a unit that would begin to guard, is that of the definition (`guard_fault`), where
-- map m has exactly the factions that guard. The code finds whether the unit has no men (`few`), and by the map whether
-- another faction guards its region (`held`).
pub found_fault_is : (c : CampaignValue) (m : GuardMap) → AreRegionGuards c m → (u : Unit) (few held : Bool)
    → (u.holding.men == 0) ≡ few → has_other_guard u.faction (get m u.region) ≡ held
    → first_fault ((few, NoMen) ∷ (held, Guarded) ∷ []) ≡ guard_fault c u
found_fault_is c m are u few held few_is held_is =
    ap (λ b. first_fault ((b, NoMen) ∷ (held, Guarded) ∷ [])) (sym few_is)
    ∙ ap (λ b. first_fault ((u.holding.men == 0, NoMen) ∷ (b, Guarded) ∷ [])) (sym held_is ∙ map_agrees c m are u.region u.faction)

-- ---- once a unit begins to guard

-- map m has exactly the factions that guard regions of campaign c (`are`), and unit n (u) begins to guard its region
module _ (c : CampaignValue) (m : GuardMap) (n : ℕ) (u : Unit) (is : get c.units n ≡ Some u) (are : AreRegionGuards c m) where
  abbrev set_now : GuardMap
  set_now = insert m u.region u.faction

  set_noted : is_guarded_against c u.region u.faction ≡ false
      → Every (λ k v. guards v ≡ true → get set_now v.region ≡ Some v.faction) (flagged c n u is).units
  set_noted none =
      every-insert (λ k v. guards v ≡ true → get set_now v.region ≡ Some v.faction) c.units n (guarding c n u is) (λ on. get-insert_same m u.region u.faction) (λ k v there on. by_region k v there on)
    where
      by_region : (k : ℕ) (v : Unit) → get c.units k ≡ Some v → guards v ≡ true → get set_now v.region ≡ Some v.faction
      by_region k v there on =
          elim (cases_eq v.region u.region) [
            | inl same ↦ ap (get set_now) same ∙ get-insert_same m u.region u.faction ∙ ap Some (sym (own_guards c u.region u.faction none k v there on same))
            | inr apart ↦ get-insert_other m u.region v.region u.faction apart ∙ are.noted k v there on
          ]

  set_held : nat_lt 0 u.holding.men ≡ true → (r f : ℕ) → get set_now r ≡ Some f → Held (flagged c n u is) r f
  set_held men r f at =
      elim (cases_eq r u.region) [
        | inl same ↦
            let own = same_Some _ _ (sym (get-insert_same m u.region u.faction) ∙ ap (get set_now) (sym same) ∙ at) in
            (n, guarding c n u is, get-insert_same c.units n (guarding c n u is), record { on_guard = men; in_region = sym same; belongs = own })
        | inr apart ↦
            let (k, v, there, guard) = are.held r f (sym (get-insert_other m u.region r u.faction apart) ∙ at) in
            (k, v, get-insert_other c.units n k (guarding c n u is) (λ same. apart (sym guard.in_region ∙ ap (λ (x : Unit). x.region) (same_Some _ _ (sym there ∙ ap (get c.units) same ∙ is)))) ∙ there, guard)
      ]

  -- After a unit with men began to guard a region that no other faction guards, the map with its faction set for the
  -- region has exactly the factions that guard (`AreRegionGuards`).
  pub holders_set : is_guarded_against c u.region u.faction ≡ false → nat_lt 0 u.holding.men ≡ true
      → AreRegionGuards (with_guard c n true) set_now
  holders_set none men =
      subst (λ d. AreRegionGuards d set_now) (sym (flagged_is c n u is))
      (record { noted = set_noted none; held = set_held men })
