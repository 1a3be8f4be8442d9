-- Laws of the rule of guards: checking each region's list of units decides whether its guards are of one faction. A
-- list of numbers passes `one_holder` if the factions of its numbers, where they have one, are all the same, and are
-- the holder if one is given. A guard is a unit whose guard flag is set and that has men.
use Rattle.std.proofs.Common.{◌≡◌, ◌==◌, ◌⊎◌, inl, inr, ℕ, suc, ◌<◌, Bool, true, false, cond, List, [], ◌∷◌, length, get_or, map, filter, Option, Some, None, option_and_then, refl, sym, ap, ◌∙◌, subst, arith}
use Rattle.std.proofs.lemmas.Bool.{and_parts}
use Rattle.std.proofs.lemmas.Bool.Decides.{Decides-eqb}
use Rattle.std.proofs.lemmas.Option.{same_Some}
use Rattle.std.specs.Cmp.Derive.{both_true}
use Rattle.std.specs.declared.cmp.Ordering.TheVariants.{Less, Equal, Greater}
use Rattle.std.specs.Option.{option_or}
use Rattle.std.specs.Ordering.{nat_cmp, is_eq}
use Rattle.std.specs.FinMap.{FinMap, get, find, entries, get-entries, nat_cmp-IsAntisymmetric}
use Rattle.atl_world.specs.Sums.{numbers_where}
use Rattle.atl_world.proofs.SumLaws.{chosen-cons}
use Rattle.atl_records.specs.declared.records.Unit.{Unit}
use Rattle.atl_campaign.specs.Campaign.{CampaignValue, numbers_in_region}
use Rattle.atl_world.specs.Every.{Every, HasValue}
use Rattle.atl_campaign.specs.Good.{AreOfOneFaction, guards}
use Rattle.atl_state.specs.Deciding.{agree, guard_of, one_holder}
use Rattle.atl_world.proofs.EveryLaws.{none_some, passes-listed}

-- ---- a number that is listed

abbrev IsListed : ℕ → List ℕ → Type 0
IsListed n [] = ⊥
IsListed n (m ∷ ms) = (n ≡ m) ⊎ IsListed n ms

position_of : (n : ℕ) (ns : List ℕ) → IsListed n ns → (i : ℕ) × (i < length ns) × (get_or ns i 0 ≡ n)
position_of n [] h = absurd h
position_of n (m ∷ ms) (inl same) = (0, omega arith, sym same)
position_of n (m ∷ ms) (inr h) = let (i, l, is) = position_of n ms h in (suc i, omega (arith, l), is)

module _ {V : Type 0} (p : V → Bool) where
  abbrev chosen : List (ℕ × V) → List ℕ
  chosen es = map (λ e. e.0) (filter (λ e. p e.1) es)

  still_in : (b : Bool) (n k : ℕ) (ns : List ℕ) → IsListed n ns → IsListed n (cond b (k ∷ ns) ns)
  still_in true n k ns h = inr h
  still_in false n k ns h = h

  chosen_in : (es : List (ℕ × V)) (n : ℕ) (v : V) → find nat_cmp n es ≡ Some v → p v ≡ true → IsListed n (chosen es)
  chosen_in [] n v is h = none_some v is
  chosen_in (e ∷ es) n v is h =
      subst (IsListed n) (sym (chosen-cons p e es)) (elim (nat_cmp n e.0) as (λ o. nat_cmp n e.0 ≡ o → cond (is_eq o) (Some e.1) (find nat_cmp n es) ≡ Some v → IsListed n (cond (p e.1) (e.0 ∷ chosen es) (chosen es))) [
        | Less ↦ λ _ is. still_in (p e.1) n e.0 (chosen es) (chosen_in es n v is h)
        | Equal ↦ λ o same. let one : e.1 ≡ v = cc in subst (λ b. IsListed n (cond b (e.0 ∷ chosen es) (chosen es))) (sym (ap p one ∙ h)) (inl (nat_cmp-IsAntisymmetric n e.0 o))
        | Greater ↦ λ _ is. still_in (p e.1) n e.0 (chosen es) (chosen_in es n v is h)
      ] refl is)

  listed : (m : FinMap nat_cmp V) (n : ℕ) (v : V) → get m n ≡ Some v → p v ≡ true → IsListed n (numbers_where p m)
  listed m n v is h = chosen_in (entries m) n v (sym (get-entries m n) ∙ is) h

  of_listed : (m : FinMap nat_cmp V) (n : ℕ) → IsListed n (numbers_where p m)
      → (v : V) × (get m n ≡ Some v) × (p v ≡ true)
  of_listed m n h = let (i, l, is) = position_of n (numbers_where p m) h in subst (λ k. (v : V) × (get m k ≡ Some v) × (p v ≡ true)) is (passes-listed p m i 0 l)

-- ---- the faction that guards a region, its holder

agree_true : (a b : Option ℕ) → ((x y : ℕ) → a ≡ Some x → b ≡ Some y → x ≡ y) → agree a b ≡ true
agree_true None b h = refl
agree_true (Some x) None h = refl
agree_true (Some x) (Some y) h = (Decides-eqb x y).1 (h x y refl refl)

module _ (faction : ℕ → Option ℕ) where
  -- if a list passes one_holder with holder x, x is the faction of each of its numbers that has one
  like_holder : (x : ℕ) (ns : List ℕ) → one_holder faction (Some x) ns ≡ true → (n y : ℕ) → IsListed n ns
      → faction n ≡ Some y → y ≡ x
  like_holder x [] h n y mine is = absurd mine
  like_holder x (m ∷ ms) h n y (inl same) is =
      (Decides-eqb y x).0 (ap (λ o. agree o (Some x)) (sym (ap faction (sym same) ∙ is)) ∙ (and_parts _ _ h).0)
  like_holder x (m ∷ ms) h n y (inr mine) is = like_holder x ms (and_parts _ _ h).1 n y mine is

  abbrev Alike : List ℕ → Type 0
  Alike ns = (n k x y : ℕ) → IsListed n ns → IsListed k ns → faction n ≡ Some x → faction k ≡ Some y → x ≡ y

  -- if a list passes one_holder with its first number's faction, each number of it that has a faction has this one
  first_holds : (m z : ℕ) (ms : List ℕ) → faction m ≡ Some z → one_holder faction (Some z) ms ≡ true → (n x : ℕ)
      → IsListed n (m ∷ ms) → faction n ≡ Some x → x ≡ z
  first_holds m z ms first h n x (inl same) is = same_Some x z (sym is ∙ ap faction same ∙ first)
  first_holds m z ms first h n x (inr mine) is = like_holder z ms h n x mine is

  not_first : (m : ℕ) (ms : List ℕ) → faction m ≡ None → (n x : ℕ) → IsListed n (m ∷ ms) → faction n ≡ Some x
      → IsListed n ms
  not_first m ms none n x (inl same) is = none_some x (sym none ∙ ap faction (sym same) ∙ is)
  not_first m ms none n x (inr mine) is = mine

  alike : (ns : List ℕ) → one_holder faction None ns ≡ true → Alike ns
  alike [] h n k x y a b is js = absurd a
  alike (m ∷ ms) h n k x y a b is js =
      elim (faction m) as (λ o. faction m ≡ o → one_holder faction o ms ≡ true → x ≡ y) [
        | None ↦ λ none rest. alike ms rest n k x y (not_first m ms none n x a is) (not_first m ms none k y b js) is js
        | Some z ↦ λ first rest. first_holds m z ms first rest n x a is ∙ sym (first_holds m z ms first rest k y b js)
      ] refl (and_parts _ _ h).1

  -- if there is a holder, it is the faction of each number in the list that has one
  abbrev Fits : Option ℕ → List ℕ → Type 0
  Fits holder ns = (n x y : ℕ) → IsListed n ns → faction n ≡ Some x → holder ≡ Some y → x ≡ y

  -- if the numbers of `m ∷ ms` are of one faction (Alike), the holder's if any (Fits), those of `ms` are of the
  -- holder's faction, or of m's without a holder
  fits_on : (holder : Option ℕ) (m : ℕ) (ms : List ℕ) → Alike (m ∷ ms) → Fits holder (m ∷ ms)
      → Fits (option_or holder (faction m)) ms
  fits_on None m ms same fits n x y mine is first = same n m x y (inr mine) (inl refl) is first
  fits_on (Some z) m ms same fits n x y mine is held = fits n x y (inr mine) is held

  -- A list passes one_holder with a holder, or None, if its numbers' factions are all the same (Alike), and the holder
  -- if there is one (Fits).
  hold : (holder : Option ℕ) (ns : List ℕ) → Alike ns → Fits holder ns → one_holder faction holder ns ≡ true
  hold holder [] same fits = refl
  hold holder (m ∷ ms) same fits =
      both_true (agree_true (faction m) holder (λ x y is held. fits m x y (inl refl) is held))
      (hold (option_or holder (faction m)) ms (λ n k x y a b is js. same n k x y (inr a) (inr b) is js) (fits_on holder m ms same fits))

-- ---- the guards of all regions

guard_of_guarding_unit : (c : CampaignValue) (n : ℕ) (u : Unit) → get c.units n ≡ Some u → guards u ≡ true
    → guard_of c n ≡ Some u.faction
guard_of_guarding_unit c n u is on =
    ap (option_and_then (λ (v : Unit). cond (guards v) (Some v.faction) None)) is
    ∙ ap (λ b. cond b (Some u.faction) None) on

cond_some_means_true : (b : Bool) (f x : ℕ) → cond b (Some f) None ≡ Some x → (b ≡ true) × (f ≡ x)
cond_some_means_true true f x e = (refl, same_Some f x e)
cond_some_means_true false f x e = none_some x e

guard_means_unit_guards : (c : CampaignValue) (n x : ℕ) (u : Unit) → get c.units n ≡ Some u → guard_of c n ≡ Some x
    → (guards u ≡ true) × (u.faction ≡ x)
guard_means_unit_guards c n x u is e =
    cond_some_means_true (guards u) u.faction x
    (sym (ap (option_and_then (λ (v : Unit). cond (guards v) (Some v.faction) None)) is) ∙ e)

-- the guards in region r's list of units are of one faction: the list passes one_holder
abbrev pub IsHeldByOne : CampaignValue → ℕ → Type 0
IsHeldByOne c r = one_holder (guard_of c) None (numbers_in_region r c.units) ≡ true

-- the guards of each region are of one faction, if those in each region's list are, and each unit's region exists
pub guards_are_of_one_faction : (c : CampaignValue) → Every (λ n u. HasValue c.regions u.region) c.units
    → Every (λ r x. IsHeldByOne c r) c.regions → AreOfOneFaction guards c
guards_are_of_one_faction c placed held n u is m v there on also same =
    let r = u.region in
    let (x, known) = placed n u is in
    let here = Decides-eqb r r in
    let others = Decides-eqb v.region r in
    alike (guard_of c) (numbers_in_region r c.units) (held r x known) n m u.faction v.faction (listed (λ (w : Unit). w.region == r) c.units n u is (here.1 refl)) (listed (λ (w : Unit). w.region == r) c.units m v there (others.1 (sym same)))
    (guard_of_guarding_unit c n u is on) (guard_of_guarding_unit c m v there also)

-- the guards in each region's list are of one faction, if the guards of each region are
pub lists_are_held_by_one : (c : CampaignValue) → AreOfOneFaction guards c → Every (λ r x. IsHeldByOne c r) c.regions
lists_are_held_by_one c one r x known =
    hold (guard_of c) None (numbers_in_region r c.units) alike_here (λ n y z mine is e. none_some z e)
  where
    alike_here : Alike (guard_of c) (numbers_in_region r c.units)
    alike_here n k y z a b is js =
        let (u, there, here) = of_listed (λ (w : Unit). w.region == r) c.units n a in
        let (v, also, others) = of_listed (λ (w : Unit). w.region == r) c.units k b in
        let (on, own) = guard_means_unit_guards c n y u there is in
        let (off, other) = guard_means_unit_guards c k z v also js in
        sym own
        ∙ one n u there k v also on off ((Decides-eqb u.region r).0 here ∙ sym ((Decides-eqb v.region r).0 others))
        ∙ other
