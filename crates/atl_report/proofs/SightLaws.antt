-- Laws of sight: the regions gathered from a faction's units are those that it sees.
-- `c` is the campaign, `f` the number of a faction, and `q` that of a region. `seen` is the set of numbers gathered, a
-- map from each of them to `tt`. `m` is a map by number, and `es` are pairs of it, each a number and its value.
use Rattle.std.proofs.Common.{◌≡◌, ◌==◌, ℕ, Bool, true, false, cond, ◌&&◌, ◌||◌, nat_lt, List, [], ◌∷◌, filter, map, Option, Some, None, refl, sym, ap, ◌∙◌, T}
use Rattle.std.specs.Prelude.{option_map}
use Rattle.std.specs.declared.cmp.Ordering.TheVariants.{Less, Equal, Greater}
use Rattle.std.specs.Ordering.{nat_cmp, eq_by_cmp, is_eq, is_lt}
use Rattle.std.specs.Cmp.{nat_cmp_total}
use Rattle.std.specs.List.{filter_map, list_any}
use Rattle.std.specs.FinMap.{FinMap, get, get-entries, get-empty, get-insert, get-from_sorted, find, empty, entries, entries_sorted, entries-from_sorted, from_sorted, is_sorted, same_map, nat_cmp-IsAntisymmetric}
use Rattle.std.specs.FinMap.Entries.{below_all, where_key, is_sorted-where_key, find-where_key}
use Rattle.std.proofs.lemmas.Bool.{and_parts}
use Rattle.atl_world.specs.Sums.{numbers_among, numbers_where}
use Rattle.atl_world.proofs.SumLaws.{chosen-cons}
use Rattle.atl_world.proofs.TrackLaws.{is_true}
use Rattle.atl_world.proofs.GeneralLaws.{key_equality_is_symmetric, key_itself}
use Rattle.atl_records.specs.declared.records.Region.{Region}
use Rattle.atl_records.specs.declared.records.Unit.{Unit}
use Rattle.atl_world.specs.Every.{EachEntry}
use Rattle.atl_campaign.specs.Campaign.{CampaignValue, numbers_of_faction}
use Rattle.atl_world.proofs.EveryLaws.{each-from_every}
use Rattle.atl_sight.specs.Watching.{is_watching, sees_region}
use Rattle.atl_report.specs.Gathering.{with_region, with_watched, with_all_watched}
use mathlib.Core.Bool.{or-false}
use Rattle.atl_world.proofs.SortedMapLaws.{above_compares_unequal}

-- ---- what holds of some pair

-- `p` is a test of the values of a map, and `g` one of what a look-up in it finds, None where it finds nothing
module _ {X : Type 0} (p : X → Bool) (g : Option X → Bool) where
  -- a pair in front, whose number is below all of `es`, makes no difference to whether `g` holds of some value looked
  -- up by the number of a pair of `es` that passes `p`
  past : (k : ℕ) (v : X) (fs es : List (ℕ × X)) → below_all nat_cmp k es ≡ true
      → list_any (λ n. g (find nat_cmp n ((k, v) ∷ fs))) (numbers_among p es)
      ≡ list_any (λ n. g (find nat_cmp n fs)) (numbers_among p es)
  past k v fs [] h = refl
  past k v fs (e ∷ es) h =
      let rest = past k v fs es (and_parts _ _ h).1 in
      let here : g (find nat_cmp e.0 ((k, v) ∷ fs)) ≡ g (find nat_cmp e.0 fs) = ap (λ b. g (cond b (Some v) (find nat_cmp e.0 fs))) (above_compares_unequal e.0 k (and_parts _ _ h).0) in
      ap (list_any (λ n. g (find nat_cmp n ((k, v) ∷ fs)))) (chosen-cons p e es)
      ∙ elim (p e.1) as (λ b. list_any (λ n. g (find nat_cmp n ((k, v) ∷ fs))) (cond b (e.0 ∷ numbers_among p es) (numbers_among p es)) ≡ list_any (λ n. g (find nat_cmp n fs)) (cond b (e.0 ∷ numbers_among p es) (numbers_among p es))) [
        | true ↦ ap (λ b. b || list_any (λ n. g (find nat_cmp n ((k, v) ∷ fs))) (numbers_among p es)) here ∙ ap (λ b. g (find nat_cmp e.0 fs) || b) rest
        | false ↦ rest
      ]
      ∙ ap (list_any (λ n. g (find nat_cmp n fs))) (sym (chosen-cons p e es))

  -- in a sorted list `g` holds of some value looked up by the number of a pair that passes `p`, just where some pair
  -- passes both `p` and `g`
  some_found : (es : List (ℕ × X)) → is_sorted nat_cmp es ≡ true
      → list_any (λ n. g (find nat_cmp n es)) (numbers_among p es) ≡ list_any (λ e. p e.1 && g (Some e.1)) es
  some_found [] h = refl
  some_found (e ∷ es) h =
      let rest = past e.0 e.1 es es (and_parts _ _ h).0 ∙ some_found es (and_parts _ _ h).1 in
      let here : g (find nat_cmp e.0 (e ∷ es)) ≡ g (Some e.1) = ap (λ b. g (cond b (Some e.1) (find nat_cmp e.0 es))) (key_itself e.0) in
      ap (list_any (λ n. g (find nat_cmp n (e ∷ es)))) (chosen-cons p e es)
      ∙ elim (p e.1) as (λ b. list_any (λ n. g (find nat_cmp n (e ∷ es))) (cond b (e.0 ∷ numbers_among p es) (numbers_among p es)) ≡ ((b && g (Some e.1)) || list_any (λ e. p e.1 && g (Some e.1)) es)) [
        | true ↦ ap (λ b. b || list_any (λ n. g (find nat_cmp n (e ∷ es))) (numbers_among p es)) here ∙ ap (λ b. g (Some e.1) || b) rest
        | false ↦ rest
      ]

  some_where : (m : FinMap nat_cmp X)
      → list_any (λ n. g (get m n)) (numbers_where p m) ≡ list_any (λ e. p e.1 && g (Some e.1)) (entries m)
  some_where m =
      ap (λ (f : ℕ → Option X). list_any (λ n. g (f n)) (numbers_where p m)) (λ i n. get-entries m n i)
      ∙ some_found (entries m) (is_true _ (entries_sorted m))

-- ---- who watches where

abbrev watches_in : ℕ → ℕ → Option Unit → Bool
watches_in f q None = false
watches_in f q (Some u) = is_watching f (Some u) && eq_by_cmp nat_cmp q u.region

-- For `region_is_seen_by_unit`: three tests give the same in another order. They say whether a unit is the faction's
-- (`a`), has men (`m`), and is in the region (`b`, or `e`, which is equal).
regrouped : (a m e b : Bool) → e ≡ b → (a && ((a && m) && e)) ≡ (b && (a && m))
regrouped true true e true h = h
regrouped true true e false h = h
regrouped true false e true h = refl
regrouped true false e false h = refl
regrouped false m e true h = refl
regrouped false m e false h = refl

-- a faction sees a region exactly if one of its units with men is in it
region_is_seen_by_unit : (c : CampaignValue) (f q : ℕ)
    → list_any (λ n. watches_in f q (get c.units n)) (numbers_of_faction f c.units) ≡ sees_region c f q
region_is_seen_by_unit c f q =
    some_where (λ (u : Unit). u.faction == f) (watches_in f q) c.units
    ∙ ap (λ (t : ℕ × Unit → Bool). list_any t (entries c.units)) (λ i e. regrouped (e.1.faction == f) (nat_lt 0 e.1.holding.men) (eq_by_cmp nat_cmp q e.1.region) (e.1.region == q) (key_equality_is_symmetric q e.1.region) i)
    ∙ sym (some_where (λ (u : Unit). u.region == q) (is_watching f) c.units)

-- ---- the numbers gathered

-- replaces a value by `tt`, the only value of the unit type, so that of a pair its number alone is left
abbrev forget_value : {V : Type 0} → V → Prim.Unit {0}
forget_value v = tt

abbrev number_alone : {V : Type 0} → ℕ × V → ℕ × Prim.Unit {0}
number_alone e = (e.0, tt)

-- pairs whose values are replaced by `tt` keep their numbers and their order; a look-up finds `tt` where it found a
-- value before
module _ {V : Type 0} where
  find-alone : (q : ℕ) (es : List (ℕ × V))
      → find nat_cmp q (map number_alone es) ≡ option_map forget_value (find nat_cmp q es)
  find-alone q [] = refl
  find-alone q (e ∷ es) =
      elim (is_eq (nat_cmp q e.0)) as
      (λ b. cond b (Some tt) (find nat_cmp q (map number_alone es)) ≡ option_map forget_value (cond b (Some e.1) (find nat_cmp q es))) [
        | true ↦ refl
        | false ↦ find-alone q es
      ]

  below-alone : (k : ℕ) (es : List (ℕ × V)) → below_all nat_cmp k (map number_alone es) ≡ below_all nat_cmp k es
  below-alone k [] = refl
  below-alone k (e ∷ es) = ap (λ b. is_lt (nat_cmp k e.0) && b) (below-alone k es)

  sorted-alone : (es : List (ℕ × V)) → is_sorted nat_cmp (map number_alone es) ≡ is_sorted nat_cmp es
  sorted-alone [] = refl
  sorted-alone (e ∷ es) =
      ap (λ b. b && is_sorted nat_cmp (map number_alone es)) (below-alone e.0 es)
      ∙ ap (λ b. below_all nat_cmp e.0 es && b) (sorted-alone es)

  alone_chosen : (b : Bool) (o : Option V)
      → option_map forget_value (cond b o None) ≡ cond b (option_map forget_value o) None
  alone_chosen true o = refl
  alone_chosen false o = refl

-- `f` is a faction's number, and `q` a region's, which is looked up in the set gathered from the faction's units
module _ (c : CampaignValue) (f q : ℕ) where
  abbrev there : ℕ → Option (Prim.Unit {0})
  there k = option_map forget_value (get c.regions k)

  -- after region `k` is added to the gathered regions, `q` is one of them if it was (b), or if it is `k` and the
  -- campaign has it
  one_region : (seen : FinMap nat_cmp (Prim.Unit {0})) (k : ℕ) (b : Bool) (o : Option Region) → get c.regions k ≡ o
      → get seen q ≡ cond b (there q) None
      → get (with_region seen k o) q ≡ cond (eq_by_cmp nat_cmp q k || b) (there q) None
  one_region seen k b None is was =
      was ∙ elim (nat_cmp q k) as (λ o. nat_cmp q k ≡ o → cond b (there q) None ≡ cond (is_eq o || b) (there q) None) [
        | Less ↦ λ _. refl
        | Equal ↦ λ e. absent b (there q) (ap there (nat_cmp-IsAntisymmetric q k e) ∙ ap (option_map forget_value) is)
        | Greater ↦ λ _. refl
      ] refl
    where
      absent : (b : Bool) (o : Option (Prim.Unit {0})) → o ≡ None → cond b o None ≡ o
      absent true o h = refl
      absent false o h = sym h
  one_region seen k b (Some r) is was =
      get-insert nat_cmp_total seen k tt q
      ∙ elim (nat_cmp q k) as
      (λ o. nat_cmp q k ≡ o → cond (is_eq o) (Some tt) (get seen q) ≡ cond (is_eq o || b) (there q) None) [
        | Less ↦ λ _. was
        | Equal ↦ λ e. sym (ap there (nat_cmp-IsAntisymmetric q k e) ∙ ap (option_map forget_value) is)
        | Greater ↦ λ _. was
      ] refl

  one_watched : (seen : FinMap nat_cmp (Prim.Unit {0})) (b : Bool) (o : Option Unit)
      → get seen q ≡ cond b (there q) None
      → get (with_watched c f seen o) q ≡ cond (watches_in f q o || b) (there q) None
  one_watched seen b None was = was
  one_watched seen b (Some u) was =
      elim (is_watching f (Some u)) as (λ w. get (cond w (with_region seen u.region (get c.regions u.region)) seen) q ≡ cond ((w && eq_by_cmp nat_cmp q u.region) || b) (there q) None) [
        | true ↦ one_region seen u.region b (get c.regions u.region) refl was
        | false ↦ was
      ]

  or_order : (a w b : Bool) → (a || (w || b)) ≡ ((w || a) || b)
  or_order true true b = refl
  or_order true false b = refl
  or_order false true b = refl
  or_order false false b = refl

  all_watched : (ns : List ℕ) (seen : FinMap nat_cmp (Prim.Unit {0})) (b : Bool) → get seen q ≡ cond b (there q) None
      → get (with_all_watched c f ns seen) q ≡ cond (list_any (λ n. watches_in f q (get c.units n)) ns || b) (there q) None
  all_watched [] seen b was = was
  all_watched (n ∷ ns) seen b was =
      all_watched ns (with_watched c f seen (get c.units n)) (watches_in f q (get c.units n) || b) (one_watched seen b (get c.units n) was)
      ∙ ap (λ t. cond t (there q) None) (or_order (list_any (λ n. watches_in f q (get c.units n)) ns) (watches_in f q (get c.units n)) b)

  get-with_all_watched : get (with_all_watched c f (numbers_of_faction f c.units) empty) q
      ≡ cond (sees_region c f q) (there q) None
  get-with_all_watched =
      all_watched (numbers_of_faction f c.units) empty false (get-empty nat_cmp q)
      ∙ ap (λ t. cond t (there q) None) (or-false (list_any (λ n. watches_in f q (get c.units n)) (numbers_of_faction f c.units)) ∙ region_is_seen_by_unit c f q)

-- a set that has just those numbers of a map that pass the test `t` has them in ascending order
pub chosen_numbers : {V : Type 0} (m : FinMap nat_cmp V) (t : ℕ → Bool) (seen : FinMap nat_cmp (Prim.Unit {0}))
    → ((q : ℕ) → get seen q ≡ cond (t q) (option_map forget_value (get m q)) None)
    → entries seen ≡ map (λ e. (e.0, tt)) (filter (λ e. t e.0) (entries m))
chosen_numbers {V} m t seen are =
    let chosen : List (ℕ × V) = where_key nat_cmp t (entries m) in
    let numbers : List (ℕ × Prim.Unit {0}) = map number_alone chosen in
    let sorted : T (is_sorted nat_cmp numbers) = rw (sorted-alone chosen) (is_sorted-where_key nat_cmp t (entries m) (entries_sorted m)) in
    ap entries (same_map nat_cmp_total nat_cmp-IsAntisymmetric seen (from_sorted numbers) (λ q.
    are q ∙ sym (get-from_sorted nat_cmp numbers q sorted ∙ find-alone q chosen
    ∙ ap (option_map forget_value) (find-where_key nat_cmp t q (λ x e. ap t (sym (nat_cmp-IsAntisymmetric q x e))) (entries m) ∙ ap (λ o. cond (t q) o None) (sym (get-entries m q)))
    ∙ alone_chosen (t q) (get m q))))
    ∙ entries-from_sorted nat_cmp numbers sorted

-- the numbers gathered from the faction's units are those of the regions that it sees, in ascending order
pub entries-with_all_watched : (c : CampaignValue) (f : ℕ)
    → entries (with_all_watched c f (numbers_of_faction f c.units) empty)
    ≡ map (λ e. (e.0, tt)) (filter (λ e. sees_region c f e.0) (entries c.regions))
entries-with_all_watched c f =
    chosen_numbers c.regions (sees_region c f) (with_all_watched c f (numbers_of_faction f c.units) empty)
    (λ q. get-with_all_watched c f q)

-- values looked up by the numbers of chosen pairs
module _ {A V : Type 0} (m : FinMap nat_cmp V) (make : ℕ → V → A) where
  -- if the map `m` has each pair of `es`, then to look up in `m` the values of those pairs that pass `p`, by number,
  -- and apply `make` to each, gives what `make` gives of these pairs
  looked_up : (p : ℕ × V → Bool) (es : List (ℕ × V)) → EachEntry (λ n v. get m n ≡ Some v) es
      → filter_map (λ (e : ℕ × Prim.Unit {0}). option_map (make e.0) (get m e.0)) (map number_alone (filter p es)) ≡ map (λ e. make e.0 e.1) (filter p es)
  looked_up p [] h = refl
  looked_up p (e ∷ es) h =
      elim (p e) as (λ b. filter_map (λ (e : ℕ × Prim.Unit {0}). option_map (make e.0) (get m e.0)) (map number_alone (cond b (e ∷ filter p es) (filter p es))) ≡ map (λ e. make e.0 e.1) (cond b (e ∷ filter p es) (filter p es))) [
        | true ↦ rw h.0 (ap (λ l. make e.0 e.1 ∷ l) (looked_up p es h.1))
        | false ↦ looked_up p es h.1
      ]

-- Take the pairs of a map, each a number and its value, that pass `p`. To look up their values by number, and apply
-- `make` to each, gives what `make` gives of these pairs.
pub values_looked_up : {A V : Type 0} (m : FinMap nat_cmp V) (make : ℕ → V → A) (p : ℕ × V → Bool)
    → filter_map (λ (e : ℕ × Prim.Unit {0}). option_map (make e.0) (get m e.0)) (map (λ e. (e.0, tt)) (filter p (entries m)))
    ≡ map (λ e. make e.0 e.1) (filter p (entries m))
values_looked_up m make p = looked_up m make p (entries m) (each-from_every (λ n v. get m n ≡ Some v) m (λ n v is. is))
