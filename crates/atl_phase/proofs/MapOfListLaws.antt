-- Laws of the map that a list of entries makes: the map and what it lists don't depend on the order of the list. An
-- entry is a pair of a key and its value. R compares keys or elements, and o says that it is a total order. A map lists
-- its entries by rising key.
use Rattle.std.proofs.Common.{◌≡◌, ℕ, ◌+◌, Bool, true, false, cond, List, [], ◌∷◌, map, filter, get_or, Option, Some, None, refl, sym, ap, subst, ◌∙◌, IsPermutation, map-id, arith}
use Rattle.std.specs.declared.cmp.Ordering.{Ordering}
use Rattle.std.specs.declared.cmp.Ordering.TheVariants.{Less, Equal, Greater}
use Rattle.std.specs.Ordering.{eq_by_cmp, is_eq, is_lt, ordering_reverse}
use Rattle.std.specs.Cmp.{IsTotalOrder, eq_by_cmp_equiv, on_total}
use Rattle.std.specs.Map.{lookup, keys_of}
use Rattle.std.specs.List.{IsDistinct, AllByRecursion}
use Rattle.std.specs.List.Sorted.{IsSortedBy, IsStrictlySortedBy}
use Rattle.std.specs.FinMap.{FinMap, find, put, entries, entries-insert, entries_sorted, is_sorted, from_entries, get-entries, get-from_entries, same_map, IsAntisymmetric}
use Rattle.std.specs.FinMap.Entries.{below_all}
use Rattle.std.proofs.lemmas.Bool.{and_parts}
use Rattle.std.proofs.lemmas.List.Kept.{IsStrictlySortedBy-filter}
use Rattle.std.proofs.lemmas.List.Sorted.{IsPermutation-map, IsPermutation-sym, Contains-permutation}
use Rattle.std.proofs.lemmas.Map.Entries.{lookup-filter-values, option_filter}
use Rattle.std.proofs.lemmas.Map.Keys.{IsDistinct-IsPermutation, IsDistinct-from_sorted, apart_from_distinct, sorted_from_all_adjacent}
use Rattle.std.proofs.lemmas.Map.Views.{Contains-from_lookup, lookup-from_Contains, tells_apart}
use Rattle.atl_world.proofs.GeneralLaws.{is_true}
use Rattle.atl_world.proofs.MappedLaws.{is_less}
use Rattle.atl_world.proofs.KeyLaws.{IsDistinct-map}
use Rattle.atl_phase.proofs.MappedLaws.{no_entries}

alike : {X : Type 0} (a b : Option X) → ((v : X) → a ≡ Some v → b ≡ Some v) → ((v : X) → b ≡ Some v → a ≡ Some v)
    → a ≡ b
alike None None f g = refl
alike None (Some w) f g = g w refl
alike (Some v) b f g = sym (f v refl)

left_less : (r : Ordering) → is_lt (ordering_reverse r) ≡ false → is_eq r ≡ false → r ≡ Less
left_less Less up apart = refl
left_less Equal up apart = cc
left_less Greater up apart = cc

-- lists of elements that a total order R compares
module _ {X : Type 0} {R : X → X → Ordering} (o : IsTotalOrder R) where
  strictly : (xs : List X) → IsDistinct (eq_by_cmp R) xs → IsSortedBy (λ x y. is_lt (R x y)) xs
      → IsStrictlySortedBy R xs
  unfolding IsStrictlySortedBy
  strictly [] apart up = tt
  strictly (x ∷ xs) apart up =
      let at = λ (i : ℕ). get_or (x ∷ xs) i x in
      sorted_from_all_adjacent o (x ∷ xs) x (λ k h.
      left_less (R (at k) (at (k + 1))) (ap is_lt (sym (o.antisymm (at (k + 1)) (at k))) ∙ up k x (omega arith) h)
      (apart_from_distinct (eq_by_cmp R) (x ∷ xs) k (k + 1) x apart (omega arith) h))

  -- a list `xs` without two equal elements is strictly sorted once it is sorted into `ys`
  pub sorted_strictly : (xs ys : List X) → IsPermutation xs ys → IsDistinct (eq_by_cmp R) xs
      → IsSortedBy (λ x y. is_lt (R x y)) ys → IsStrictlySortedBy R ys
  sorted_strictly xs ys p apart =
      strictly ys (IsDistinct-IsPermutation (eq_by_cmp R) (eq_by_cmp_equiv o).symm xs ys p apart)

-- entries of a key (K) with a value (X), and maps from keys to values, where a total order R compares the keys
module _ {K X : Type 0} {R : K → K → Ordering} (o : IsTotalOrder R) where
  abbrev same_entry_key : K × X → K × X → Bool
  same_entry_key e f = eq_by_cmp R e.0 f.0

  -- the comparison of two entries by their keys
  abbrev pub by_key : K × X → K × X → Ordering
  by_key e f = R e.0 f.0

  keys_apart : (es : List (K × X)) → IsDistinct same_entry_key es → IsDistinct (eq_by_cmp R) (keys_of es)
  keys_apart es = IsDistinct-map (λ (e : K × X). e.0) (eq_by_cmp R) es

  -- `entry` makes of each element of a list the entry of a map: its key with its value
  module _ {A : Type 0} (entry : A → K × X) where
    put_first : (e : K × X) (xs : List A) → AllByRecursion (λ x. R e.0 (entry x).0 ≡ Less) xs
        → put R e.0 e.1 (map entry xs) ≡ e ∷ map entry xs
    put_first e [] h = refl
    put_first e (x ∷ xs) h = rw h.0

    -- the map made of the entries of the list `xs` lists just these, if the list is strictly sorted by key
    pub entries_of : (xs : List A) → IsStrictlySortedBy (λ x y. R (entry x).0 (entry y).0) xs
        → entries (from_entries {R = R} (map entry xs)) ≡ map entry xs
    unfolding IsStrictlySortedBy
    entries_of [] h = no_entries R
    entries_of (x ∷ xs) h =
        entries-insert o (from_entries (map entry xs)) (entry x).0 (entry x).1
        ∙ ap (put R (entry x).0 (entry x).1) (entries_of xs h.1) ∙ put_first (entry x) xs h.0

  all_less : (x : K) (es : List (K × X)) → below_all R x es ≡ true → AllByRecursion (λ f. R x f.0 ≡ Less) es
  all_less x [] h = tt
  all_less x (e ∷ es) h = let parts = and_parts _ _ h in (is_less _ parts.0, all_less x es parts.1)

  rising : (es : List (K × X)) → is_sorted R es ≡ true → IsStrictlySortedBy by_key es
  unfolding IsStrictlySortedBy
  rising [] h = tt
  rising (e ∷ es) h = let parts = and_parts _ _ h in (all_less e.0 es parts.0, rising es parts.1)

  -- a map m lists its entries by rising key, and no key twice
  pub entries_rise : (m : FinMap R X) → IsStrictlySortedBy by_key (entries m)
  entries_rise m = rising (entries m) (is_true _ (entries_sorted m))

  -- `exact`: only equal keys compare as equal
  module _ (exact : IsAntisymmetric R) where
    -- the search of a map's entries `es` for a key q is the general look-up of a list by a test of equality
    pub find_is : (q : K) (es : List (K × X)) → find R q es ≡ lookup (eq_by_cmp R q) es
    find_is q [] = refl
    find_is q (e ∷ es) = ap (cond (eq_by_cmp R q e.0) (Some e.1)) (find_is q es)

    found : (es fs : List (K × X)) → IsPermutation es fs → IsDistinct same_entry_key fs → (q : K) (v : X)
        → find R q es ≡ Some v → find R q fs ≡ Some v
    found es fs p apart q v h =
        find_is q fs
        ∙ lookup-from_Contains (eq_by_cmp_equiv o) q v fs (keys_apart fs apart) (Contains-permutation es fs (q, v) p (Contains-from_lookup (tells_apart exact) q v es (sym (find_is q es) ∙ h)))

    -- a list of entries in two orders, `es` and `fs`, makes the same map, if no two entries have the same key
    pub from_entries-permutation : (es fs : List (K × X)) → IsPermutation es fs → IsDistinct same_entry_key es
        → from_entries {R = R} es ≡ from_entries fs
    from_entries-permutation es fs p apart =
        let other = IsDistinct-IsPermutation same_entry_key (λ e f. (eq_by_cmp_equiv o).symm e.0 f.0) es fs p apart in
        same_map o exact _ _ (λ q. get-from_entries o es q ∙ alike (find R q es) (find R q fs) (found es fs p other q) (found fs es (IsPermutation-sym es fs p) apart q) ∙ sym (get-from_entries o fs q))

    abbrev passing : (X → Bool) → List (K × X) → List (K × X)
    passing p es = filter (λ e. p e.1) es

    -- if no two entries have the same key, a search by key among those whose values pass a test finds the value that a
    -- search among all finds, if this value passes, and else None
    find-passing : (p : X → Bool) (es : List (K × X)) → IsDistinct same_entry_key es → (q : K)
        → find R q (passing p es) ≡ option_filter p (find R q es)
    find-passing p es apart q =
        find_is q (passing p es) ∙ lookup-filter-values (eq_by_cmp_equiv o) p q es (keys_apart es apart)
        ∙ ap (option_filter p) (sym (find_is q es))

    -- the map of those of the entries `es` whose values pass a test p lists what passes of the entries that the map of
    -- all lists, if no two have the same key
    pub entries-passing : (p : X → Bool) (es : List (K × X)) → IsDistinct same_entry_key es
        → entries (from_entries {R = R} (passing p es)) ≡ passing p (entries (from_entries {R = R} es))
    entries-passing p es apart =
        let m : FinMap R X = from_entries es in
        let fs = entries m in
        let rise = entries_rise m in
        ap entries (same_map o exact (from_entries (passing p es)) (from_entries (passing p fs)) (λ q.
        get-from_entries o (passing p es) q ∙ find-passing p es apart q
        ∙ ap (option_filter p) (sym (get-from_entries o es q) ∙ get-entries m q)
        ∙ sym (find-passing p fs (IsDistinct-from_sorted by_key fs rise) q) ∙ sym (get-from_entries o (passing p fs) q)))
        ∙ subst (λ es. entries (from_entries {R = R} es) ≡ es) (map-id (passing p fs)) (entries_of (λ e. e) (passing p fs) (IsStrictlySortedBy-filter by_key (λ e. p e.1) fs rise))

    -- the map made of the entries of the elements `os` lists the entries of these elements sorted by key (`list`), if
    -- no two elements have the same key
    pub entries-sorted : {A : Type 0} (entry : A → K × X) (os list : List A) → IsPermutation os list
        → IsDistinct (λ x y. same_entry_key (entry x) (entry y)) os
        → IsSortedBy (λ x y. is_lt (R (entry x).0 (entry y).0)) list → entries (from_entries {R = R} (map entry os)) ≡ map entry list
    entries-sorted entry os list p apart up =
        ap entries (from_entries-permutation (map entry os) (map entry list) (IsPermutation-map entry os list p) (IsDistinct-map entry same_entry_key os apart))
        ∙ entries_of entry list (sorted_strictly (on_total (λ x. (entry x).0) o) os list p apart up)
