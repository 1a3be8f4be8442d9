-- Laws of lists of keys: whether keys are distinct or sorted, found key by key. f gives the key of an element, e tests
-- whether two keys are equal, R is a total order of keys, and d is any key.
use Rattle.std.proofs.Common.{◌≡◌, ℕ, ◌+◌, ◌-◌, ◌<◌, ◌≤◌, ◌⊎◌, inl, inr, List, [], ◌∷◌, Bool, false, drop, length, get_or, sym, ap, ◌∙◌, add-one, arith}
use Rattle.std.specs.Prelude.{Result, Ok, Err, IfOk, map}
use Rattle.std.specs.Bool.{Decides}
use Rattle.std.specs.declared.cmp.Ordering.{Ordering}
use Rattle.std.specs.declared.cmp.Ordering.TheVariants.{Less}
use Rattle.std.specs.Cmp.{IsTotalOrder}
use Rattle.std.specs.List.{AllByRecursion, IsDistinct}
use Rattle.std.specs.List.Sorted.{IsStrictlySortedBy}
use Rattle.std.proofs.Math.Seq.{drop-cons}
use Rattle.std.proofs.lemmas.Bool.{cases_order}
use Rattle.std.proofs.lemmas.List.{get_or_default}
use Rattle.std.proofs.lemmas.Map.Keys.{sorted_from_all_adjacent}

-- the keys from index i on are the key at i and then the keys from i + 1 on, if there is a key at i
pub rest_at : {K : Type 0} (keys : List K) (i : ℕ) (d : K) → i < length keys
    → drop i keys ≡ get_or keys i d ∷ drop (i + 1) keys
rest_at keys i d h = rw add-one (drop-cons keys i d h)

-- the keys from index i on are x and the keys from i + 1 on, if x is the key at i
pub next_of : {K : Type 0} (keys : List K) (i : ℕ) (x : K) → i < length keys → x ≡ get_or keys i x
    → drop i keys ≡ x ∷ drop (i + 1) keys
next_of keys i x h is = rest_at keys i x h ∙ ap (λ y. y ∷ drop (i + 1) keys) (sym is)

module _ {A B : Type 0} (f : A → B) (e : B → B → Bool) where
  each_map : (x : A) (xs : List A) → AllByRecursion (λ y. e (f x) (f y) ≡ false) xs
      → AllByRecursion (λ y. e (f x) y ≡ false) (map f xs)
  each_map x [] h = tt
  each_map x (y ∷ xs) h = (h.0, each_map x xs h.1)

  each_of_map : (x : A) (xs : List A) → AllByRecursion (λ y. e (f x) y ≡ false) (map f xs)
      → AllByRecursion (λ y. e (f x) (f y) ≡ false) xs
  each_of_map x [] h = tt
  each_of_map x (y ∷ xs) h = (h.0, each_of_map x xs h.1)

  -- what f gives for the elements of a list is distinct by e, if the elements are distinct when e compares what f gives
  pub IsDistinct-map : (xs : List A) → IsDistinct (λ x y. e (f x) (f y)) xs → IsDistinct e (map f xs)
  unfolding IsDistinct
  IsDistinct-map [] h = tt
  IsDistinct-map (x ∷ xs) h = (each_map x xs h.0, IsDistinct-map xs h.1)

  -- the elements of a list are distinct when e compares what f gives for them, if what f gives is distinct by e
  pub IsDistinct-of_map : (xs : List A) → IsDistinct e (map f xs) → IsDistinct (λ x y. e (f x) (f y)) xs
  unfolding IsDistinct
  IsDistinct-of_map [] h = tt
  IsDistinct-of_map (x ∷ xs) h = (each_of_map x xs h.0, IsDistinct-of_map xs h.1)

-- an Ok result that decides whether P holds also decides whether Q holds, if P and Q follow from each other
pub IfOk-decided : {E P Q : Type 0} (r : Result Bool E) → (P → Q) → (Q → P) → IfOk r (λ yes. Decides yes P)
    → IfOk r (λ yes. Decides yes Q)
IfOk-decided (Ok answer) there back h = (λ e. there (h.0 e), λ q. h.1 (back q))
IfOk-decided (Err x) there back h = tt

module _ {K : Type 0} {R : K → K → Ordering} (o : IsTotalOrder R) where
  -- each of the first i keys but the last is less than the one after it
  abbrev pub RisesTo : ℕ → List K → Type 0
  RisesTo i ks = (d : K) (k : ℕ) → k + 1 < i → R (get_or ks k d) (get_or ks (k + 1) d) ≡ Less

  -- keys, at most i of them, rise strictly, if each of the first i but the last is less than the one after it (RisesTo)
  pub rises : (ks : List K) (i : ℕ) → length ks ≤ i → RisesTo i ks → IsStrictlySortedBy R ks
  unfolding IsStrictlySortedBy
  rises [] i most steps = tt
  rises (x ∷ xs) i most steps = sorted_from_all_adjacent o (x ∷ xs) x (λ k l. steps x k (omega (arith, l, most)))

  -- if the first i keys, at least one, rise (RisesTo), and the last of them, x, is less than the next one, y, the first
  -- i + 1 keys rise
  pub rises_more : (ks : List K) (i : ℕ) (x y : K) → 1 ≤ i → i < length ks → x ≡ get_or ks (i - 1) x → y ≡ get_or ks i y
      → R x y ≡ Less → RisesTo i ks → RisesTo (i + 1) ks
  rises_more ks i x y some within x_is y_is above steps d k l = by_order (cases_order (k + 1) i)
    where
      last : k + 1 ≡ i → R (get_or ks k d) (get_or ks (k + 1) d) ≡ Less
      last e =
          let before : i - 1 ≡ k = omega (arith, e) in
          let first : get_or ks k d ≡ x = ap (λ n. get_or ks n d) (sym before) ∙ get_or_default ks (i - 1) d x (omega (arith, within)) ∙ sym x_is in
          let second : get_or ks (k + 1) d ≡ y = ap (λ n. get_or ks n d) e ∙ get_or_default ks i d y within ∙ sym y_is in
          rw (first, second) above

      by_order : (k + 1 ≡ i) ⊎ ((k + 1 < i) ⊎ (i < k + 1)) → R (get_or ks k d) (get_or ks (k + 1) d) ≡ Less
      by_order (inl e) = last e
      by_order (inr (inl below)) = steps d k below
      by_order (inr (inr beyond)) = absurd (omega (arith, l, beyond))
