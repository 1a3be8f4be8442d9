-- Laws of sorted keys: keys that are sorted and distinct rise strictly, and then each is less than the next. R gives
-- the order of two keys.
use Rattle.std.proofs.Common.{◌≡◌, ℕ, ◌+◌, ◌-◌, ◌<◌, ◌≤◌, List, [], ◌∷◌, false, length, get_or, refl, sym, ◌∙◌, true≢false, arith}
use Rattle.std.specs.Cmp.{IsTotalOrder}
use Rattle.std.specs.List.{IsDistinct}
use Rattle.std.specs.List.Sorted.{IsSorted, IsStrictlySortedBy}
use Rattle.std.specs.Ordering.{eq_by_cmp, is_eq, is_lt, ordering_reverse}
use Rattle.std.specs.declared.cmp.Ordering.{Ordering}
use Rattle.std.specs.declared.cmp.Ordering.TheVariants.{Less, Equal, Greater}
use Rattle.std.proofs.lemmas.List.{get_or_default}
use Rattle.std.proofs.lemmas.Map.Keys.{Less-from_sorted, apart_from_distinct, sorted_from_all_adjacent}

-- if p is the reverse of q, q is not Less, and p not Equal, p is Less
less_left : (p q : Ordering) → p ≡ ordering_reverse q → is_lt q ≡ false → is_eq p ≡ false → p ≡ Less
less_left Less q flips order apart = refl
less_left Equal q flips order apart = absurd (true≢false apart)
less_left Greater Less flips order apart = absurd (true≢false order)
less_left Greater Equal flips order apart = absurd (cc)
less_left Greater Greater flips order apart = absurd (cc)

module _ {K : Type 0} {R : K → K → Ordering} (o : IsTotalOrder R) where
  -- keys that are sorted by a total order R, no two of which are equal, rise strictly
  pub rise_if_distinct : (ks : List K) → IsSorted R ks → IsDistinct (eq_by_cmp R) ks → IsStrictlySortedBy R ks
  unfolding IsStrictlySortedBy
  rise_if_distinct [] order apart = tt
  rise_if_distinct (x ∷ xs) order apart = sorted_from_all_adjacent o (x ∷ xs) x next
    where
      -- each key is less than the one after it
      next : (k : ℕ) → k + 1 < length (x ∷ xs) → R (get_or (x ∷ xs) k x) (get_or (x ∷ xs) (k + 1) x) ≡ Less
      next k within =
          less_left _ _ (o.antisymm (get_or (x ∷ xs) k x) (get_or (x ∷ xs) (k + 1) x)) (order k x (omega arith) within)
          (apart_from_distinct (eq_by_cmp R) (x ∷ xs) k (k + 1) x apart (omega arith) within)

-- in keys that rise strictly, x at index i - 1 is less than y at index i, where i is from 1 to one below their count
pub less_at : {K : Type 0} (R : K → K → Ordering) (ks : List K) (i : ℕ) (x y : K) → 1 ≤ i → i < length ks
    → x ≡ get_or ks (i - 1) x → y ≡ get_or ks i y → IsStrictlySortedBy R ks → R x y ≡ Less
less_at R ks i x y some within x_is y_is rise =
    let first : get_or ks (i - 1) x ≡ x = sym x_is in
    let second : get_or ks i x ≡ y = get_or_default ks i x y within ∙ sym y_is in
    rw (first, second) at (Less-from_sorted R ks (i - 1) i x rise (omega (arith, some)) within)
