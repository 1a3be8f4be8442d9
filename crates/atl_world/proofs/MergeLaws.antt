-- Laws of two sorted lists merged into one: its numbers, its order, and the merge in place. The merge in place fills
-- the first list, which has room for all, from the end of the list on, beginning with the largest number. xs and ys are
-- the two lists. During the merge in place the first `own` numbers of xs and `left` of ys are left to merge, and `now`
-- is the list in place, which has the merged numbers from index `own` + `left` on. n is put in at `index`.
use Rattle.std.proofs.Common.{◌≡◌, ℕ, suc, ◌+◌, ◌-◌, ◌<◌, ◌≤◌, Bool, true, false, ◌||◌, List, [], ◌∷◌, ◌++◌, length, get_or, take, drop, set, Option, refl, sym, ap, subst, ◌∙◌, inl, inr, arith}
use Rattle.std.specs.Prelude.{IsTrue}
use Rattle.std.proofs.lemmas.Bool.{cases_order, false≢true}
use Rattle.std.proofs.lemmas.List.{append_assoc, length-take-le, get_or-take, take_more, drop-set, take-append-drop}
use Rattle.std.proofs.lemmas.Map.Keys.{non_decreasing_from_sorted}
use Rattle.std.specs.Iterator.{YieldsFirstBy}
use Rattle.std.specs.List.{list_any, AllByRecursion}
use Rattle.std.specs.List.Sorted.{IsStrictlySortedBy}
use Rattle.std.specs.Ordering.{nat_cmp, eq_by_cmp, match_ordering, ordering_reverse}
use Rattle.std.specs.declared.cmp.Ordering.{Ordering}
use Rattle.std.specs.declared.cmp.Ordering.TheVariants.{Less, Equal, Greater}
use Rattle.std.specs.Cmp.{nat_cmp_total, nat_cmp_is}
use Rattle.std.specs.FinMap.{nat_cmp-IsAntisymmetric}
use Rattle.std.specs.Set.{sorted_merge, merge_step}
use Rattle.std.specs.FinSet as numbers
use Rattle.atl_world.specs.Tracking.{IsAscendingListOf}
use Rattle.atl_world.proofs.GeneralLaws.{same_key}
use Rattle.atl_world.proofs.SetLaws.{sets_are_equal, or_swaps_first_two, or_is_associative}
use mathlib.Core.Bool.{or-false}

abbrev IsRising : List ℕ → Type 0
IsRising xs = IsStrictlySortedBy nat_cmp xs

-- two sorted lists merged into one; a number that both have comes once
abbrev merged : List ℕ → List ℕ → List ℕ
merged xs ys = sorted_merge nat_cmp true xs ys

-- the merge of x ∷ xs with a list, where `on` gives the merge of xs with any list
abbrev merge_with_first : ℕ → List ℕ → (List ℕ → List ℕ) → List ℕ → List ℕ
merge_with_first x xs on ys = merge_step nat_cmp true x xs on ys

by_rank : (P : List ℕ → Type 0) (k : Ordering) (xs ys zs : List ℕ) → (k ≡ Less → P xs) → (k ≡ Equal → P ys)
    → (k ≡ Greater → P zs) → P (match_ordering k xs ys zs)
by_rank P Less xs ys zs a b c = a refl
by_rank P Equal xs ys zs a b c = b refl
by_rank P Greater xs ys zs a b c = c refl

-- ---- the numbers of two merged lists

or_repeated : (t u a b : Bool) → t ≡ u → (t || (a || b)) ≡ ((t || a) || (u || b))
or_repeated true u a b e = refl
or_repeated false u a b e = ap (λ v. a || (v || b)) e

-- n is the number that is looked for in the lists
module _ (n : ℕ) where
  abbrev is_listed : List ℕ → Bool
  is_listed xs = list_any (eq_by_cmp nat_cmp n) xs

  -- n is in the merge of x ∷ xs and a second list exactly if it is in one of them, given that this is so for xs. (`on`
  -- merges xs with a list.)
  has-step : (x : ℕ) (xs : List ℕ) (on : List ℕ → List ℕ)
      → ((ys : List ℕ) → is_listed (on ys) ≡ (is_listed xs || is_listed ys)) → (ys : List ℕ)
      → is_listed (merge_with_first x xs on ys) ≡ (is_listed (x ∷ xs) || is_listed ys)
  has-step x xs on h [] = sym (or-false (is_listed (x ∷ xs)))
  has-step x xs on h (y ∷ ys) =
      by_rank (λ zs. is_listed zs ≡ (is_listed (x ∷ xs) || is_listed (y ∷ ys))) (nat_cmp x y) _ _ _
      (λ _. ap (λ b. eq_by_cmp nat_cmp n x || b) (h (y ∷ ys)) ∙ sym (or_is_associative (eq_by_cmp nat_cmp n x) (is_listed xs) (is_listed (y ∷ ys))))
      (λ e. ap (λ b. eq_by_cmp nat_cmp n x || b) (h ys) ∙ or_repeated (eq_by_cmp nat_cmp n x) (eq_by_cmp nat_cmp n y) (is_listed xs) (is_listed ys) (ap (eq_by_cmp nat_cmp n) (nat_cmp-IsAntisymmetric x y e)))
      (λ _. ap (λ b. eq_by_cmp nat_cmp n y || b) (has-step x xs on h ys) ∙ or_swaps_first_two (eq_by_cmp nat_cmp n y) (is_listed (x ∷ xs)) (is_listed ys))

  has-merged : (xs ys : List ℕ) → is_listed (merged xs ys) ≡ (is_listed xs || is_listed ys)
  has-merged [] ys = refl
  has-merged (x ∷ xs) ys = has-step x xs (merged xs) (has-merged xs) ys

pub from_list-merged : (xs ys : List ℕ)
    → numbers.from_list {R = nat_cmp} (merged xs ys) ≡ numbers.union (numbers.from_list xs) (numbers.from_list ys)
from_list-merged xs ys = sets_are_equal _ _ (λ n.
    numbers.contains-from_list nat_cmp_total (merged xs ys) n ∙ has-merged n xs ys
    ∙ sym (numbers.contains-union nat_cmp_total (numbers.from_list xs) (numbers.from_list ys) n ∙ (λ i. numbers.contains-from_list nat_cmp_total xs n i || numbers.contains-from_list nat_cmp_total ys n i)))

-- ---- two merged lists are sorted

-- P is a condition that all numbers of both lists meet
module _ (P : ℕ → Type 0) where
  all-step : (x : ℕ) (xs : List ℕ) (on : List ℕ → List ℕ) → P x → AllByRecursion P xs
      → ((ys : List ℕ) → AllByRecursion P ys → AllByRecursion P (on ys)) → (ys : List ℕ) → AllByRecursion P ys
      → AllByRecursion P (merge_with_first x xs on ys)
  all-step x xs on p a h [] b = (p, a)
  all-step x xs on p a h (y ∷ ys) b =
      by_rank (AllByRecursion P) (nat_cmp x y) _ _ _ (λ _. (p, h (y ∷ ys) b)) (λ _. (p, h ys b.1))
      (λ _. (b.0, all-step x xs on p a h ys b.1))

  all-merged : (xs ys : List ℕ) → AllByRecursion P xs → AllByRecursion P ys → AllByRecursion P (merged xs ys)
  all-merged [] ys a b = b
  all-merged (x ∷ xs) ys a b = all-step x xs (merged xs) a.0 a.1 (λ zs. all-merged xs zs a.1) ys b

abbrev Above : ℕ → List ℕ → Type 0
Above x ys = AllByRecursion (λ y. nat_cmp x y ≡ Less) ys

above_lower : (x y : ℕ) (ys : List ℕ) → nat_cmp x y ≡ Less → Above y ys → Above x ys
above_lower x y [] l a = tt
above_lower x y (z ∷ ys) l a = (nat_cmp_total.trans x y z l a.0, above_lower x y ys l a.1)

sorted-step : (x : ℕ) (xs : List ℕ) → IsRising (x ∷ xs) → ((ys : List ℕ) → IsRising ys → IsRising (merged xs ys))
    → (ys : List ℕ) → IsRising ys → IsRising (merged (x ∷ xs) ys)
unfolding IsStrictlySortedBy
sorted-step x xs s h [] t = s
sorted-step x xs s h (y ∷ ys) t = by_rank IsRising (nat_cmp x y) _ _ _
    (λ e. (all-merged (λ z. nat_cmp x z ≡ Less) xs (y ∷ ys) s.0 (e, above_lower x y ys e t.0), h (y ∷ ys) t))
    (λ e. (all-merged (λ z. nat_cmp x z ≡ Less) xs ys s.0 (subst (λ z. Above z ys) (sym (nat_cmp-IsAntisymmetric x y e)) t.0), h ys t.1))
    (λ e.
    let less : nat_cmp y x ≡ Less = nat_cmp_total.antisymm y x ∙ ap ordering_reverse e in
    (all-merged (λ z. nat_cmp y z ≡ Less) (x ∷ xs) ys (less, above_lower y x xs less s.0) t.0, sorted-step x xs s h ys t.1))

pub sorted-merged : (xs ys : List ℕ) → IsRising xs → IsRising ys → IsRising (merged xs ys)
unfolding IsStrictlySortedBy
sorted-merged [] ys s t = t
sorted-merged (x ∷ xs) ys s t = sorted-step x xs s (λ zs. sorted-merged xs zs s.1) ys t

-- if two ascending lists have exactly the numbers of two sets, the merged list is ascending, with those of the union
pub Lists-merged : (s t : numbers.FinSet nat_cmp) (xs ys : List ℕ) → IsAscendingListOf s xs → IsAscendingListOf t ys
    → IsAscendingListOf (numbers.union s t) (merged xs ys)
Lists-merged s t xs ys p q = record {
  ascending = sorted-merged xs ys p.ascending q.ascending;
  all = from_list-merged xs ys ∙ (λ i. numbers.union (p.all i) (q.all i));
}

-- ---- a merge in place, from the largest number down

-- all numbers of a list are less than n
abbrev pub Under : List ℕ → ℕ → Type 0
Under xs n = AllByRecursion (λ x. nat_cmp x n ≡ Less) xs

pub merged_alone : (xs : List ℕ) → merged xs [] ≡ xs
merged_alone [] = refl
merged_alone (x ∷ xs) = refl

-- Suppose r is the first number of the list xs (None without one), and the list `us` is the rest of it. This then also
-- holds of both lists merged with the empty list ys.
pub first_alone : (xs us ys : List ℕ) (r : Option ℕ) → length ys ≡ 0 → YieldsFirstBy (λ n. n) (λ s. s) xs r us
    → YieldsFirstBy (λ n. n) (λ s. s) (merged xs ys) r (merged us ys)
first_alone xs us (y ∷ ys) r e h = absurd (omega (arith, e))
first_alone xs us [] r e h = rw (merged_alone xs, merged_alone us) h

all_longer : (k : Ordering) (ts xs ys zs us vs ws : List ℕ) → us ≡ xs ++ ts → vs ≡ ys ++ ts → ws ≡ zs ++ ts
    → match_ordering k us vs ws ≡ match_ordering k xs ys zs ++ ts
all_longer Less ts xs ys zs us vs ws a b c = a
all_longer Equal ts xs ys zs us vs ws a b c = b
all_longer Greater ts xs ys zs us vs ws a b c = c

-- n is the last number of one of two lists, and greater than all numbers of the other
module _ (n : ℕ) where
  -- n at the end of x ∷ xs is at the end of its merge with lesser numbers, given that this is so for xs. (`on` merges
  -- xs with a list, `more` merges xs with n at its end.)
  own_last-step : (x : ℕ) (xs : List ℕ) (on more : List ℕ → List ℕ)
      → ((ys : List ℕ) → Under ys n → more ys ≡ on ys ++ n ∷ []) → (ys : List ℕ) → Under ys n
      → merge_with_first x (xs ++ n ∷ []) more ys ≡ merge_with_first x xs on ys ++ n ∷ []
  own_last-step x xs on more h [] u = refl
  own_last-step x xs on more h (y ∷ ys) u =
      all_longer (nat_cmp x y) (n ∷ []) _ _ _ _ _ _ (ap (λ zs. x ∷ zs) (h (y ∷ ys) u)) (ap (λ zs. x ∷ zs) (h ys u.1))
      (ap (λ zs. y ∷ zs) (own_last-step x xs on more h ys u.1))

  own_last-only : (ys : List ℕ) → Under ys n → merged (n ∷ []) ys ≡ ys ++ n ∷ []
  own_last-only [] u = refl
  own_last-only (y ∷ ys) u =
      let greater : nat_cmp n y ≡ Greater = nat_cmp_total.antisymm n y ∙ ap ordering_reverse u.0 in
      ap (λ k. match_ordering k (n ∷ y ∷ ys) (n ∷ ys) (y ∷ merged (n ∷ []) ys)) greater
      ∙ ap (λ zs. y ∷ zs) (own_last-only ys u.1)

  own_last : (xs ys : List ℕ) → Under ys n → merged (xs ++ n ∷ []) ys ≡ merged xs ys ++ n ∷ []
  own_last [] ys u = own_last-only ys u
  own_last (x ∷ xs) ys u = own_last-step x xs (merged xs) (merged (xs ++ n ∷ [])) (own_last xs) ys u

  other_last-step : (x : ℕ) (xs : List ℕ) (on : List ℕ → List ℕ) → nat_cmp x n ≡ Less → on [] ≡ xs
      → ((ys : List ℕ) → on (ys ++ n ∷ []) ≡ on ys ++ n ∷ []) → (ys : List ℕ)
      → merge_with_first x xs on (ys ++ n ∷ []) ≡ merge_with_first x xs on ys ++ n ∷ []
  other_last-step x xs on l e h [] =
      ap (λ k. match_ordering k (x ∷ on (n ∷ [])) (x ∷ on []) (n ∷ x ∷ xs)) l
      ∙ ap (λ zs. x ∷ zs) (h [] ∙ ap (λ zs. zs ++ n ∷ []) e)
  other_last-step x xs on l e h (y ∷ ys) =
      all_longer (nat_cmp x y) (n ∷ []) _ _ _ _ _ _ (ap (λ zs. x ∷ zs) (h (y ∷ ys))) (ap (λ zs. x ∷ zs) (h ys))
      (ap (λ zs. y ∷ zs) (other_last-step x xs on l e h ys))

  other_last : (xs ys : List ℕ) → Under xs n → merged xs (ys ++ n ∷ []) ≡ merged xs ys ++ n ∷ []
  other_last [] ys u = refl
  other_last (x ∷ xs) ys u = other_last-step x xs (merged xs) u.0 (merged_alone xs) (λ zs. other_last xs zs u.1) ys

all_under : (xs : List ℕ) (n : ℕ) → ((k : ℕ) → k < length xs → get_or xs k 0 < n) → Under xs n
all_under [] n h = tt
all_under (x ∷ xs) n h =
    (sym (nat_cmp_is x n Less (h 0 (omega arith))), all_under xs n (λ k l. h (suc k) (omega (arith, l))))

-- the first `count` numbers of a sorted list that has as many are less than n, if the last of them is, or `count` is 0
pub under_last : (xs : List ℕ) (count n : ℕ) → IsRising xs → count ≤ length xs
    → (0 < count → get_or xs (count - 1) 0 < n) → Under (take count xs) n
under_last xs count n s l h = all_under (take count xs) n (λ k m.
    let within : k < count = omega (arith, m, length-take-le count xs l) in
    let read : get_or (take count xs) k 0 ≡ get_or xs k 0 = get_or-take count xs k 0 within in
    let rises : get_or xs k 0 ≤ get_or xs (count - 1) 0 = non_decreasing_from_sorted xs s k (count - 1) 0 (omega (arith, within)) (omega (arith, within, l)) in
    omega (arith, read, rises, h (omega (arith, within))))

put_there : (xs : List ℕ) (index from n : ℕ) → index ≡ from → index < length xs
    → drop from (set xs index n) ≡ n ∷ drop (from + 1) xs
put_there xs index from n e l = subst (λ p. drop p (set xs index n) ≡ n ∷ drop (p + 1) xs) e (drop-set xs index n l)

-- To put n, the last number left of xs, in place keeps this list: the numbers left, merged, followed by those in place
-- already. `index` is the last one before these, n is above all numbers left of ys, and then `less` of xs are left.
pub own_put : (xs ys now : List ℕ) (own less left index n : ℕ) → own ≡ less + 1 → index ≡ less + left
    → index < length now → less < length xs → n ≡ get_or xs less 0 → Under (take left ys) n
    → merged (take less xs) (take left ys) ++ drop (less + left) (set now index n) ≡ merged (take own xs) (take left ys) ++ drop (own + left) now
own_put xs ys now own less left index n o p within short is under =
    let next : less + left + 1 ≡ own + left = omega (arith, o) in
    let first : merged (take own xs) (take left ys) ≡ merged (take less xs) (take left ys) ++ n ∷ [] =
    ap (λ zs. merged zs (take left ys)) (ap (λ k. take k xs) o ∙ take_more xs less 0 short ∙ ap (λ m. take less xs ++ m ∷ []) (sym is)) ∙ own_last n (take less xs) (take left ys) under in
    ap (λ zs. merged (take less xs) (take left ys) ++ zs) (put_there now index (less + left) n p within ∙ ap (λ k. n ∷ drop k now) next)
    ∙ sym (append_assoc (merged (take less xs) (take left ys)) (n ∷ []) (drop (own + left) now))
    ∙ ap (λ zs. zs ++ drop (own + left) now) (sym first)

-- To put n, the last number left of ys, in place keeps this list: the numbers left, merged, followed by those in place
-- already. `index` is the last one before these, n is above all numbers left of xs, and then `less` of ys are left.
pub other_put : (xs ys now : List ℕ) (own left less index n : ℕ) → left ≡ less + 1 → index ≡ own + less
    → index < length now → less < length ys → n ≡ get_or ys less 0 → Under (take own xs) n
    → merged (take own xs) (take less ys) ++ drop (own + less) (set now index n) ≡ merged (take own xs) (take left ys) ++ drop (own + left) now
other_put xs ys now own left less index n o p within short is under =
    let next : own + less + 1 ≡ own + left = omega (arith, o) in
    let first : merged (take own xs) (take left ys) ≡ merged (take own xs) (take less ys) ++ n ∷ [] =
    ap (λ zs. merged (take own xs) zs) (ap (λ k. take k ys) o ∙ take_more ys less 0 short ∙ ap (λ m. take less ys ++ m ∷ []) (sym is)) ∙ other_last n (take own xs) (take less ys) under in
    ap (λ zs. merged (take own xs) (take less ys) ++ zs) (put_there now index (own + less) n p within ∙ ap (λ k. n ∷ drop k now) next)
    ∙ sym (append_assoc (merged (take own xs) (take less ys)) (n ∷ []) (drop (own + left) now))
    ∙ ap (λ zs. zs ++ drop (own + left) now) (sym first)

-- A merge in place is complete once no number of ys is left: `now` is then `all`, the numbers left, merged, followed by
-- those in place already. For this the first `own` numbers of `now` are those of xs.
pub all_put : (xs ys now all : List ℕ) (own left : ℕ) → left ≡ 0 → take own now ≡ take own xs
    → merged (take own xs) (take left ys) ++ drop (own + left) now ≡ all → now ≡ all
all_put xs ys now all own left none kept h =
    let none_left : take left ys ≡ [] = ap (λ k. take k ys) none in
    let there : own + left ≡ own = omega (arith, none) in
    sym (take-append-drop own now)
    ∙ ap (λ zs. zs ++ drop own now) (kept ∙ sym (ap (merged (take own xs)) none_left ∙ merged_alone (take own xs)))
    ∙ ap (λ k. merged (take own xs) (take left ys) ++ drop k now) (sym there) ∙ h

-- if P and b < a contradict each other, a ≤ b follows from P
pub not_above : (P : Type 0) (a b : ℕ) → (P × (b < a) → IsTrue false) → P → a ≤ b
not_above P a b h p = elim (cases_order a b) [
  | inl e ↦ omega (arith, e)
  | inr r ↦ elim r [ inl less ↦ omega (arith, less) | inr more ↦ absurd (false≢true (h (p, more))) ]
]

-- a number n of a list is less than `most`, if all numbers of the list are
pub listed_below : (xs : List ℕ) (most n : ℕ) → ((k : ℕ) → k < length xs → get_or xs k 0 < most)
    → list_any (eq_by_cmp nat_cmp n) xs ≡ true → n < most
listed_below [] most n h e = absurd (false≢true e)
listed_below (x ∷ xs) most n h e =
    elim (eq_by_cmp nat_cmp n x) as (λ b. eq_by_cmp nat_cmp n x ≡ b → (b || list_any (eq_by_cmp nat_cmp n) xs) ≡ true → n < most) [
      | true ↦ λ alike _. let is : n ≡ x = same_key n x alike in let first = h 0 (omega arith) in omega (arith, is, first)
      | false ↦ λ _ later. listed_below xs most n (λ k l. h (suc k) (omega (arith, l))) later
    ] refl e
