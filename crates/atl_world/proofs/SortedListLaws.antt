-- Laws of a sorted list of numbers and the set of its numbers: numbers put in, taken out and searched. A number belongs
-- at an index (`BelongsAt`) if all numbers before the index are less, and all from it on are greater. xs is the list, n
-- the number that is put in, taken out or looked for, and i an index of the list.
use Rattle.std.proofs.Common.{◌≡◌, ℕ, suc, ◌+◌, ◌-◌, ◌<◌, ◌≤◌, Bool, true, false, cond, ◌||◌, List, [], ◌∷◌, length, get_or, refl, sym, ap, ◌∙◌, inl, inr, arith}
use Rattle.std.specs.List.{list_any, insert, remove, AllByRecursion}
use Rattle.std.specs.Prelude.{Result, Ok, Err, IfOk, IfErr}
use Rattle.std.specs.List.Sorted.{IsStrictlySortedBy, IsPermutation, IsBinarySearchResult}
use Rattle.std.specs.Ordering.{nat_cmp, eq_by_cmp, is_eq}
use Rattle.std.specs.declared.cmp.Ordering.TheVariants.{Less}
use Rattle.std.specs.Cmp.{nat_cmp_total}
use Rattle.std.specs.FinSet as set
use Rattle.std.proofs.lemmas.Bool.{cases_order, false≢true, false_from_ne_true}
use Rattle.std.proofs.lemmas.Map.Keys.{sorted_from_strictly_increasing, below_from_sorted, non_decreasing_from_sorted, sorted_head, sorted_tail}
use Rattle.std.proofs.lemmas.List.{get_or_default}
use Rattle.std.proofs.lemmas.List.Edits.{length-insert, length-remove, get_or-insert_below, get_or-insert_at, get_or-insert_above, get_or-remove_below, get_or-remove_above}
use Rattle.std.proofs.lemmas.List.Sorted.{IsPermutation-insert, IsPermutation-remove, list_any-IsPermutation, searched}
use Rattle.atl_world.specs.SortedNumbers.{IsAt, BelongsAt}
use Rattle.atl_world.proofs.SetLaws.{sets_are_equal, insert_twice, insert_undone, contains_inserted}

abbrev IsRising : List ℕ → Type 0
IsRising xs = IsStrictlySortedBy nat_cmp xs

by_cases : {P : Type 0} (a b : ℕ) → (a ≡ b → P) → (a < b → P) → (b < a → P) → P
by_cases a b alike less more =
    elim (cases_order a b) [ inl e ↦ alike e | inr r ↦ elim r [ inl l ↦ less l | inr m ↦ more m ] ]

-- ---- a list stays sorted

pub sorted-insert : (xs : List ℕ) (n i : ℕ) → IsRising xs → BelongsAt xs n i → IsRising (insert xs i n)
sorted-insert xs n i s b = sorted_from_strictly_increasing (insert xs i n) (λ k l.
    let size : length (insert xs i n) ≡ length xs + 1 = length-insert xs i n b.within in
    let later : (j : ℕ) → i < j → get_or (insert xs i n) j 0 ≡ get_or xs (j - 1) 0 =
    λ j m. ap (λ p. get_or (insert xs i n) p 0) (one_back j i m) ∙ get_or-insert_above xs i n 0 (j - 1) (omega (arith, m)) b.within in
    by_cases k i
    (λ e.
    let here : get_or (insert xs i n) k 0 ≡ n = ap (λ p. get_or (insert xs i n) p 0) e ∙ get_or-insert_at xs i n 0 b.within in
    let next : get_or (insert xs i n) (k + 1) 0 ≡ get_or xs k 0 = get_or-insert_above xs i n 0 k (omega (arith, e)) b.within in
    let above = b.after k (omega (arith, e)) (omega (arith, l, size)) in
    omega (arith, here, next, above))
    (λ m.
    let here : get_or (insert xs i n) k 0 ≡ get_or xs k 0 = get_or-insert_below xs i n 0 k m b.within in
    by_cases (k + 1) i
    (λ e.
    let next : get_or (insert xs i n) (k + 1) 0 ≡ n = ap (λ p. get_or (insert xs i n) p 0) e ∙ get_or-insert_at xs i n 0 b.within in
    let under = b.before k m in
    omega (arith, here, next, under))
    (λ m2.
    let next : get_or (insert xs i n) (k + 1) 0 ≡ get_or xs (k + 1) 0 = get_or-insert_below xs i n 0 (k + 1) m2 b.within in
    let rises = below_from_sorted xs k (k + 1) 0 s (omega arith) (omega (arith, m2, b.within)) in
    omega (arith, here, next, rises))
    (λ m2. absurd (omega (arith, m, m2))))
    (λ m.
    let here : get_or (insert xs i n) k 0 ≡ get_or xs (k - 1) 0 = later k m in
    let next : get_or (insert xs i n) (k + 1) 0 ≡ get_or xs k 0 = get_or-insert_above xs i n 0 k (omega (arith, m)) b.within in
    let rises = below_from_sorted xs (k - 1) k 0 s (omega (arith, m)) (omega (arith, l, size)) in
    omega (arith, here, next, rises)))
  where
    one_back : (j i : ℕ) → i < j → j ≡ j - 1 + 1
    one_back j i m = omega arith

pub sorted-remove : (xs : List ℕ) (i : ℕ) → IsRising xs → i < length xs → IsRising (remove xs i)
sorted-remove xs i s within = sorted_from_strictly_increasing (remove xs i) (λ k l.
    let size : length (remove xs i) + 1 ≡ length xs = length-remove xs i within in
    by_cases (k + 1) i
    (λ e.
    let here : get_or (remove xs i) k 0 ≡ get_or xs k 0 = get_or-remove_below xs i 0 k (omega (arith, e)) within in
    let next : get_or (remove xs i) (k + 1) 0 ≡ get_or xs (k + 1 + 1) 0 = get_or-remove_above xs i 0 (k + 1) (omega (arith, e)) within in
    let rises = below_from_sorted xs k (k + 1 + 1) 0 s (omega arith) (omega (arith, l, size)) in
    omega (arith, here, next, rises))
    (λ m.
    let here : get_or (remove xs i) k 0 ≡ get_or xs k 0 = get_or-remove_below xs i 0 k (omega (arith, m)) within in
    let next : get_or (remove xs i) (k + 1) 0 ≡ get_or xs (k + 1) 0 = get_or-remove_below xs i 0 (k + 1) m within in
    let rises = below_from_sorted xs k (k + 1) 0 s (omega arith) (omega (arith, l, size)) in
    omega (arith, here, next, rises))
    (λ m.
    let here : get_or (remove xs i) k 0 ≡ get_or xs (k + 1) 0 = get_or-remove_above xs i 0 k (omega (arith, m)) within in
    let next : get_or (remove xs i) (k + 1) 0 ≡ get_or xs (k + 1 + 1) 0 = get_or-remove_above xs i 0 (k + 1) (omega (arith, m)) within in
    let rises = below_from_sorted xs (k + 1) (k + 1 + 1) 0 s (omega arith) (omega (arith, l, size)) in
    omega (arith, here, next, rises)))

-- ---- how many numbers the set of a list has

lesser_not_listed : (x : ℕ) (xs : List ℕ) → AllByRecursion (λ y. nat_cmp x y ≡ Less) xs
    → list_any (eq_by_cmp nat_cmp x) xs ≡ false
lesser_not_listed x [] h = refl
lesser_not_listed x (y ∷ xs) h = ap (λ r. is_eq r || list_any (eq_by_cmp nat_cmp x) xs) h.0 ∙ lesser_not_listed x xs h.1

chosen_is_one_more : (b : Bool) (m n : ℕ) → b ≡ false → m ≡ n → cond b m (m + 1) ≡ suc n
chosen_is_one_more true m n e h = absurd (false≢true (sym e))
chosen_is_one_more false m n e h = omega arith

pub len-sorted : (xs : List ℕ) → IsRising xs → set.len {R = nat_cmp} (set.from_list xs) ≡ length xs
len-sorted [] s = set.len-empty nat_cmp
len-sorted (x ∷ xs) s =
    set.len-insert nat_cmp_total (set.from_list xs) x
    ∙ chosen_is_one_more _ _ _ (set.contains-from_list nat_cmp_total xs x ∙ lesser_not_listed x xs (sorted_head nat_cmp x xs s)) (len-sorted xs (sorted_tail nat_cmp x xs s))

-- ---- which numbers the set of a list has

from_list-permutation : (xs ys : List ℕ) → IsPermutation xs ys → set.from_list {R = nat_cmp} xs ≡ set.from_list ys
from_list-permutation xs ys p =
    sets_are_equal _ _
    (λ q. set.contains-from_list nat_cmp_total xs q ∙ list_any-IsPermutation (eq_by_cmp nat_cmp q) xs ys p ∙ sym (set.contains-from_list nat_cmp_total ys q))

pub from_list-insert : (xs : List ℕ) (n i : ℕ)
    → set.from_list {R = nat_cmp} (insert xs i n) ≡ set.insert (set.from_list xs) n
from_list-insert xs n i = sym (from_list-permutation (n ∷ xs) (insert xs i n) (IsPermutation-insert xs i n))

from_list-put_back : (xs : List ℕ) (n i : ℕ) → IsAt xs n i
    → set.from_list {R = nat_cmp} xs ≡ set.insert (set.from_list (remove xs i)) n
from_list-put_back xs n i h =
    from_list-permutation xs (n ∷ remove xs i)
    (IsPermutation-remove xs i n h.within (sym (get_or_default xs i n 0 h.within ∙ h.number_there)))

pub contains-is_at : (xs : List ℕ) (n i : ℕ) → IsAt xs n i → set.contains {R = nat_cmp} (set.from_list xs) n ≡ true
contains-is_at xs n i h =
    ap (λ s. set.contains s n) (from_list-put_back xs n i h) ∙ contains_inserted (set.from_list (remove xs i)) n

pub len-belongs : (xs : List ℕ) (n i : ℕ) → IsRising xs → BelongsAt xs n i
    → set.len {R = nat_cmp} (set.insert (set.from_list xs) n) ≡ length xs + 1
len-belongs xs n i s b =
    ap set.len (sym (from_list-insert xs n i)) ∙ len-sorted (insert xs i n) (sorted-insert xs n i s b)
    ∙ length-insert xs i n b.within

pub contains-belongs : (xs : List ℕ) (n i : ℕ) → IsRising xs → BelongsAt xs n i
    → set.contains {R = nat_cmp} (set.from_list xs) n ≡ false
contains-belongs xs n i s b = false_from_ne_true _ (λ e.
    let more = len-belongs xs n i s b in
    let as_many : set.len {R = nat_cmp} (set.insert (set.from_list xs) n) ≡ length xs = ap set.len (insert_twice (set.from_list xs) n e) ∙ len-sorted xs s in
    omega (arith, more, as_many))

pub from_list-remove : (xs : List ℕ) (n i : ℕ) → IsRising xs → IsAt xs n i
    → set.from_list {R = nat_cmp} (remove xs i) ≡ set.remove (set.from_list xs) n
from_list-remove xs n i s h =
    let back = from_list-put_back xs n i h in
    let gone : set.contains {R = nat_cmp} (set.from_list (remove xs i)) n ≡ false = false_from_ne_true _ (λ e.
    let all : set.len {R = nat_cmp} (set.from_list xs) ≡ length xs = len-sorted xs s in
    let less : set.len {R = nat_cmp} (set.from_list (remove xs i)) ≡ length (remove xs i) = len-sorted (remove xs i) (sorted-remove xs i s h.within) in
    let size : length (remove xs i) + 1 ≡ length xs = length-remove xs i h.within in
    let as_many : set.len {R = nat_cmp} (set.from_list xs) ≡ set.len {R = nat_cmp} (set.from_list (remove xs i)) = ap set.len (back ∙ insert_twice (set.from_list (remove xs i)) n e) in
    omega (arith, all, less, size, as_many)) in
    sym (ap (λ t. set.remove t n) back ∙ insert_undone (set.from_list (remove xs i)) n gone)

pub sorted-empty : IsRising []
unfolding IsStrictlySortedBy
sorted-empty = tt

-- ---- the index that a binary search returns

not_falling : (xs : List ℕ) → IsRising xs → (i j : ℕ) → i ≤ j → j < length xs → get_or xs i 0 ≤ get_or xs j 0
not_falling xs s i j l m = non_decreasing_from_sorted xs s i j 0 l m

-- where a binary search of a sorted list returns Ok, n is at the index that it returns
pub searched-found : (xs : List ℕ) (n : ℕ) (r : Result ℕ ℕ) → IsRising xs → IsBinarySearchResult (λ y. nat_cmp y n) xs r
    → IfOk r (λ i. IsAt xs n i)
searched-found xs n (Ok i) s h = let found = searched xs n (Ok i) h (not_falling xs s) in record { within = found.0; number_there = found.1 }
searched-found xs n (Err i) s h = tt

-- where a binary search of a sorted list returns Err, n belongs at the index that it returns, and isn't in the list
pub searched-missing : (xs : List ℕ) (n : ℕ) (r : Result ℕ ℕ) → IsRising xs
    → IsBinarySearchResult (λ y. nat_cmp y n) xs r → IfErr r (λ i. BelongsAt xs n i)
searched-missing xs n (Ok i) s h = tt
searched-missing xs n (Err i) s h = let missing = searched xs n (Err i) h (not_falling xs s) in record { within = missing.0; before = missing.1; after = missing.2 }
