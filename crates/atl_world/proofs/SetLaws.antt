-- Laws of sets of numbers: when two are equal, numbers put in and taken out, unions, and how many numbers there are. s
-- and t are sets, n, k and q are numbers, and `ks` is a list of numbers.
use Rattle.std.proofs.Common.{◌≡◌, ℕ, zero, suc, ◌+◌, ◌-◌, ◌<◌, ◌≤◌, Bool, true, false, cond, not, ◌&&◌, ◌||◌, List, [], ◌∷◌, length, refl, sym, ap, ◌∙◌, arith}
use Rattle.std.specs.List.{list_any}
use Rattle.std.proofs.lemmas.Bool.{false≢true, and_parts, false_from_ne_true, or_left}
use Rattle.std.specs.Ordering.{nat_cmp, eq_by_cmp, is_eq}
use Rattle.std.specs.declared.cmp.Ordering.TheVariants.{Less, Equal, Greater}
use Rattle.std.specs.Cmp.{nat_cmp_total, ranked}
use Rattle.std.specs.FinMap.{nat_cmp-IsAntisymmetric}
use Rattle.std.specs.FinSet as set
use Rattle.atl_world.proofs.GeneralLaws.{key_itself, chosen_is_at_most_next}
use mathlib.Core.Bool.{or-false}

pub sets_are_equal : (s t : set.FinSet nat_cmp) → ((q : ℕ) → set.contains s q ≡ set.contains t q) → s ≡ t
sets_are_equal s t h = set.same_set nat_cmp_total nat_cmp-IsAntisymmetric s t h

pub insert_twice : (s : set.FinSet nat_cmp) (n : ℕ) → set.contains s n ≡ true → set.insert s n ≡ s
insert_twice s n h = sets_are_equal _ _ (λ q. set.contains-insert nat_cmp_total s n q ∙ elim (nat_cmp q n) as (λ r. nat_cmp q n ≡ r → (is_eq r || set.contains s q) ≡ set.contains s q) [
  | Less ↦ λ _. refl
  | Equal ↦ λ e. sym (ap (set.contains s) (nat_cmp-IsAntisymmetric q n e) ∙ h)
  | Greater ↦ λ _. refl
] refl)

pub insert_undone : (s : set.FinSet nat_cmp) (n : ℕ) → set.contains s n ≡ false → set.remove (set.insert s n) n ≡ s
insert_undone s n h = sets_are_equal _ _ (λ q.
    set.contains-remove nat_cmp_total (set.insert s n) n q
    ∙ ap (λ b. not (eq_by_cmp nat_cmp q n) && b) (set.contains-insert nat_cmp_total s n q)
    ∙ elim (nat_cmp q n) as (λ r. nat_cmp q n ≡ r → (not (is_eq r) && (is_eq r || set.contains s q)) ≡ set.contains s q) [
      | Less ↦ λ _. refl
      | Equal ↦ λ e. sym (ap (set.contains s) (nat_cmp-IsAntisymmetric q n e) ∙ h)
      | Greater ↦ λ _. refl
    ] refl)

pub remove_absent : (s : set.FinSet nat_cmp) (n : ℕ) → set.contains s n ≡ false → set.remove s n ≡ s
remove_absent s n h = sets_are_equal _ _ (λ q. set.contains-remove nat_cmp_total s n q ∙ elim (nat_cmp q n) as (λ r. nat_cmp q n ≡ r → (not (is_eq r) && set.contains s q) ≡ set.contains s q) [
  | Less ↦ λ _. refl
  | Equal ↦ λ e. sym (ap (set.contains s) (nat_cmp-IsAntisymmetric q n e) ∙ h)
  | Greater ↦ λ _. refl
] refl)

pub contains_inserted : (s : set.FinSet nat_cmp) (n : ℕ) → set.contains (set.insert s n) n ≡ true
contains_inserted s n = set.contains-insert nat_cmp_total s n n ∙ ap (λ b. b || set.contains s n) (key_itself n)

-- ---- how many

len-some : (n : ℕ) (t : set.FinSet nat_cmp) (k : ℕ) → set.len t ≡ n → set.contains t k ≡ true → 1 ≤ n
len-some zero t k e h =
    absurd
    (false≢true (sym (set.contains-empty nat_cmp k) ∙ ap (λ u. set.contains u k) (sym (set.empty_of_len t e)) ∙ h))
len-some (suc n) t k e h = omega arith

pub not_and_is_false : (a b : Bool) → (not a && b) ≡ true → a ≡ false
not_and_is_false true b h = absurd (false≢true h)
not_and_is_false false b h = refl

pub or_without_first_is_second : (a b : Bool) → a ≡ false → (a || b) ≡ true → b ≡ true
or_without_first_is_second true b e h = absurd (false≢true (sym e))
or_without_first_is_second false b e h = h

not_and_holds : (a b : Bool) → a ≡ false → b ≡ true → (not a && b) ≡ true
not_and_holds true b e h = absurd (false≢true (sym e))
not_and_holds false b e h = h

-- for `len-within_by`, where a and b say whether sets of m and n numbers have k
less_step : (a b : Bool) (m n : ℕ) → (a ≡ true → b ≡ true) → (b ≡ true → 1 ≤ n) → cond a (m - 1) m ≤ cond b (n - 1) n
    → m ≤ n
less_step true true m n f g h = let l : 1 ≤ n = g refl in omega arith
less_step true false m n f g h = absurd (false≢true (f refl))
less_step false true m n f g h = omega arith
less_step false false m n f g h = h

-- `len-within` by recursion over a list `ks` that has all numbers of s
len-within_by : (ks : List ℕ) (s t : set.FinSet nat_cmp)
    → ((q : ℕ) → set.contains s q ≡ true → list_any (eq_by_cmp nat_cmp q) ks ≡ true)
    → ((q : ℕ) → set.contains s q ≡ true → set.contains t q ≡ true) → set.len s ≤ set.len t
len-within_by [] s t all h =
    let none : s ≡ set.empty = sets_are_equal s set.empty (λ q. false_from_ne_true _ (λ e. false≢true (all q e)) ∙ sym (set.contains-empty nat_cmp q)) in
    let nothing : set.len s ≡ 0 = ap set.len none ∙ set.len-empty nat_cmp in
    omega (arith, nothing)
len-within_by (k ∷ ks) s t all h =
    let parts : (q : ℕ) → set.contains (set.remove s k) q ≡ true → (not (eq_by_cmp nat_cmp q k) && set.contains s q) ≡ true = λ q e. sym (set.contains-remove nat_cmp_total s k q) ∙ e in
    let other : (q : ℕ) → set.contains (set.remove s k) q ≡ true → eq_by_cmp nat_cmp q k ≡ false = λ q e. not_and_is_false _ _ (parts q e) in
    let was : (q : ℕ) → set.contains (set.remove s k) q ≡ true → set.contains s q ≡ true = λ q e. (and_parts _ _ (parts q e)).1 in
    let rest : set.len (set.remove s k) ≤ set.len (set.remove t k) = len-within_by ks (set.remove s k) (set.remove t k)
    (λ q e. or_without_first_is_second _ _ (other q e) (all q (was q e)))
    (λ q e. set.contains-remove nat_cmp_total t k q ∙ not_and_holds _ _ (other q e) (h q (was q e))) in
    less_step (set.contains s k) (set.contains t k) (set.len s) (set.len t) (h k) (len-some (set.len t) t k refl) (rw (set.len-remove nat_cmp_total s k, set.len-remove nat_cmp_total t k) at rest)

pub len-within : (s t : set.FinSet nat_cmp) → ((q : ℕ) → set.contains s q ≡ true → set.contains t q ≡ true)
    → set.len s ≤ set.len t
len-within s t h = len-within_by (set.items s) s t (λ q e. sym (set.contains-items s q) ∙ e) h

pub or_swaps_first_two : (a b c : Bool) → (a || (b || c)) ≡ (b || (a || c))
or_swaps_first_two true true c = refl
or_swaps_first_two true false c = refl
or_swaps_first_two false b c = refl

pub union-empty : (s : set.FinSet nat_cmp) → set.union s set.empty ≡ s
union-empty s =
    sets_are_equal _ _
    (λ q. set.contains-union nat_cmp_total s set.empty q ∙ ap (λ b. set.contains s q || b) (set.contains-empty nat_cmp q) ∙ or-false _)

pub union-insert : (s t : set.FinSet nat_cmp) (k : ℕ) → set.union s (set.insert t k) ≡ set.insert (set.union s t) k
union-insert s t k = sets_are_equal _ _ (λ q.
    set.contains-union nat_cmp_total s (set.insert t k) q
    ∙ ap (λ b. set.contains s q || b) (set.contains-insert nat_cmp_total t k q)
    ∙ or_swaps_first_two (set.contains s q) (eq_by_cmp nat_cmp q k) (set.contains t q)
    ∙ sym (set.contains-insert nat_cmp_total (set.union s t) k q ∙ ap (λ b. eq_by_cmp nat_cmp q k || b) (set.contains-union nat_cmp_total s t q)))

pub or_is_associative : (a b c : Bool) → ((a || b) || c) ≡ (a || (b || c))
or_is_associative true b c = refl
or_is_associative false b c = refl

pub insert-union : (s t : set.FinSet nat_cmp) (k : ℕ) → set.union (set.insert s k) t ≡ set.insert (set.union s t) k
insert-union s t k = sets_are_equal _ _ (λ q.
    set.contains-union nat_cmp_total (set.insert s k) t q
    ∙ ap (λ b. b || set.contains t q) (set.contains-insert nat_cmp_total s k q)
    ∙ or_is_associative (eq_by_cmp nat_cmp q k) (set.contains s q) (set.contains t q)
    ∙ sym (set.contains-insert nat_cmp_total (set.union s t) k q ∙ ap (λ b. eq_by_cmp nat_cmp q k || b) (set.contains-union nat_cmp_total s t q)))

-- the numbers of a list, put into a set, make it larger by no more than the length of the list
pub len-union : (s : set.FinSet nat_cmp) (ks : List ℕ)
    → set.len (set.union s (set.from_list ks)) ≤ set.len s + length ks
len-union s [] = let e : set.len (set.union s set.empty) ≡ set.len s = ap set.len (union-empty s) in omega (arith, e)
len-union s (k ∷ ks) =
    let rest = len-union s ks in
    let e : set.len (set.union s (set.from_list (k ∷ ks))) ≡ cond (set.contains (set.union s (set.from_list ks)) k) (set.len (set.union s (set.from_list ks))) (set.len (set.union s (set.from_list ks)) + 1)
    = ap set.len (union-insert s (set.from_list ks) k) ∙ set.len-insert nat_cmp_total (set.union s (set.from_list ks)) k in
    let l = chosen_is_at_most_next (set.contains (set.union s (set.from_list ks)) k) (set.len (set.union s (set.from_list ks))) in
    omega (arith, rest, e, l)

-- ---- the numbers of a list, which come one after another

pub union-next : (s : set.FinSet nat_cmp) (k : ℕ) (ks : List ℕ)
    → set.union (set.insert s k) (set.from_list ks) ≡ set.union s (set.from_list (k ∷ ks))
union-next s k ks = insert-union s (set.from_list ks) k ∙ sym (union-insert s (set.from_list ks) k)

-- if t has the numbers of s, k and those of `ks`, and no other, it has at least as many numbers as s with k
pub len-next : (s t : set.FinSet nat_cmp) (k : ℕ) (ks : List ℕ) → set.union s (set.from_list (k ∷ ks)) ≡ t
    → set.len (set.insert s k) ≤ set.len t
len-next s t k ks h =
    len-within (set.insert s k) t (λ q e. ap (λ u. set.contains u q) (sym (union-next s k ks ∙ h)) ∙ set.contains-union nat_cmp_total (set.insert s k) (set.from_list ks) q ∙ or_left _ _ e)

-- for `len-below`, where r counts a set of l numbers without m, and b says whether it has m
one_less : (b : Bool) (l r : ℕ) → r ≡ cond b (l - 1) l → l ≤ r + 1
one_less true l r e = omega (arith, e)
one_less false l r e = omega (arith, e)

-- for `len-below`, where `there` says whether k is in the set
rest_below : (m k : ℕ) (there : Bool) → (not (eq_by_cmp nat_cmp k m) && there) ≡ true → (there ≡ true → k < m + 1)
    → k < m
rest_below m k there h below = elim (nat_cmp k m) as (λ r. nat_cmp k m ≡ r → (not (is_eq r) && there) ≡ true → k < m) [
  | Less ↦ λ e yes. let l = ranked k m Less (sym e) in omega (arith, l)
  | Equal ↦ λ e no. absurd (false≢true no)
  | Greater ↦ λ e yes. let l = ranked k m Greater (sym e) in absurd (omega (arith, l, below yes))
] refl h

-- a set whose numbers are all less than `most` has at most `most` numbers
pub len-below : (most : ℕ) (s : set.FinSet nat_cmp) → ((k : ℕ) → set.contains s k ≡ true → k < most) → set.len s ≤ most
len-below zero s below =
    let none = len-within s set.empty (λ k there. absurd (omega (arith, below k there))) in
    omega (arith, none, set.len-empty nat_cmp)
len-below (suc m) s below =
    let rest = len-below m (set.remove s m) (λ k there. rest_below m k (set.contains s k) (sym (set.contains-remove nat_cmp_total s m k) ∙ there) (λ yes. omega (arith, below k yes))) in
    let more = one_less (set.contains s m) (set.len s) (set.len (set.remove s m)) (set.len-remove nat_cmp_total s m) in
    omega (arith, rest, more)
