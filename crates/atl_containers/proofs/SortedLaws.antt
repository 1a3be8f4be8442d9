-- Laws of sorted lists of numbers: they stay sorted when a number n is put in or taken out. xs is the list.
use Rattle.std.proofs.Common.{◌≡◌, refl, ℕ, zero, suc, ◌≤◌, ◌<◌, Bool, true, false, cond, nat_le, List, [], ◌∷◌, length, get_or, sym, subst, arith}
use Rattle.std.specs.List.{AllByRecursion}
use Rattle.std.specs.List.Sorted.{IsPartitionedBy}
use Rattle.std.specs.Prelude.{nat_lt}
use Rattle.std.proofs.lemmas.Bool.Decides.{nat_tests}
use Rattle.atl_containers.specs.Ordered.{IsSorted, put_number, take_number}
use Rattle.atl_containers.proofs.OrderedLaws.{put_number-cons, put_number-nil, take_number-cons, take_number-nil}
use Rattle.atl_world.proofs.GeneralLaws.{each_follows}

at_most_indexed : (x : ℕ) (xs : List ℕ) (i d : ℕ) → AllByRecursion (λ y. x ≤ y) xs → i < length xs → x ≤ get_or xs i d
at_most_indexed x [] i d h l = absurd (omega arith)
at_most_indexed x (y ∷ xs) zero d h l = h.0
at_most_indexed x (y ∷ xs) (suc i) d h l = at_most_indexed x xs i d h.1 (omega arith)

rises : (xs : List ℕ) (i j d : ℕ) → IsSorted xs → i ≤ j → j < length xs → get_or xs i d ≤ get_or xs j d
rises [] i j d h le l = absurd (omega arith)
rises (x ∷ xs) zero zero d h le l = omega arith
rises (x ∷ xs) zero (suc j) d h le l = at_most_indexed x xs j d h.0 (omega arith)
rises (x ∷ xs) (suc i) zero d h le l = absurd (omega arith)
rises (x ∷ xs) (suc i) (suc j) d h le l = rises xs i j d h.1 (omega arith) (omega arith)

less_by_transitivity : (a b n : ℕ) → a ≤ b → nat_lt b n ≡ true → nat_lt a n ≡ true
less_by_transitivity a b n le h = grind (arith, nat_tests)

-- in a sorted list the numbers below n all come before the others
pub sorted_is_partitioned : (n : ℕ) (xs : List ℕ) → IsSorted xs → IsPartitionedBy (λ y. nat_lt y n) xs
sorted_is_partitioned n xs h i j d le l e =
    less_by_transitivity (get_or xs i d) (get_or xs j d) n (rises xs i j d h le l) e

-- ---- a number put in

put_least : (x n : ℕ) (xs : List ℕ) → x ≤ n → AllByRecursion (λ y. x ≤ y) xs
    → AllByRecursion (λ y. x ≤ y) (put_number n xs)
put_least x n [] le h = subst (AllByRecursion (λ y. x ≤ y)) (sym (put_number-nil n)) (le, tt)
put_least x n (y ∷ xs) le h =
    subst (AllByRecursion (λ y. x ≤ y)) (sym (put_number-cons n y xs)) (either (put_least x n xs le h.1) (nat_le n y))
  where
    either : AllByRecursion (λ y. x ≤ y) (put_number n xs) → (b : Bool)
        → AllByRecursion (λ y. x ≤ y) (cond b (n ∷ y ∷ xs) (y ∷ put_number n xs))
    either rest true = (le, h)
    either rest false = (h.0, rest)

lower_all : (n x : ℕ) (xs : List ℕ) → n ≤ x → AllByRecursion (λ y. x ≤ y) xs → AllByRecursion (λ y. n ≤ y) xs
lower_all n x xs le h = each_follows (λ y. x ≤ y) (λ y. n ≤ y) (λ y l. omega arith) xs h

pub IsSorted-put : (n : ℕ) (xs : List ℕ) → IsSorted xs → IsSorted (put_number n xs)
IsSorted-put n [] h = subst IsSorted (sym (put_number-nil n)) (tt, tt)
IsSorted-put n (x ∷ xs) h =
    subst IsSorted (sym (put_number-cons n x xs)) (either (IsSorted-put n xs h.1) (nat_le n x) refl)
  where
    either : IsSorted (put_number n xs) → (b : Bool) → nat_le n x ≡ b
        → IsSorted (cond b (n ∷ x ∷ xs) (x ∷ put_number n xs))
    either rest true e = let le : n ≤ x = grind (arith, nat_tests) in ((le, lower_all n x xs le h.0), h)
    either rest false e = let le : x ≤ n = grind (arith, nat_tests) in (put_least x n xs le h.0, rest)

-- ---- a number taken out

take_least : (x n : ℕ) (xs : List ℕ) → AllByRecursion (λ y. x ≤ y) xs → AllByRecursion (λ y. x ≤ y) (take_number n xs)
take_least x n [] h = subst (AllByRecursion (λ y. x ≤ y)) (sym (take_number-nil n)) tt
take_least x n (y ∷ xs) h =
    subst (AllByRecursion (λ y. x ≤ y)) (sym (take_number-cons n y xs)) (either (take_least x n xs h.1) (nat_le n y))
  where
    either : AllByRecursion (λ y. x ≤ y) (take_number n xs) → (b : Bool)
        → AllByRecursion (λ y. x ≤ y) (cond b xs (y ∷ take_number n xs))
    either rest true = h.1
    either rest false = (h.0, rest)

pub IsSorted-take : (n : ℕ) (xs : List ℕ) → IsSorted xs → IsSorted (take_number n xs)
IsSorted-take n [] h = subst IsSorted (sym (take_number-nil n)) tt
IsSorted-take n (x ∷ xs) h =
    subst IsSorted (sym (take_number-cons n x xs)) (either (IsSorted-take n xs h.1) (nat_le n x))
  where
    either : IsSorted (take_number n xs) → (b : Bool) → IsSorted (cond b xs (x ∷ take_number n xs))
    either rest true = h.1
    either rest false = (take_least x n xs h.0, rest)

pub not_above : (n x : ℕ) → nat_lt x n ≡ true → nat_le n x ≡ false
not_above n x h = grind (arith, nat_tests)

pub not_below : (n x : ℕ) → nat_lt x n ≡ false → nat_le n x ≡ true
not_below n x h = grind (arith, nat_tests)
