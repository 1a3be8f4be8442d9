-- General laws of truth values, numbers, keys of maps and lists, for other crates too. `T b` says that b is true, and
-- `cond b x y` is x where b is true, else y. `eq_by_cmp nat_cmp` tests whether two keys are equal, and `nat_eq` whether
-- two numbers are. P, Q and S are conditions on an element of the list `rows`.
use Rattle.std.proofs.Common.{◌≡◌, ◌≢◌, ◌==◌, ◌∙◌, ◌+◌, ◌≤◌, ℕ, Bool, cond, true, false, T, List, [], ◌∷◌, nat_eq, refl, sym, arith}
use Rattle.std.specs.List.{AllByRecursion}
use Rattle.std.specs.Ordering.{nat_cmp, eq_by_cmp}
use Rattle.std.specs.Cmp.{nat_cmp_total, unsigned_tied}
use Rattle.std.specs.FinMap.{FinMap, insert, len, len-insert, contains_key}
use Rattle.std.proofs.lemmas.Bool.Decides.{nat_tests}

pub is_true : (b : Bool) → T b → b ≡ true
is_true true h = refl
is_true false h = absurd h

pub is_equal : (a b : ℕ) → (a == b) ≡ true → a ≡ b
is_equal a b test = grind (arith, nat_tests)

pub is_unequal : (a b : ℕ) → (a == b) ≡ false → a ≢ b
is_unequal a b test = grind (arith, nat_tests)

pub equal_itself : (a : ℕ) → (a == a) ≡ true
equal_itself a = grind (arith, nat_tests)

pub equality_is_symmetric : (a b : ℕ) → nat_eq a b ≡ nat_eq b a
equality_is_symmetric a b = grind (arith, nat_tests)

pub key_itself : (n : ℕ) → eq_by_cmp nat_cmp n n ≡ true
key_itself n = unsigned_tied n n ∙ equal_itself n

pub key_equality_is_symmetric : (q r : ℕ) → eq_by_cmp nat_cmp q r ≡ (r == q)
key_equality_is_symmetric q r = unsigned_tied q r ∙ equality_is_symmetric q r

pub same_key : (q r : ℕ) → eq_by_cmp nat_cmp q r ≡ true → q ≡ r
same_key q r test = is_equal q r (sym (unsigned_tied q r) ∙ test)

pub chosen_is_at_most_next : (b : Bool) (n : ℕ) → cond b n (n + 1) ≤ n + 1
chosen_is_at_most_next true n = omega arith
chosen_is_at_most_next false n = omega arith

pub insert_adds_at_most_one : {V : Type 0} (m : FinMap nat_cmp V) (k : ℕ) (v : V) → len (insert m k v) ≤ len m + 1
insert_adds_at_most_one m k v = rw (len-insert nat_cmp_total m k v) (chosen_is_at_most_next (contains_key m k) (len m))

-- S holds of each row, if P and Q do, and S follows from both
pub each_follows_from_two : {R : Type 0} (P Q S : R → Type 0) → ((r : R) → P r → Q r → S r) → (rows : List R)
    → AllByRecursion P rows → AllByRecursion Q rows → AllByRecursion S rows
each_follows_from_two P Q S f [] p q = tt
each_follows_from_two P Q S f (r ∷ rows) p q = (f r p.0 q.0, each_follows_from_two P Q S f rows p.1 q.1)

-- Q holds of each row, if P does, and Q follows from P
pub each_follows : {R : Type 0} (P Q : R → Type 0) → ((r : R) → P r → Q r) → (rows : List R) → AllByRecursion P rows
    → AllByRecursion Q rows
each_follows P Q f [] p = tt
each_follows P Q f (r ∷ rows) p = (f r p.0, each_follows P Q f rows p.1)
