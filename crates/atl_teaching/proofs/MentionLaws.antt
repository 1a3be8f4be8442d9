-- Laws of `first_mentions`: the numbers without repetitions are those that a pass with a set of seen numbers keeps.
-- `first_mentions ns` is the list ns with each number only where it is first listed. `seen` is the set of seen numbers,
-- as a map from each number to itself.
use Rattle.std.proofs.Common.{◌≡◌, ◌==◌, ℕ, ◌&&◌, not, Bool, true, false, List, [], ◌∷◌, filter, refl, arith, rules}
use Rattle.std.specs.Prelude.{is_some}
use Rattle.std.specs.Ordering.{nat_cmp}
use Rattle.std.specs.Cmp.{nat_cmp_total, unsigned_ties}
use Rattle.std.specs.FinMap.{FinMap, empty, get, get-empty, get-insert, insert}
use Rattle.std.proofs.lemmas.Bool.Decides.{nat_tests}
use Rattle.atl_teaching.specs.Teach.{first_mentions}

-- whether a number isn't among those seen so far
abbrev pub is_new : FinMap nat_cmp ℕ → ℕ → Bool
is_new seen k = not (is_some (get seen k))

both_filters : (p q r : ℕ → Bool) → ((k : ℕ) → (q k && p k) ≡ r k) → (ns : List ℕ)
    → filter p (filter q ns) ≡ filter r ns
both_filters p q r same [] = refl
both_filters p q r same (n ∷ ns) = grind (rules, same n, both_filters p q r same ns)

new_after_insert : (seen : FinMap nat_cmp ℕ) (n k : ℕ) → (not (k == n) && is_new seen k) ≡ is_new (insert seen n n) k
new_after_insert seen n k = grind (rules, get-insert nat_cmp_total seen n n k, unsigned_ties k n)

new_before : (seen : FinMap nat_cmp ℕ) (n : ℕ) → is_some (get seen n) ≡ true → (k : ℕ)
    → (not (k == n) && is_new seen k) ≡ is_new seen k
new_before seen n there k = grind (arith, nat_tests)

-- If the first number n of a list is new, the new numbers of the list, without repetitions, are n and then those of the
-- numbers after n. There a number is new if it is new once n was seen.
pub first_mention_is_kept : (seen : FinMap nat_cmp ℕ) (n : ℕ) (ns : List ℕ) → is_some (get seen n) ≡ false →
    filter (is_new seen) (first_mentions (n ∷ ns)) ≡ n ∷ filter (is_new (insert seen n n)) (first_mentions ns)
first_mention_is_kept seen n ns new =
    grind
    (rules, new, both_filters (is_new seen) (λ k. not (k == n)) (is_new (insert seen n n)) (new_after_insert seen n) (first_mentions ns))

-- a number that was seen makes no difference in front of a list: without repetitions, the list has the same new numbers
pub later_mention_is_dropped : (seen : FinMap nat_cmp ℕ) (n : ℕ) (ns : List ℕ) → is_some (get seen n) ≡ true
    → filter (is_new seen) (first_mentions (n ∷ ns)) ≡ filter (is_new seen) (first_mentions ns)
later_mention_is_dropped seen n ns there =
    grind
    (rules, there, both_filters (is_new seen) (λ k. not (k == n)) (is_new seen) (new_before seen n there) (first_mentions ns))

-- as long as no number was seen, each number of a list is new
pub all_new : (ns : List ℕ) → filter (is_new empty) ns ≡ ns
all_new [] = refl
all_new (n ∷ ns) = grind (rules, get-empty {X = ℕ} nat_cmp n, all_new ns)
