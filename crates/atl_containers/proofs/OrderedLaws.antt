-- Laws of numbers_where, the list of the numbers of a map whose values pass a test, as a value is added or replaced. m
-- is the map, k the number, u the value under it before, v the value put in, and p the test.
use Rattle.std.proofs.Common.{◌≡◌, ℕ, suc, ◌+◌, not, ◌<◌, Bool, true, false, cond, nat_le, List, [], ◌∷◌, ◌++◌, map, filter, take, drop, Some, None, refl, sym, ap, ◌∙◌, arith}
use Rattle.std.specs.declared.cmp.Ordering.TheVariants.{Less, Equal, Greater}
use Rattle.std.specs.Ordering.{nat_cmp, is_eq}
use Rattle.std.specs.Cmp.{nat_cmp_total, ranked}
use Rattle.std.specs.FinMap.{FinMap, get, insert, find, put, entries, entries_sorted, entries-insert, get-entries, get-remove, is_sorted}
use Rattle.std.specs.FinMap as keyed
use Rattle.std.specs.FinMap.Entries.{by_order, below_all}
use Rattle.std.proofs.lemmas.Bool.{and_parts}
use Rattle.std.proofs.lemmas.Bool.Decides.{nat_tests}
use Rattle.atl_world.specs.Sums.{numbers_where}
use Rattle.atl_world.proofs.SumLaws.{chosen-cons, numbers_where-insert_other, put_back_keeps_map, put_over}
use Rattle.atl_world.proofs.GeneralLaws.{key_itself, is_true}
use Rattle.atl_world.proofs.EntryOrderLaws.{less_by_comparison}
use Rattle.std.specs.List.{remove}
use Rattle.atl_containers.specs.Ordered.{first_not_below, put_number, take_number}
use Rattle.atl_world.proofs.EveryLaws.{none_some}

-- ---- put_number and take_number as recursions: n is the number, x the first of the list, and xs are the others

-- for put_number-cons: n is put in front of a first element x where t is true, as n is at most x, else into the rest
put_step : (t : Bool) (n x : ℕ) (xs : List ℕ)
    → take (cond (not t) (1 + first_not_below n xs) 0) (x ∷ xs) ++ n ∷ drop (cond (not t) (1 + first_not_below n xs) 0) (x ∷ xs)
    ≡ cond t (n ∷ x ∷ xs) (x ∷ put_number n xs)
unfolding put_number
put_step true n x xs = refl
put_step false n x xs = let e : 1 + first_not_below n xs ≡ suc (first_not_below n xs) = omega arith in ap (λ i. take i (x ∷ xs) ++ n ∷ drop i (x ∷ xs)) e

pub put_number-cons : (n x : ℕ) (xs : List ℕ)
    → put_number n (x ∷ xs) ≡ cond (nat_le n x) (n ∷ x ∷ xs) (x ∷ put_number n xs)
unfolding put_number
put_number-cons n x xs = put_step (nat_le n x) n x xs

pub put_number-nil : (n : ℕ) → put_number n [] ≡ n ∷ []
unfolding put_number
put_number-nil n = refl

-- for take_number-cons: taking n out removes a first element x if t is true, as n is at most x, else n from the rest
take_step : (t : Bool) (n x : ℕ) (xs : List ℕ)
    → remove (x ∷ xs) (cond (not t) (1 + first_not_below n xs) 0) ≡ cond t xs (x ∷ take_number n xs)
unfolding take_number
take_step true n x xs = refl
take_step false n x xs = let e : 1 + first_not_below n xs ≡ suc (first_not_below n xs) = omega arith in ap (remove (x ∷ xs)) e

pub take_number-cons : (n x : ℕ) (xs : List ℕ) → take_number n (x ∷ xs) ≡ cond (nat_le n x) xs (x ∷ take_number n xs)
unfolding take_number
take_number-cons n x xs = take_step (nat_le n x) n x xs

pub take_number-nil : (n : ℕ) → take_number n [] ≡ []
unfolding take_number
take_number-nil n = refl

number_at_most_itself : (n : ℕ) → nat_le n n ≡ true
number_at_most_itself n = grind (arith, nat_tests)

taken_first : (n : ℕ) (xs : List ℕ) → take_number n (n ∷ xs) ≡ xs
taken_first n xs = take_number-cons n n xs ∙ ap (λ b. cond b xs (n ∷ take_number n xs)) (number_at_most_itself n)

pub taken_put : (n : ℕ) (xs : List ℕ) → take_number n (put_number n xs) ≡ xs
taken_put n [] = ap (take_number n) (put_number-nil n) ∙ taken_first n []
taken_put n (x ∷ xs) =
    ap (take_number n) (put_number-cons n x xs)
    ∙ elim (nat_le n x) as (λ b. nat_le n x ≡ b → take_number n (cond b (n ∷ x ∷ xs) (x ∷ put_number n xs)) ≡ x ∷ xs) [
      | true ↦ λ _. taken_first n (x ∷ xs)
      | false ↦ λ e. take_number-cons n x (put_number n xs) ∙ ap (λ b. cond b (put_number n xs) (x ∷ take_number n (put_number n xs))) e ∙ ap (λ ys. x ∷ ys) (taken_put n xs)
    ] refl

-- ---- the numbers whose values pass a test

-- for put_first: n comes first once it is put into ys, with a greater x in front where t is true, if it comes first
-- once it is put into ys alone
first_holds : (n x : ℕ) (t : Bool) (xs ys : List ℕ) → n < x → put_number n ys ≡ n ∷ ys
    → put_number n (cond t (x ∷ ys) ys) ≡ n ∷ cond t (x ∷ ys) ys
first_holds n x true xs ys l h = let e : nat_le n x ≡ true = grind (arith, nat_tests) in put_number-cons n x ys ∙ ap (λ b. cond b (n ∷ x ∷ ys) (x ∷ put_number n ys)) e
first_holds n x false xs ys l h = h

-- for chosen-put_new: putting n into a list leaves a lower number x in front, whether x is listed (t is true) or not
later_step : (n x : ℕ) (t : Bool) (ys zs : List ℕ) → x < n → zs ≡ put_number n ys
    → cond t (x ∷ zs) zs ≡ put_number n (cond t (x ∷ ys) ys)
later_step n x true ys zs l h = let e : nat_le n x ≡ false = grind (arith, nat_tests) in ap (λ q. x ∷ q) h ∙ sym (put_number-cons n x ys ∙ ap (λ b. cond b (n ∷ x ∷ ys) (x ∷ put_number n ys)) e)
later_step n x false ys zs l h = h

module _ {X : Type 0} (p : X → Bool) where
  abbrev chosen : List (ℕ × X) → List ℕ
  chosen es = map (λ e. e.0) (filter (λ e. p e.1) es)

  put_first : (k : ℕ) (es : List (ℕ × X)) → is_sorted nat_cmp es ≡ true → (e : ℕ × X) → k < e.0
      → below_all nat_cmp e.0 es ≡ true → put_number k (chosen (e ∷ es)) ≡ k ∷ chosen (e ∷ es)
  put_first k [] s e l b =
      ap (put_number k) (chosen-cons p e []) ∙ first_holds k e.0 (p e.1) [] [] l (put_number-nil k)
      ∙ ap (λ ns. k ∷ ns) (sym (chosen-cons p e []))
  put_first k (f ∷ es) s e l b =
      let rest : put_number k (chosen (f ∷ es)) ≡ k ∷ chosen (f ∷ es) = put_first k es (and_parts _ _ s).1 f (omega (arith, less_by_comparison e.0 f.0 (and_parts _ _ b).0)) (and_parts _ _ s).0 in
      ap (put_number k) (chosen-cons p e (f ∷ es)) ∙ first_holds k e.0 (p e.1) [] (chosen (f ∷ es)) l rest
      ∙ ap (λ ns. k ∷ ns) (sym (chosen-cons p e (f ∷ es)))

  chosen-put_new : (k : ℕ) (v : X) → p v ≡ true → (es : List (ℕ × X)) → is_sorted nat_cmp es ≡ true
      → find nat_cmp k es ≡ None → chosen (put nat_cmp k v es) ≡ put_number k (chosen es)
  chosen-put_new k v h [] s g = chosen-cons p (k, v) [] ∙ ap (λ b. cond b (k ∷ []) []) h ∙ sym (put_number-nil k)
  chosen-put_new k v h (e ∷ es) s g =
      elim (nat_cmp k e.0) as (λ r. nat_cmp k e.0 ≡ r → cond (is_eq r) (Some e.1) (find nat_cmp k es) ≡ None → chosen (by_order r ((k, v) ∷ e ∷ es) ((e.0, v) ∷ es) (e ∷ put nat_cmp k v es)) ≡ put_number k (chosen (e ∷ es))) [
        | Less ↦ λ l _. chosen-cons p (k, v) (e ∷ es) ∙ ap (λ b. cond b (k ∷ chosen (e ∷ es)) (chosen (e ∷ es))) h ∙ sym (put_first k es (and_parts _ _ s).1 e (ranked k e.0 Less (sym l)) (and_parts _ _ s).0)
        | Equal ↦ λ _ g. none_some e.1 (sym g)
        | Greater ↦ λ l g. chosen-cons p e (put nat_cmp k v es) ∙ later_step k e.0 (p e.1) (chosen es) (chosen (put nat_cmp k v es)) (ranked k e.0 Greater (sym l)) (chosen-put_new k v h es (and_parts _ _ s).1 g) ∙ ap (put_number k) (sym (chosen-cons p e es))
      ] refl g

  -- putting a value that passes under a new number k puts k into the list of the numbers that pass
  pub numbers_where-insert_new : (m : FinMap nat_cmp X) (k : ℕ) (v : X) → get m k ≡ None → p v ≡ true
      → numbers_where p (insert m k v) ≡ put_number k (numbers_where p m)
  numbers_where-insert_new m k v fresh h =
      ap chosen (entries-insert nat_cmp_total m k v)
      ∙ chosen-put_new k v h (entries m) (is_true _ (entries_sorted m)) (sym (get-entries m k) ∙ fresh)

  removed : (m : FinMap nat_cmp X) (k : ℕ) → get (keyed.remove m k) k ≡ None
  removed m k = get-remove nat_cmp_total m k k ∙ ap (λ b. cond b None (get m k)) (key_itself k)

  -- replacing a value that passes by one that doesn't takes its number k out of the list of the numbers that pass
  pub numbers_where-lost : (m : FinMap nat_cmp X) (k : ℕ) (u v : X) → get m k ≡ Some u → p u ≡ true → p v ≡ false
      → numbers_where p (insert m k v) ≡ take_number k (numbers_where p m)
  numbers_where-lost m k u v is passed fails =
      let base = keyed.remove m k in
      let before : numbers_where p m ≡ put_number k (numbers_where p base) = ap (numbers_where p) (put_back_keeps_map m k u is) ∙ numbers_where-insert_new base k u (removed m k) passed in
      let after : numbers_where p (insert m k v) ≡ numbers_where p base = ap (numbers_where p) (put_over m k v) ∙ numbers_where-insert_other p base k v (removed m k) fails in
      after ∙ sym (taken_put k (numbers_where p base)) ∙ ap (take_number k) (sym before)

  -- replacing a value that doesn't pass by one that does puts its number k into the list of the numbers that pass
  pub numbers_where-gained : (m : FinMap nat_cmp X) (k : ℕ) (u v : X) → get m k ≡ Some u → p u ≡ false → p v ≡ true
      → numbers_where p (insert m k v) ≡ put_number k (numbers_where p m)
  numbers_where-gained m k u v is failed passes =
      let base = keyed.remove m k in
      let before : numbers_where p m ≡ numbers_where p base = ap (numbers_where p) (put_back_keeps_map m k u is) ∙ numbers_where-insert_other p base k u (removed m k) failed in
      ap (numbers_where p) (put_over m k v) ∙ numbers_where-insert_new base k v (removed m k) passes
      ∙ ap (put_number k) (sym before)
