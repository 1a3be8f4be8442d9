-- Laws of lists of numbers: which numbers are on them, and the first that passes a test. The list numbers_where has the
-- numbers whose values in a map pass a test.
use Rattle.std.proofs.Common.{◌≡◌, ◌≢◌, ℕ, suc, ◌<◌, ◌≤◌, Bool, true, false, cond, List, [], ◌∷◌, length, get_or, filter, map, Some, refl, sym, ap, subst, ◌∙◌, inl, inr, ◌⊎◌, arith}
use Rattle.std.specs.Ordering.{nat_cmp}
use Rattle.std.specs.FinMap.{FinMap, entries, get}
use Rattle.std.proofs.lemmas.Bool.{false_from_ne_true}
use Rattle.atl_world.specs.Sums.{numbers_where}
use Rattle.atl_world.proofs.SumLaws.{chosen-cons}
use Rattle.atl_world.specs.Every.{EachEntry, Every}
use Rattle.atl_campaign.specs.Owners.{first_or_zero}
use Rattle.atl_world.proofs.EveryLaws.{every-from_each, passes-listed}

-- a number is on a list of numbers
abbrev pub IsListed : ℕ → List ℕ → Type 0
IsListed k [] = ⊥
IsListed k (n ∷ ns) = (k ≡ n) ⊎ IsListed k ns

place_in : (k d : ℕ) (ns : List ℕ) → IsListed k ns → (i : ℕ) × (i < length ns) × (get_or ns i d ≡ k)
place_in k d [] h = absurd h
place_in k d (n ∷ ns) (inl same) = (0, omega arith, sym same)
place_in k d (n ∷ ns) (inr rest) = let (i, l, at) = place_in k d ns rest in (suc i, omega arith, at)

-- If all numbers on the list ns are 1 or more, the first that passes the test q is on it and passes, or is 0 where none
-- passes (`first_or_zero`).
pub first_of : (q : ℕ → Bool) (ns : List ℕ) → ((k : ℕ) → IsListed k ns → 1 ≤ k) →
    (first_or_zero (filter q ns) ≢ 0 → IsListed (first_or_zero (filter q ns)) ns × (q (first_or_zero (filter q ns)) ≡ true))
    × (first_or_zero (filter q ns) ≡ 0 → (k : ℕ) → IsListed k ns → q k ≡ false)
first_of q [] low = (λ some. absurd (some refl), λ none k h. absurd h)
first_of q (n ∷ ns) low =
    let rest = first_of q ns (λ k h. low k (inr h)) in
    elim (q n) as (λ b. q n ≡ b →
    (first_or_zero (cond b (n ∷ filter q ns) (filter q ns)) ≢ 0 → IsListed (first_or_zero (cond b (n ∷ filter q ns) (filter q ns))) (n ∷ ns) × (q (first_or_zero (cond b (n ∷ filter q ns) (filter q ns))) ≡ true))
    × (first_or_zero (cond b (n ∷ filter q ns) (filter q ns)) ≡ 0 → (k : ℕ) → IsListed k (n ∷ ns) → q k ≡ false)) [
      | true ↦ λ t. (λ some. (inl refl, t), λ none. let least = low n (inl refl) in absurd (omega arith))
      | false ↦ λ t. (λ some. let found = rest.0 some in (inr found.0, found.1), λ none k h. passed t (rest.1 none) k h)
    ] refl
  where
    passed : q n ≡ false → ((k : ℕ) → IsListed k ns → q k ≡ false) → (k : ℕ) → IsListed k (n ∷ ns) → q k ≡ false
    passed t others k (inl same) = ap q same ∙ t
    passed t others k (inr h) = others k h

module _ {V : Type 0} (p : V → Bool) where
  abbrev chosen : List (ℕ × V) → List ℕ
  chosen es = map (λ e. e.0) (filter (λ e. p e.1) es)

  further : (n : ℕ) (ns : List ℕ) (b : Bool) (k : ℕ) → IsListed k ns → IsListed k (cond b (n ∷ ns) ns)
  further n ns true k h = inr h
  further n ns false k h = h

  foremost : (n : ℕ) (ns : List ℕ) (b : Bool) → b ≡ true → IsListed n (cond b (n ∷ ns) ns)
  foremost n ns true h = inl refl
  foremost n ns false h = cc

  -- if the numbers of the entries that pass are on the list ks, they are on each list ns that has all numbers of ks
  all_further : (ks ns : List ℕ) → ((k : ℕ) → IsListed k ks → IsListed k ns) → (es : List (ℕ × V))
      → EachEntry (λ n v. p v ≡ true → IsListed n ks) es → EachEntry (λ n v. p v ≡ true → IsListed n ns) es
  all_further ks ns more [] h = tt
  all_further ks ns more (e ∷ es) h = (λ t. more e.0 (h.0 t), all_further ks ns more es h.1)

  each_listed : (es : List (ℕ × V)) → EachEntry (λ n v. p v ≡ true → IsListed n (chosen es)) es
  each_listed [] = tt
  each_listed (e ∷ es) =
      let same = sym (chosen-cons p e es) in (
        λ t. subst (IsListed e.0) same (foremost e.0 (chosen es) (p e.1) t),
        all_further (chosen es) (chosen (e ∷ es)) (λ k h. subst (IsListed k) same (further e.0 (chosen es) (p e.1) k h)) es (each_listed es),
      )

  -- each number whose value passes the test is in the list of those that pass
  pub passing_listed : (m : FinMap nat_cmp V) → Every (λ n v. p v ≡ true → IsListed n (numbers_where p m)) m
  passing_listed m = every-from_each (λ n v. p v ≡ true → IsListed n (numbers_where p m)) m (each_listed (entries m))

  -- each number in the list of those that pass has a value that passes
  pub listed_passing : (m : FinMap nat_cmp V) (k : ℕ) → IsListed k (numbers_where p m)
      → (v : V) × (get m k ≡ Some v) × (p v ≡ true)
  listed_passing m k h =
      let (i, l, at) = place_in k 0 (numbers_where p m) h in
      let (v, is, t) = passes-listed p m i 0 l in
      (v, ap (get m) (sym at) ∙ is, t)

  -- if the list of the numbers that pass is empty, no value passes
  pub none_passing : (m : FinMap nat_cmp V) → numbers_where p m ≡ [] → Every (λ n v. p v ≡ false) m
  none_passing m none n v is = false_from_ne_true (p v) (λ t. subst (IsListed n) none (passing_listed m n v is t))

  none_listed : (ns : List ℕ) → ((k : ℕ) → IsListed k ns → ⊥) → ns ≡ []
  none_listed [] h = refl
  none_listed (n ∷ ns) h = absurd (h n (inl refl))

  true_not_false : {P : Type 0} (b : Bool) → b ≡ true → b ≡ false → P
  true_not_false b t f = cc

  -- if no value passes, the list of the numbers that pass is empty
  pub nothing_listed : (m : FinMap nat_cmp V) → Every (λ n v. p v ≡ false) m → numbers_where p m ≡ []
  nothing_listed m none =
      none_listed (numbers_where p m)
      (λ k h. let (v, is, t) = listed_passing m k h in true_not_false (p v) t (none k v is))
