-- Laws of the sorted entries of a map: each number is less than the next one. An entry is a number with its value; e is
-- the first entry and `es` are those after it, n is at most the number of e, and k and q are numbers.
use Rattle.std.proofs.Common.{◌≡◌, ℕ, ◌+◌, ◌≤◌, ◌<◌, true, List, [], ◌∷◌, refl, sym, arith}
use Rattle.std.specs.declared.cmp.Ordering.TheVariants.{Less, Equal, Greater}
use Rattle.std.specs.Ordering.{nat_cmp, is_lt}
use Rattle.std.specs.Cmp.{ranked}
use Rattle.std.specs.FinMap.{is_sorted}
use Rattle.std.proofs.lemmas.Bool.{and_parts, false≢true}

pub less_by_comparison : (k q : ℕ) → is_lt (nat_cmp k q) ≡ true → k < q
less_by_comparison k q h =
    elim (nat_cmp k q) as (λ r. nat_cmp k q ≡ r → is_lt r ≡ true → k < q) [
      | Less ↦ λ e _. ranked k q Less (sym e)
      | Equal ↦ λ e g. absurd (false≢true g)
      | Greater ↦ λ e g. absurd (false≢true g)
    ] refl h

module _ {V : Type 0} where
  -- the first of the entries, if there is one, has the number n or a greater one
  abbrev pub BeginsFrom : ℕ → List (ℕ × V) → Type 0
  BeginsFrom n [] = Unit {0}
  BeginsFrom n (e ∷ es) = n ≤ e.0

  pub sorted_rest : (e : ℕ × V) (es : List (ℕ × V)) → is_sorted nat_cmp (e ∷ es) ≡ true → is_sorted nat_cmp es ≡ true
  sorted_rest e es h = (and_parts _ _ h).1

  -- where the first of sorted entries has the number n or a greater one, the next, if any, has a greater one than n
  pub begins_later : (n : ℕ) (e : ℕ × V) (es : List (ℕ × V)) → is_sorted nat_cmp (e ∷ es) ≡ true → n ≤ e.0
      → BeginsFrom (n + 1) es
  begins_later n e [] h l = tt
  begins_later n e (f ∷ es) h l = omega (arith, l, less_by_comparison e.0 f.0 (and_parts _ _ (and_parts _ _ h).0).0)

  pub begins_same : (n : ℕ) (e : ℕ × V) (es : List (ℕ × V)) → is_sorted nat_cmp (e ∷ es) ≡ true → n ≤ e.0
      → BeginsFrom n es
  begins_same n e [] h l = tt
  begins_same n e (f ∷ es) h l = omega (arith, l, less_by_comparison e.0 f.0 (and_parts _ _ (and_parts _ _ h).0).0)

  pub begins_zero : (es : List (ℕ × V)) → BeginsFrom 0 es
  begins_zero [] = tt
  begins_zero (e ∷ es) = omega arith
