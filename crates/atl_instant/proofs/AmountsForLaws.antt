-- Laws of `amounts_for f ns`, the map from each number of the list ns to the amount that f gives it, without amounts of
-- 0; and when two maps of amounts are equal.
use Rattle.std.proofs.Common.{◌≡◌, ◌==◌, ℕ, ◌≤◌, Bool, true, false, not, ◌||◌, cond, List, [], ◌∷◌, map, filter, Option, Some, None, refl, sym, ap, ◌∙◌, arith}
use Rattle.std.specs.Prelude.{unwrap_or}
use Rattle.std.specs.List.{list_any}
use Rattle.std.proofs.lemmas.Bool.Decides.{nat_tests}
use Rattle.std.specs.Ordering.{nat_cmp, eq_by_cmp}
use Rattle.std.specs.Cmp.{nat_cmp_total}
use Rattle.std.specs.FinMap.{FinMap, find, get, get-from_entries, nat_cmp-IsAntisymmetric, same_map}
use Rattle.atl_world.proofs.GeneralLaws.{is_equal, same_key}
use Rattle.atl_world.specs.Every.{EachEntry, Every}
use Rattle.atl_records.specs.Holdings.{amount_of}
use Rattle.atl_world.proofs.EveryLaws.{found_of}
use Rattle.atl_instant.specs.Amounts.{amounts_for}

at_least_one : (n : ℕ) → (n == 0) ≡ false → 1 ≤ n
at_least_one n some = grind (arith, nat_tests)

-- f gives each number, such as that of a skill, an amount, such as its days
module _ (f : ℕ → ℕ) where
  abbrev IsAmountFor : ℕ → ℕ → Type 0
  IsAmountFor n amount = (1 ≤ amount) × (amount ≡ f n)

  -- each number of a list with the amount that f gives it, without the amounts of 0: the entries of the map of
  -- `amounts_for`
  abbrev listed : List ℕ → List (ℕ × ℕ)
  listed ns = filter (λ e. not (e.1 == 0)) (map (λ n. (n, f n)) ns)

  each_some : (ns : List ℕ) → EachEntry IsAmountFor (listed ns)
  each_some [] = tt
  each_some (n ∷ ns) = for_zero_or_more (each_some ns) (f n == 0) refl
    where
      for_zero_or_more : EachEntry IsAmountFor (listed ns) → (b : Bool) → (f n == 0) ≡ b
          → EachEntry IsAmountFor (cond (not b) ((n, f n) ∷ listed ns) (listed ns))
      for_zero_or_more rest true is = rest
      for_zero_or_more rest false is = ((at_least_one (f n) is, refl), rest)

  -- each amount that the map of `amounts_for` lists is at least 1, and the one that f gives its number
  pub each_said : (ns : List ℕ) → Every IsAmountFor (amounts_for f ns)
  unfolding amounts_for
  each_said ns n amount is =
      found_of IsAmountFor (listed ns) n amount (each_some ns) (sym (get-from_entries nat_cmp_total (listed ns) n) ∙ is)

  -- the amount that the entries `listed` have for a number; 0 where they have none
  abbrev found : ℕ → List ℕ → ℕ
  found q ns = unwrap_or (find nat_cmp q (listed ns)) 0

  abbrev is_among : ℕ → List ℕ → Bool
  is_among q ns = list_any (eq_by_cmp nat_cmp q) ns

  found_said : (q : ℕ) (ns : List ℕ) → found q ns ≡ cond (is_among q ns) (f q) 0
  found_said q [] = refl
  found_said q (n ∷ ns) = for_longer_list (found_said q ns) (f n == 0) (eq_by_cmp nat_cmp q n) refl refl
    where
      same_choice : (b : Bool) → 0 ≡ f q → cond b (f q) 0 ≡ f q
      same_choice true none = refl
      same_choice false none = none

      for_longer_list : found q ns ≡ cond (is_among q ns) (f q) 0 → (b k : Bool) → (f n == 0) ≡ b
          → eq_by_cmp nat_cmp q n ≡ k
          → unwrap_or (find nat_cmp q (cond (not b) ((n, f n) ∷ listed ns) (listed ns))) 0
          ≡ cond (k || is_among q ns) (f q) 0
      for_longer_list rest true true none same =
          rest ∙ same_choice (is_among q ns) (sym (ap f (same_key q n same) ∙ is_equal (f n) 0 none))
      for_longer_list rest true false none other = rest
      for_longer_list rest false true some same =
          ap (λ k. unwrap_or (cond k (Some (f n)) (find nat_cmp q (listed ns))) 0) same ∙ ap f (sym (same_key q n same))
      for_longer_list rest false false some other =
          ap (λ k. unwrap_or (cond k (Some (f n)) (find nat_cmp q (listed ns))) 0) other ∙ rest

  -- number q has in the map of `amounts_for` the amount that f gives it, if q is in the list, or f gives it 0
  pub as_said : (ns : List ℕ) (q : ℕ) → (list_any (eq_by_cmp nat_cmp q) ns ≡ false → f q ≡ 0)
      → amount_of (amounts_for f ns) q ≡ f q
  unfolding amounts_for
  as_said ns q others =
      ap (λ (o : Option ℕ). unwrap_or o 0) (get-from_entries nat_cmp_total (listed ns) q) ∙ found_said q ns
      ∙ for_listed_or_not (is_among q ns) refl
    where
      for_listed_or_not : (b : Bool) → is_among q ns ≡ b → cond b (f q) 0 ≡ f q
      for_listed_or_not true is = refl
      for_listed_or_not false is = sym (others is)

-- two maps m and o with the same amount of each number are equal, if each amount that they list is at least 1
pub same_amounts : (m o : FinMap nat_cmp ℕ) → Every (λ n amount. 1 ≤ amount) m → Every (λ n amount. 1 ≤ amount) o
    → ((n : ℕ) → amount_of m n ≡ amount_of o n) → m ≡ o
same_amounts m o some also same =
    same_map nat_cmp_total nat_cmp-IsAntisymmetric m o (λ n. by_options n (get m n) (get o n) refl refl (same n))
  where
    by_options : (n : ℕ) (a b : Option ℕ) → get m n ≡ a → get o n ≡ b → unwrap_or a 0 ≡ unwrap_or b 0 → a ≡ b
    by_options n None None one two e = refl
    by_options n None (Some y) one two e = let l = also n y two in absurd (omega (arith, l, e))
    by_options n (Some x) None one two e = let l = some n x one in absurd (omega (arith, l, e))
    by_options n (Some x) (Some y) one two e = ap Some e
