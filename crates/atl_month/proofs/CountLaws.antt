-- The law that two maps of the same size have the same numbers (keys), if one has each number of the other.
use Rattle.std.proofs.Common.{◌≡◌, ℕ, suc, zero, ◌-◌, ◌≤◌, cond, List, [], ◌∷◌, length, Option, Some, None, refl, sym, ap, ◌∙◌, arith}
use Rattle.std.specs.Prelude.{is_some}
use Rattle.std.specs.Ordering.{nat_cmp}
use Rattle.std.specs.Cmp.{nat_cmp_total}
use Rattle.std.specs.FinMap.{FinMap, empty_of_len, entries, find, get, get-empty, get-entries, len, len-entries, len-remove, remove}
use Rattle.atl_world.specs.Every.{HasValue}
use Rattle.atl_world.proofs.EveryLaws.{first, none_some}
use Rattle.atl_records.proofs.RemovedLaws.{get-remove_other, still}

-- the values of a map may be of any type `V`; only its numbers matter
module _ {V : Type 0} where
  abbrev HasAllNumbers : FinMap nat_cmp V → FinMap nat_cmp V → Type 0
  HasAllNumbers a b = (n : ℕ) → HasValue b n → HasValue a n

  len_without : (m : FinMap nat_cmp V) (n : ℕ) (v : V) → get m n ≡ Some v → len (remove m n) ≡ len m - 1
  len_without m n v is = len-remove nat_cmp_total m n ∙ ap (λ o. cond (is_some o) (len m - 1) (len m)) is

  some_values : (m : FinMap nat_cmp V) (n : ℕ) (v : V) → get m n ≡ Some v → 1 ≤ len m
  some_values m n v is = by_count (len m) refl
    where
      by_count : (k : ℕ) → len m ≡ k → 1 ≤ k
      by_count zero none = none_some v (sym (get-empty nat_cmp n) ∙ ap (λ e. get e n) (sym (empty_of_len m none)) ∙ is)
      by_count (suc k) some = omega arith

  has_all_without : (a b : FinMap nat_cmp V) (n : ℕ) → HasAllNumbers a b → HasAllNumbers (remove a n) (remove b n)
  has_all_without a b n all m (v, there) =
      let (apart, at) = still b n m v there in
      let (x, is) = all m (v, at) in
      (x, get-remove_other a n m apart ∙ is)

  at_least : (k : ℕ) (a b : FinMap nat_cmp V) → len b ≡ k → HasAllNumbers a b → k ≤ len a
  at_least zero a b count all = omega arith
  at_least (suc k) a b count all = by_entries (λ c d less has. at_least k c d less has) (entries b) refl
    where
      -- For `at_least`: a map `a` that has each number of map `b`, whose size is `k + 1`, has at least size `k + 1`.
      -- The law is given for all maps of size `k`.
      by_entries : ((c d : FinMap nat_cmp V) → len d ≡ k → HasAllNumbers c d → k ≤ len c) → (es : List (ℕ × V))
          → entries b ≡ es → suc k ≤ len a
      by_entries step [] is = absurd (omega (arith, count, len-entries b ∙ ap length is))
      by_entries step (e ∷ es) is =
          let here : get b e.0 ≡ Some e.1 = get-entries b e.0 ∙ ap (find nat_cmp e.0) is ∙ first e es in
          let (x, there) = all e.0 (e.1, here) in
          let rest = step (remove a e.0) (remove b e.0) (omega (arith, count, len_without b e.0 e.1 here)) (has_all_without a b e.0 all) in
          omega (arith, rest, len_without a e.0 x there, some_values a e.0 x there)

  -- if maps `a` and `b` have the same size, and `a` has each number of `b`, then `b` has each number of `a`
  pub has_all_back : (a b : FinMap nat_cmp V) → len b ≡ len a → HasAllNumbers a b → HasAllNumbers b a
  has_all_back a b count all n (v, here) = by_value (get b n) refl
    where
      by_value : (o : Option V) → get b n ≡ o → HasValue b n
      by_value (Some x) is = (x, is)
      by_value None none =
          let others : HasAllNumbers (remove a n) b = λ m there.
          let (x, is) = all m there in (x, get-remove_other a n m (λ own. none_some there.0 (sym none ∙ ap (get b) (sym own) ∙ there.1)) ∙ is) in
          absurd (omega (arith, count, at_least (len b) (remove a n) b refl others, len_without a n v here, some_values a n v here))
