-- Laws of a map by number after a value is removed or put in: the other values, what holds of each, counts and sums. n
-- is any number, v a value, P a condition on a number and its value, and f gives what is summed of a value.
use Rattle.std.proofs.Common.{◌≡◌, ◌≢◌, ℕ, ◌≤◌, ◌-◌, ◌+◌, Bool, true, false, cond, Some, None, refl, sym, ap, ◌∙◌, arith}
use Rattle.std.specs.declared.cmp.Ordering.TheVariants.{Less, Equal, Greater}
use Rattle.std.specs.Ordering.{nat_cmp, is_eq}
use Rattle.std.specs.Cmp.{nat_cmp_total, ranked}
use Rattle.std.specs.FinMap.{FinMap, contains_key, get, get-insert, get-remove, insert, len, len-remove, nat_cmp-IsAntisymmetric, remove}
use Rattle.atl_world.specs.Sums.{sum_over}
use Rattle.atl_world.proofs.SumLaws.{put_back_keeps_map, sum_over-insert_new}
use Rattle.atl_world.specs.Every.{Every}
use Rattle.atl_world.proofs.EveryLaws.{none_some}

-- ---- a value that is taken out

-- k is the number under which a value is taken out of m
module _ {V : Type 0} (m : FinMap nat_cmp V) (k : ℕ) where
  pub get-remove_other : (n : ℕ) → n ≢ k → get (remove m k) n ≡ get m n
  get-remove_other n apart =
      get-remove nat_cmp_total m k n
      ∙ elim (nat_cmp n k) as (λ o. nat_cmp n k ≡ o → cond (is_eq o) None (get m n) ≡ get m n) [
        | Less ↦ λ _. refl
        | Equal ↦ λ o. absurd (apart (nat_cmp-IsAntisymmetric n k o))
        | Greater ↦ λ _. refl
      ] refl

  pub get-remove_same : get (remove m k) k ≡ None
  get-remove_same =
      get-remove nat_cmp_total m k k
      ∙ elim (nat_cmp k k) as (λ o. nat_cmp k k ≡ o → cond (is_eq o) None (get m k) ≡ None) [
        | Less ↦ λ o. let l = ranked k k Less (sym o) in absurd (omega arith)
        | Equal ↦ λ _. refl
        | Greater ↦ λ o. let l = ranked k k Greater (sym o) in absurd (omega arith)
      ] refl

  -- what the map has after the removal it had before, under another number than k
  pub still : (n : ℕ) (v : V) → get (remove m k) n ≡ Some v → (n ≢ k) × (get m n ≡ Some v)
  still n v is =
      elim (nat_cmp n k) as (λ o. nat_cmp n k ≡ o → cond (is_eq o) None (get m n) ≡ Some v → (n ≢ k) × (get m n ≡ Some v)) [
        | Less ↦ λ o e. (λ same. let l = ranked n k Less (sym o) in absurd (omega arith), e)
        | Equal ↦ λ o e. none_some v e
        | Greater ↦ λ o e. (λ same. let l = ranked n k Greater (sym o) in absurd (omega arith), e)
      ] refl (sym (get-remove nat_cmp_total m k n) ∙ is)

  pub every-remove : (P : ℕ → V → Type 0) → Every P m → Every P (remove m k)
  every-remove P old n v is = old n v (still n v is).1

  pub fewer : len (remove m k) ≤ len m
  fewer = let is = len-remove nat_cmp_total m k in less (contains_key m k) (len (remove m k)) (len m) is
    where
      -- for `fewer`, where b says whether the map of y values has the number that is removed
      less : (b : Bool) (x y : ℕ) → x ≡ cond b (y - 1) y → x ≤ y
      less true x y h = omega arith
      less false x y h = omega arith

  -- taking out v, the value under k, lowers the sum by f v
  pub sum_over-remove : (f : V → ℕ) (v : V) → get m k ≡ Some v → sum_over f (remove m k) + f v ≡ sum_over f m
  sum_over-remove f v is =
      sym (sum_over-insert_new f (remove m k) k v get-remove_same) ∙ ap (sum_over f) (sym (put_back_keeps_map m k v is))

-- P holds of each value once v is put in under k, if it holds of v, and of each value under another number
pub every-insert_other : {V : Type 0} (P : ℕ → V → Type 0) (m : FinMap nat_cmp V) (k : ℕ) (v : V) → P k v
    → ((n : ℕ) (x : V) → n ≢ k → get m n ≡ Some x → P n x) → Every P (insert m k v)
every-insert_other P m k v here others n x is =
    elim (nat_cmp n k) as (λ o. nat_cmp n k ≡ o → cond (is_eq o) (Some v) (get m n) ≡ Some x → P n x) [
      | Less ↦ λ o e. others n x (λ same. let l = ranked n k Less (sym o) in absurd (omega arith)) e
      | Equal ↦ λ o same. let at : n ≡ k = nat_cmp-IsAntisymmetric n k o in let one : v ≡ x = cc in rw (at, ← one) here
      | Greater ↦ λ o e. others n x (λ same. let l = ranked n k Greater (sym o) in absurd (omega arith)) e
    ] refl (sym (get-insert nat_cmp_total m k v n) ∙ is)
