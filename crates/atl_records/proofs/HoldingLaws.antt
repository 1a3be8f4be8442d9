-- Laws of a map from the numbers of items or skills to amounts, after the amount under one number is set. `items` is
-- the map before, `amount` is set under the number i, j is any number, and P a condition on a number and its amount.
use Rattle.std.proofs.Common.{◌≡◌, ◌≢◌, ◌==◌, ℕ, ◌≤◌, Bool, true, false, cond, Option, Some, None, refl, ap, subst, sym, ◌∙◌, inl, inr, arith}
use Rattle.std.specs.Prelude.{Result, Ok, Err, OnOk, OnErr, unwrap_or, if◌then◌else◌}
use Rattle.std.proofs.lemmas.Bool.{and_parts, cases_Bool, not-true}
use Rattle.std.proofs.lemmas.Bool.Decides.{nat_tests}
use Rattle.std.specs.Ordering.{nat_cmp, eq_by_cmp}
use Rattle.std.specs.Cmp.{nat_cmp_total, unsigned_ties}
use Rattle.std.specs.FinMap.{FinMap, get, get-insert, get-remove, insert, remove}
use Rattle.atl_world.proofs.SumLaws.{put_same}
use Rattle.atl_world.proofs.TrackLaws.{remove_none}
use Rattle.atl_world.specs.Every.{Every}
use Rattle.atl_records.specs.Holdings.{AreAmounts, HoldingValue, IsHolding, amount_of, has_amount, is_listed, with_amount_of}
use Rattle.atl_records.specs.Limits.{holding_limit}
use Rattle.atl_world.proofs.EveryLaws.{every-insert, get-insert_other}
use Rattle.atl_records.proofs.RemovedLaws.{every-remove, get-remove_other}

-- P holds of each listed amount once `amount` is set, if it held before, and holds of `amount` under i or this is 0
pub every_amount : (P : ℕ → ℕ → Type 0) (items : FinMap nat_cmp ℕ) (i amount : ℕ) → (1 ≤ amount → P i amount)
    → Every P items → Every P (with_amount_of items i amount)
every_amount P items i amount here old = by_zero (amount == 0) refl
  where
    -- P holds of every amount once the amount under i is set: if it is 0 (b), i is removed, else the amount is put in
    by_zero : (b : Bool) → (amount == 0) ≡ b → Every P (if b then remove items i else insert items i amount)
    by_zero true is = every-remove items i P old
    by_zero false is = let some : 1 ≤ amount = grind (arith, nat_tests) in every-insert P items i amount (here some) old

-- once `amount` is set under i, the amount under j is this one if j is i, and else what it was
pub amount_after_setting : (items : FinMap nat_cmp ℕ) (i amount j : ℕ)
    → amount_of (with_amount_of items i amount) j ≡ cond (eq_by_cmp nat_cmp j i) amount (amount_of items j)
amount_after_setting items i amount j = by_zero (amount == 0) refl
  where
    -- with the amount put in under i, the amount read under j is this one if b (j is i), else what it was before
    put : (b : Bool) → unwrap_or (cond b (Some amount) (get items j)) 0 ≡ cond b amount (amount_of items j)
    put true = refl
    put false = refl

    -- with i taken off the list, the amount read under j is 0, as was set, if b (j is i), else what it was before
    taken : (b : Bool) → 0 ≡ amount → unwrap_or (cond b None (get items j)) 0 ≡ cond b amount (amount_of items j)
    taken true e = e
    taken false e = refl

    by_zero : (b : Bool) → (amount == 0) ≡ b
        → amount_of (if b then remove items i else insert items i amount) j
        ≡ cond (eq_by_cmp nat_cmp j i) amount (amount_of items j)
    by_zero true is =
        let none : 0 ≡ amount = grind (arith, nat_tests) in
        ap (λ (o : Option ℕ). unwrap_or o 0) (get-remove nat_cmp_total items i j) ∙ taken (eq_by_cmp nat_cmp j i) none
    by_zero false is =
        ap (λ (o : Option ℕ). unwrap_or o 0) (get-insert nat_cmp_total items i amount j) ∙ put (eq_by_cmp nat_cmp j i)

pub amount_within : (h : HoldingValue) (i : ℕ) → IsHolding h → amount_of h.items i ≤ holding_limit
amount_within h i is = by_option (get h.items i) refl
  where
    by_option : (o : Option ℕ) → get h.items i ≡ o → unwrap_or o 0 ≤ holding_limit
    by_option None e = omega arith
    by_option (Some amount) e = (is.items i amount e).1

pub compared_equal_is_equal : (i j : ℕ) → eq_by_cmp nat_cmp j i ≡ true → j ≡ i
compared_equal_is_equal i j is = let same : (j == i) ≡ true = unsigned_ties j i ∙ is in grind (arith, nat_tests)

-- ---- the amount that was set, and each other one

-- the amount under i is set to `amount`
module _ (items : FinMap nat_cmp ℕ) (i amount : ℕ) where
  pub set_same : amount_of (with_amount_of items i amount) i ≡ amount
  set_same = let same : (i == i) ≡ true = grind (arith, nat_tests) in amount_after_setting items i amount i ∙ ap (λ b. cond b amount (amount_of items i)) (sym (unsigned_ties i i) ∙ same)

  pub set_other : (j : ℕ) → j ≢ i → amount_of (with_amount_of items i amount) j ≡ amount_of items j
  set_other j apart = elim (cases_Bool (eq_by_cmp nat_cmp j i)) [
    | inl same ↦ absurd (apart (compared_equal_is_equal i j same))
    | inr other ↦ amount_after_setting items i amount j ∙ ap (λ b. cond b amount (amount_of items j)) other
  ]

  pub get-set_other : (j : ℕ) → j ≢ i → get (with_amount_of items i amount) j ≡ get items j
  get-set_other j apart = by_zero (amount == 0)
    where
      by_zero : (b : Bool) → get (if b then remove items i else insert items i amount) j ≡ get items j
      by_zero true = get-remove_other items i j apart
      by_zero false = get-insert_other items i j amount apart

  -- setting an amount that the map has already leaves the map as it is
  pub set_again : has_amount items i amount ≡ true → with_amount_of items i amount ≡ items
  set_again has = by_entry (get items i) refl has
    where
      by_entry : (listed : Option ℕ) → get items i ≡ listed → is_listed listed amount ≡ true
          → with_amount_of items i amount ≡ items
      by_entry None is none =
          ap (λ b. if b then remove items i else insert items i amount) none ∙ remove_none items i is
      by_entry (Some listed) is same =
          let parts = and_parts _ _ same in
          let equal : amount ≡ listed = let test = parts.1 in grind (arith, nat_tests) in
          ap (λ b. if b then remove items i else insert items i amount) (not-true _ parts.0)
          ∙ put_same items i listed amount is equal

-- ---- a unit's amounts stay within limits, before a call (`old`) and after it (`new`), whether there was memory or not

-- Each amount stays from 1 to holding_limit: after one of at most holding_limit is set, and also where the call failed
-- and nothing was set. r is the call's result.
pub AreAmounts-set : {E : Type 0} (r : Result (Unit {0}) E) (old new : FinMap nat_cmp ℕ) (item amount : ℕ)
    → amount ≤ holding_limit → OnOk r (new ≡ with_amount_of old item amount) → OnErr r (new ≡ old) → AreAmounts old
    → AreAmounts new
AreAmounts-set (Ok u) old new item amount h put same is =
    subst AreAmounts (sym put)
    (every_amount (λ i n. (1 ≤ n) × (n ≤ holding_limit)) old item amount (λ some. (some, h)) is)
AreAmounts-set (Err e) old new item amount h put same is = subst AreAmounts (sym same) is

-- each amount stays from 1 to holding_limit if one in this range is put in, or the call (r) fails and sets nothing
pub AreAmounts-put : {E : Type 0} (r : Result (Unit {0}) E) (old new : FinMap nat_cmp ℕ) (item amount : ℕ)
    → (1 ≤ amount) × (amount ≤ holding_limit) → OnOk r (new ≡ insert old item amount) → OnErr r (new ≡ old)
    → AreAmounts old → AreAmounts new
AreAmounts-put (Ok u) old new item amount h put same is =
    subst AreAmounts (sym put) (every-insert (λ i n. (1 ≤ n) × (n ≤ holding_limit)) old item amount h is)
AreAmounts-put (Err e) old new item amount h put same is = subst AreAmounts (sym same) is
