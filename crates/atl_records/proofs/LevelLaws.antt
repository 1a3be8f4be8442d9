-- Laws of levels: the greatest number that passes a test, and the sums over the items held. `passes` is the test, and
-- `men` men have studied `days` days together.
use Rattle.std.proofs.Common.{◌≡◌, ℕ, zero, suc, ◌+◌, ◌*◌, ◌≤◌, Bool, true, false, nat_le, List, ◌∷◌, refl, sym, ap, ◌∙◌, arith, inl, inr, true≢false}
use Rattle.std.specs.Prelude.{if◌then◌else◌}
use Rattle.std.specs.Ordering.{nat_cmp}
use Rattle.std.specs.FinMap.{is_sorted}
use Rattle.std.proofs.lemmas.Bool.{cases_lt}
use Rattle.std.proofs.lemmas.Bool.Decides.{nat_tests}
use Rattle.atl_world.specs.Limits.{most_items, most_weight}
use Rattle.atl_world.proofs.EntryOrderLaws.{BeginsFrom, begins_later, begins_same}
use Rattle.atl_records.specs.Limits.{most_u32}
use Rattle.atl_records.specs.Levels.{greatest, days_for}

-- if n passes, it is the greatest number up to n that does
pub greatest_here : (passes : ℕ → Bool) (n : ℕ) → passes n ≡ true → n ≡ greatest passes n
greatest_here passes zero h = refl
greatest_here passes (suc n) h = sym (ap (λ b. if b then suc n else greatest passes n) h)

-- if n, which is m + 1, doesn't pass, the greatest number up to n that passes is the greatest up to m
pub greatest_below : (passes : ℕ → Bool) (n m : ℕ) → n ≡ m + 1 → passes n ≡ false
    → greatest passes n ≡ greatest passes m
greatest_below passes zero m e h = absurd (omega arith)
greatest_below passes (suc n) m e h = let same : n ≡ m = omega arith in ap (λ b. if b then suc n else greatest passes n) h ∙ ap (greatest passes) same

-- a level for which the days aren't enough is at least 1
pub unreached_level_is_above_0 : (level men days : ℕ) → nat_le (days_for level men) days ≡ false → 1 ≤ level
unreached_level_is_above_0 zero men days h = let none : nat_le (days_for 0 men) days ≡ true = grind (arith, nat_tests) in absurd (true≢false (sym none ∙ h))
unreached_level_is_above_0 (suc n) men days h = omega arith

-- the total `all` of a sum so far (`sum`) and of the terms left (`whole`, which is x + rest) stays as it is when the
-- term x moves to the sum so far
pub total_stays : (sum x rest whole all : ℕ) → whole ≡ x + rest → sum + whole ≡ all → (sum + x) + rest ≡ all
total_stays sum x rest whole all h e = omega (arith, h, e)

-- After one more item, a sum over a unit's items is still within its bound: B (most_u32 * most_weight) for each item
-- number passed. Before, the items left are sorted, with numbers from `low` on, which is at most most_items, and `sum`
-- is at most B * low. The first of them, e, adds x, which is at most B, and 0 if its number is most_items or more. Then
-- the items after e have numbers from `next` on, which is at most most_items, and sum + x is at most B * next.
pub fits_next : (low sum x : ℕ) (e : ℕ × ℕ) (es : List (ℕ × ℕ)) → is_sorted nat_cmp (e ∷ es) ≡ true → low ≤ most_items
    → sum ≤ (most_u32 * most_weight) * low → low ≤ e.0 → x ≤ (most_u32 * most_weight) → (most_items ≤ e.0 → x ≡ 0)
    → (next : ℕ) × (next ≤ most_items) × (sum + x ≤ (most_u32 * most_weight) * next) × BeginsFrom next es
fits_next low sum x e es sorted few fits from small far =
    elim (cases_lt e.0 most_items) [
      | inl h ↦ (low + 1, omega (arith, h, from), omega (arith, fits, small), begins_later low e es sorted from)
      | inr h ↦ (low, few, let none : x ≡ 0 = far h in omega (arith, fits, none), begins_same low e es sorted from)
    ]

pub weightless_pieces : (amount each : ℕ) → each ≡ 0 → amount * each ≡ 0
weightless_pieces amount each h = grind arith
