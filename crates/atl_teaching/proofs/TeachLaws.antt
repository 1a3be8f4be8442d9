-- Laws of a lesson of TEACH: a lesson to a list of units is one to the first unit, and then one to the others.
use Rattle.std.proofs.Common.{◌≡◌, ◌≢◌, ◌==◌, ◌≤◌, ℕ, ◌+◌, ◌-◌, min, not, Bool, false, List, [], ◌∷◌, filter, sum_by, refl, sym, ap, ◌∙◌, inl, inr, arith}
use Rattle.std.specs.Prelude.{nat_eq, if◌then◌else◌}
use Rattle.std.specs.List.{AllByRecursion, IsDistinct}
use Rattle.std.proofs.lemmas.Bool.{cases_eq, cond_both, not-true}
use Rattle.std.proofs.lemmas.List.Elements.{All-filter, All-from_recursion, filter_passes, recursion_from_All}
use Rattle.std.proofs.lemmas.List.Sums.{sum_by-cons}
use Rattle.atl_world.proofs.GeneralLaws.{equal_itself, equality_is_symmetric, is_unequal}
use Rattle.atl_world.proofs.EveryLaws.{other_number}
use Rattle.atl_campaign.specs.Campaign.{CampaignValue}
use Rattle.atl_teaching.specs.Teach.{TaughtMen, first_mentions, men_at, taught_in_lesson, untaught_men}

-- ---- lists of units

abbrev IsOther : ℕ → ℕ → Type 0
IsOther n y = nat_eq n y ≡ false

-- no number of the list is the given number
abbrev pub AreOthers : ℕ → List ℕ → Type 0
AreOthers n = AllByRecursion (IsOther n)

filtered_distinct : (p : ℕ → Bool) (ns : List ℕ) → IsDistinct nat_eq ns → IsDistinct nat_eq (filter p ns)
unfolding IsDistinct
filtered_distinct p [] all = tt
filtered_distinct p (k ∷ ns) all =
    let rest = filtered_distinct p ns all.1 in
    let others = recursion_from_All (IsOther k) (filter p ns) (All-filter p (IsOther k) ns (All-from_recursion (IsOther k) ns all.0)) in
    cond_both (p k) (k ∷ filter p ns) (filter p ns) (IsDistinct nat_eq) (λ _. (others, rest)) (λ _. rest)

filtered_out_is_not_listed : (n : ℕ) (ns : List ℕ) → AreOthers n (filter (λ k. not (k == n)) ns)
filtered_out_is_not_listed n ns =
    recursion_from_All (IsOther n) (filter (λ k. not (k == n)) ns)
    (λ k d l. equality_is_symmetric n _ ∙ not-true _ (filter_passes (λ k. not (k == n)) ns k d l))

-- the first mentions of some numbers have no number twice
pub mentions_distinct : (ns : List ℕ) → IsDistinct nat_eq (first_mentions ns)
unfolding IsDistinct
mentions_distinct [] = tt
mentions_distinct (n ∷ ns) =
    (filtered_out_is_not_listed n (first_mentions ns), filtered_distinct (λ k. not (k == n)) (first_mentions ns) (mentions_distinct ns))

-- ---- men of the first unit are taught, and then men of the others

-- `taught` and `after` have by unit how many of its men were taught, before and after `given` men of unit `n` were
module _ (c : CampaignValue) (taught after : TaughtMen) (n given : ℕ) (here : after n ≡ taught n + given) (away : (k : ℕ) → k ≢ n → after k ≡ taught k) where
  -- once `given` more men of unit n were taught, units other than n have as many untaught men together as before
  pub same_sum : (ns : List ℕ) → AreOthers n ns → sum_by (untaught_men c after) ns ≡ sum_by (untaught_men c taught) ns
  same_sum [] all = refl
  same_sum (k ∷ ns) all =
      let same = away k (λ is. is_unequal n k all.0 (sym is)) in
      grind (arith, sum_by-cons (untaught_men c after) k ns, sum_by-cons (untaught_men c taught) k ns, same, same_sum ns all.1)

  same_lesson : (places : ℕ) (ns : List ℕ) (k : ℕ) → AreOthers n ns
      → taught_in_lesson c after places ns k ≡ taught_in_lesson c taught places ns k
  same_lesson places [] k all = refl
  same_lesson places (j ∷ ns) k all =
      let same : untaught_men c after j ≡ untaught_men c taught j = ap (λ m. men_at c j - m) (away j (λ is. is_unequal n j all.0 (sym is))) in
      ap (λ m. if k == j then min places m else taught_in_lesson c after (places - m) ns k) same
      ∙ ap (λ m. if k == j then min places (untaught_men c taught j) else m) (same_lesson (places - untaught_men c taught j) ns k all.1)

  not_taught : (places : ℕ) (ns : List ℕ) → AreOthers n ns → taught_in_lesson c after places ns n ≡ 0
  not_taught places [] all = refl
  not_taught places (k ∷ ns) all = rw all.0 (not_taught (places - untaught_men c after k) ns all.1)

  -- A lesson has places for `places` men. Unit `n` is first in turn and gets `given` of them, up to its untaught men.
  -- `ns` are the units after it, without n.
  module _ (places : ℕ) (ns : List ℕ) (is : given ≡ min places (untaught_men c taught n)) (others : AreOthers n ns) where
    -- once `given` men of unit n are taught, a lesson to the others, for the places left, leaves as many men of each
    -- unit taught as one lesson to all
    pub rest_taught : (k : ℕ)
        → after k + taught_in_lesson c after (places - given) ns k
        ≡ taught k + taught_in_lesson c taught places (n ∷ ns) k
    rest_taught k = elim (cases_eq k n) [
      | inl same ↦ rw same (grind (arith, not_taught (places - given) ns others, equal_itself n, here, is))
      | inr apart ↦
          let left : places - given ≡ places - untaught_men c taught n = omega (arith, is) in
          rw (away k apart, other_number k n apart, left, same_lesson (places - untaught_men c taught n) ns k others) refl
    ]

-- The men taught so far and those that the places left allow make the same `total` before and after the first unit's
-- turn. The lesson has `places` places, of which `left` are left. The first unit has `want` untaught men, the others
-- `rest`. It gets `given`, the lesser of `want` and `left`.
pub men_so_far : (places left given want rest total : ℕ) → left ≤ places → given ≡ min left want
    → (places - left) + min (want + rest) left ≡ total
    → (places - (left - given)) + min rest (left - given) ≡ total
men_so_far places left given want rest total few is all = grind (arith, few, is, all)
