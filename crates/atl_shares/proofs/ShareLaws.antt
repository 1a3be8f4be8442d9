-- Laws of the shares of a pot, and of the remainder that the code carries from share to share. No share is above its
-- want. If the wants exceed the pot, all of it is given, and each share is off `pot * want / total` by less than one.
-- `total` is the sum of all wants, `before` the sum of those before `want`, and i an index of the list of wants.
use Rattle.std.proofs.Common.{◌≡◌, ℕ, ◌+◌, ◌-◌, ◌*◌, ◌/◌, ◌%◌, ◌<◌, ◌≤◌, List, [], ◌∷◌, ◌++◌, length, get_or, min, inl, inr, zero, suc, sum, refl, ap, sym, ◌∙◌, add-zero, zero-add, arith}
use Rattle.std.proofs.Math.Nat.{mul-div-le, mul-add, add-mul-div_left, div-add-mod, mod-lt, mul-div_left, mul-zero, zero-div, div-lt_iff_lt-mul, lt-mul-div-succ, mul-le-mul_left, le-div_iff_mul-le, mul_comm}
use Rattle.std.proofs.lemmas.List.Sums.{sum_by-cons, sum_by-append}
use Rattle.std.proofs.lemmas.Bool.Decides.{nat_tests}
use Rattle.std.proofs.lemmas.Bool.{cases_lt}
use Rattle.atl_shares.specs.Share.{IsNearPart, SplittingKeepsOthers, share_upto, shares, shares_after}

upto_is_rounded_quotient : (pot total x : ℕ) → 0 < total
    → (total * share_upto pot total x ≤ pot * x) × (pot * x < total * share_upto pot total x + total)
upto_is_rounded_quotient pot total x p = (mul-div-le (pot * x) total, omega (arith, lt-mul-div-succ (pot * x) p))

-- The first wants that add up to `y` together get no less than those that add up to `x`, if `x` is at most `y`. All
-- wants add up to `total`, which isn't 0.
pub upto_mono : (pot total x y : ℕ) → 0 < total → x ≤ y → share_upto pot total x ≤ share_upto pot total y
upto_mono pot total x y p h =
    (le-div_iff_mul-le p).1 (omega (arith, mul_comm (share_upto pot total x) total, (upto_is_rounded_quotient pot total x p).0, mul-le-mul_left pot h))

-- what a want gets, as a difference of two `share_upto`, is at most the want, if the pot is at most the sum of all
-- wants, which isn't 0
pub part_le : (pot total before want : ℕ) → 0 < total → pot ≤ total
    → share_upto pot total (before + want) - share_upto pot total before ≤ want
part_le pot total before want p h =
    let spread : pot * (before + want) ≡ pot * before + pot * want = mul-add pot before want in
    let less : pot * want ≤ total * want = omega (arith, mul-le-mul_left want h, mul_comm pot want, mul_comm total want) in
    let left : pot * before < total * share_upto pot total before + total = (upto_is_rounded_quotient pot total before p).1 in
    let room : pot * (before + want) < (share_upto pot total before + want + 1) * total = omega arith in
    let few : share_upto pot total (before + want) < share_upto pot total before + want + 1 = (div-lt_iff_lt-mul p).1 room in
    omega arith

-- The shares of wants that come after others, and what those others got, add up to what all of these get together, if
-- `total` isn't 0. The sum of the others' wants is `before`.
pub sum-shares_after : (pot total before : ℕ) → 0 < total → (wants : List ℕ)
    → sum (shares_after pot total before wants) + share_upto pot total before
    ≡ share_upto pot total (before + sum wants)
sum-shares_after pot total before p [] =
    zero-add (share_upto pot total before) ∙ ap (share_upto pot total) (sym (add-zero before))
sum-shares_after pot total before p (w ∷ ws) =
    let here = share_upto pot total (before + w) - share_upto pot total before in
    let first : sum (here ∷ shares_after pot total (before + w) ws) ≡ here + sum (shares_after pot total (before + w) ws) = sum_by-cons (λ x. x) here (shares_after pot total (before + w) ws) in
    let rest : sum (shares_after pot total (before + w) ws) + share_upto pot total (before + w) ≡ share_upto pot total ((before + w) + sum ws) = sum-shares_after pot total (before + w) p ws in
    let mono : share_upto pot total before ≤ share_upto pot total (before + w) = upto_mono pot total before (before + w) p (omega arith) in
    let whole : sum (w ∷ ws) ≡ w + sum ws = sum_by-cons (λ x. x) w ws in
    let same : share_upto pot total ((before + w) + sum ws) ≡ share_upto pot total (before + sum (w ∷ ws)) = ap (share_upto pot total) (omega arith) in
    omega arith

-- shares of `xs ++ ys` are those of `xs`, and then those of `ys`, which comes after `before` and all wants of `xs`
pub shares_after-append : (pot total before : ℕ) (xs ys : List ℕ)
    → shares_after pot total before (xs ++ ys)
    ≡ shares_after pot total before xs ++ shares_after pot total (before + sum xs) ys
shares_after-append pot total before [] ys = ap (λ n. shares_after pot total n ys) (omega arith)
shares_after-append pot total before (x ∷ xs) ys =
    ap (λ l. (share_upto pot total (before + x) - share_upto pot total before) ∷ l)
    (shares_after-append pot total (before + x) xs ys
    ∙ ap (λ n. shares_after pot total (before + x) xs ++ shares_after pot total n ys) (let e : sum (x ∷ xs) ≡ x + sum xs = sum_by-cons (λ x. x) x xs in omega arith))

-- unless `total` is 0, what a want gets, a difference of two `share_upto`, is off `pot * want / total` by less than one
pub share_near : (pot total before want : ℕ) → 0 < total →
    ((share_upto pot total (before + want) - share_upto pot total before) * total < pot * want + total)
    × (pot * want < (share_upto pot total (before + want) - share_upto pot total before) * total + total)
share_near pot total before want p =
    let here = share_upto pot total (before + want) - share_upto pot total before in
    let low = share_upto pot total before in
    let spread : pot * (before + want) ≡ pot * before + pot * want = mul-add pot before want in
    let mono : low ≤ share_upto pot total (before + want) = upto_mono pot total before (before + want) p (omega arith) in
    let top : share_upto pot total (before + want) ≡ here + low = omega arith in
    let cut : total * share_upto pot total (before + want) ≡ here * total + total * low = ap (λ n. total * n) top ∙ mul-add total here low ∙ ap (λ n. n + total * low) (mul_comm total here) in
    let q0 = upto_is_rounded_quotient pot total before p in
    let q1 = upto_is_rounded_quotient pot total (before + want) p in
    (omega arith, omega arith)

pub shares-enough : (pot : ℕ) (wants : List ℕ) → sum wants ≤ pot → shares pot wants ≡ wants
shares-enough pot wants h = grind (arith, nat_tests)

pub shares-short : (pot : ℕ) (wants : List ℕ) → pot < sum wants
    → shares pot wants ≡ shares_after pot (sum wants) 0 wants
shares-short pot wants h = grind (arith, nat_tests)

-- a condition on a want and its share holds at each index `i` of the lists, if it holds of any want and its share, and
-- of 0 and 0
holds_at_each_index : (P : ℕ → ℕ → Type 0) (pot total : ℕ)
    → ((before want : ℕ) → P want (share_upto pot total (before + want) - share_upto pot total before)) → P 0 0
    → (before : ℕ) (wants : List ℕ) (i : ℕ) → P (get_or wants i 0) (get_or (shares_after pot total before wants) i 0)
holds_at_each_index P pot total here none before [] i = none
holds_at_each_index P pot total here none before (w ∷ ws) zero = here before w
holds_at_each_index P pot total here none before (w ∷ ws) (suc i) =
    holds_at_each_index P pot total here none (before + w) ws i

-- no share is above its want
pub share_at_most : (pot : ℕ) (wants : List ℕ) (i : ℕ) → get_or (shares pot wants) i 0 ≤ get_or wants i 0
share_at_most pot wants i =
    elim (cases_lt pot (sum wants)) [
      | inl h ↦ rw (shares-short pot wants h) (holds_at_each_index (λ w s. s ≤ w) pot (sum wants) (λ b w. part_le pot (sum wants) b w (omega arith) (omega arith)) (omega arith) 0 wants i)
      | inr h ↦ rw (shares-enough pot wants h) (omega arith)
    ]

-- all shares together are the lesser of the pot and all wants
pub all_is_given : (pot : ℕ) (wants : List ℕ) → sum (shares pot wants) ≡ min pot (sum wants)
all_is_given pot wants =
    elim (cases_lt pot (sum wants)) [
      | inl h ↦
          let p : 0 < sum wants = omega arith in
          let all : sum (shares_after pot (sum wants) 0 wants) + share_upto pot (sum wants) 0 ≡ share_upto pot (sum wants) (0 + sum wants) = sum-shares_after pot (sum wants) 0 p wants in
          let full : share_upto pot (sum wants) (0 + sum wants) ≡ pot = ap (share_upto pot (sum wants)) (zero-add (sum wants)) ∙ mul-div_left pot p in
          let nothing : share_upto pot (sum wants) 0 ≡ 0 = ap (λ n. n / sum wants) (mul-zero pot) ∙ zero-div (sum wants) in
          ap sum (shares-short pot wants h) ∙ omega arith
      | inr h ↦ ap sum (shares-enough pot wants h) ∙ omega arith
    ]

-- each share differs from the pot times its want divided by all wants by less than one, if the pot isn't enough
pub share_is_near : (pot : ℕ) (wants : List ℕ) (i : ℕ) → pot < sum wants
    → IsNearPart pot (sum wants) (get_or wants i 0) (get_or (shares pot wants) i 0)
share_is_near pot wants i h =
    rw (shares-short pot wants h) (holds_at_each_index (IsNearPart pot (sum wants)) pot (sum wants)
    (λ b w. let n = share_near pot (sum wants) b w (omega arith) in record { above = n.0; below = n.1 })
    (record { above = omega arith; below = omega arith }) 0 wants i)

pub length-shares_after : (pot total before : ℕ) (wants : List ℕ)
    → length (shares_after pot total before wants) ≡ length wants
length-shares_after pot total before [] = refl
length-shares_after pot total before (w ∷ ws) = ap suc (length-shares_after pot total (before + w) ws)

pub length-shares : (pot : ℕ) (wants : List ℕ) → length (shares pot wants) ≡ length wants
length-shares pot wants = elim (cases_lt pot (sum wants)) [
  | inl h ↦ ap length (shares-short pot wants h) ∙ length-shares_after pot (sum wants) 0 wants
  | inr h ↦ ap length (shares-enough pot wants h)
]

sum-split : (ahead parts after : List ℕ) → sum (ahead ++ parts ++ after) ≡ sum (ahead ++ sum parts ∷ after)
sum-split ahead parts after =
    let one : sum (ahead ++ parts ++ after) ≡ sum (ahead ++ parts) + sum after = sum_by-append (λ x. x) (ahead ++ parts) after in
    let two : sum (ahead ++ parts) ≡ sum ahead + sum parts = sum_by-append (λ x. x) ahead parts in
    let three : sum (ahead ++ sum parts ∷ after) ≡ sum ahead + sum (sum parts ∷ after) = sum_by-append (λ x. x) ahead (sum parts ∷ after) in
    let four : sum (sum parts ∷ after) ≡ sum parts + sum after = sum_by-cons (λ x. x) (sum parts) after in
    omega arith

-- splitting a want changes no other share by prefix sums (`shares_after`), and its parts get together what it got
split_keeps_shares_after : (pot total : ℕ) → 0 < total → (ahead parts after : List ℕ)
    → (shares_after pot total 0 (ahead ++ parts ++ after) ≡ shares_after pot total 0 ahead ++ shares_after pot total (sum ahead) parts ++ shares_after pot total (sum ahead + sum parts) after)
    × (shares_after pot total 0 (ahead ++ sum parts ∷ after) ≡ shares_after pot total 0 ahead ++ sum (shares_after pot total (sum ahead) parts) ∷ shares_after pot total (sum ahead + sum parts) after)
split_keeps_shares_after pot total p ahead parts after =
    let front = shares_after pot total 0 ahead in
    let two : sum (ahead ++ parts) ≡ sum ahead + sum parts = sum_by-append (λ x. x) ahead parts in
    let given : sum (shares_after pot total (sum ahead) parts) + share_upto pot total (sum ahead) ≡ share_upto pot total (sum ahead + sum parts) = sum-shares_after pot total (sum ahead) p parts in
    let one : share_upto pot total (sum ahead + sum parts) - share_upto pot total (sum ahead) ≡ sum (shares_after pot total (sum ahead) parts) = omega arith in (
      shares_after-append pot total 0 (ahead ++ parts) after
          ∙ ap (λ l. l ++ shares_after pot total (0 + sum (ahead ++ parts)) after)
          (shares_after-append pot total 0 ahead parts ∙ ap (λ n. front ++ shares_after pot total n parts) (zero-add (sum ahead)))
          ∙ ap (λ n. front ++ shares_after pot total (sum ahead) parts ++ shares_after pot total n after) (zero-add (sum (ahead ++ parts)) ∙ two),
      shares_after-append pot total 0 ahead (sum parts ∷ after)
          ∙ ap (λ n. front ++ shares_after pot total n (sum parts ∷ after)) (zero-add (sum ahead))
          ∙ ap (λ n. front ++ n ∷ shares_after pot total (sum ahead + sum parts) after) one,
    )

-- splitting a want into several that follow one another changes no other share, and they get together what the one got
pub splitting_keeps_others : SplittingKeepsOthers
splitting_keeps_others pot ahead parts after =
    let same = sum-split ahead parts after in
    elim (cases_lt pot (sum (ahead ++ parts ++ after))) [
      | inl h ↦
          let total = sum (ahead ++ parts ++ after) in
          let split = split_keeps_shares_after pot total (omega arith) ahead parts after in (
            shares_after pot total 0 ahead,
            shares_after pot total (sum ahead) parts,
            shares_after pot total (sum ahead + sum parts) after,
            length-shares_after pot total 0 ahead,
            length-shares_after pot total (sum ahead) parts,
            shares-short pot (ahead ++ parts ++ after) h ∙ split.0,
            shares-short pot (ahead ++ sum parts ∷ after) (omega arith)
                ∙ ap (λ n. shares_after pot n 0 (ahead ++ sum parts ∷ after)) (sym same) ∙ split.1,
          )
      | inr h ↦ (
        ahead,
        parts,
        after,
        refl,
        refl,
        shares-enough pot (ahead ++ parts ++ after) h,
        shares-enough pot (ahead ++ sum parts ∷ after) (omega arith),
      )
    ]

-- `left` is the remainder of `pot * before` divided by `total`, which the code carries from want to want
pub record IsRemainder (pot total before left : ℕ) : Type 0 where
  pub small : left < total
  pub whole : total * share_upto pot total before + left ≡ pot * before

-- The share of the next want is the pot times the want, plus the running remainder (`left`), divided by the sum of all
-- wants and rounded down. That sum isn't 0.
pub next_share : (pot total before left want : ℕ) → 0 < total → IsRemainder pot total before left →
    (pot * want + left) / total ≡ share_upto pot total (before + want) - share_upto pot total before
next_share pot total before left want p h =
    let low = share_upto pot total before in
    let due = pot * want + left in
    let all : pot * (before + want) ≡ due + total * low = omega (arith, mul-add pot before want, h.whole) in
    let split : share_upto pot total (before + want) ≡ due / total + low = ap (λ n. n / total) all ∙ add-mul-div_left due low p in
    omega arith

-- the remainder of the division in `next_share` is the running remainder after the want, if `total` isn't 0
pub next_left : (pot total before left want : ℕ) → 0 < total → IsRemainder pot total before left →
    IsRemainder pot total (before + want) ((pot * want + left) % total)
next_left pot total before left want p h =
    let low = share_upto pot total before in
    let due = pot * want + left in
    let all : pot * (before + want) ≡ due + total * low = omega (arith, mul-add pot before want, h.whole) in
    let split : share_upto pot total (before + want) ≡ due / total + low = ap (λ n. n / total) all ∙ add-mul-div_left due low p in
    let both : total * share_upto pot total (before + want) ≡ total * (due / total) + total * low = ap (λ n. total * n) split ∙ mul-add total (due / total) low in
    let parts : total * (due / total) + due % total ≡ due = div-add-mod due total in
    record { small = mod-lt due p; whole = omega arith }
