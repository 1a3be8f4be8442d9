-- Laws of rows in groups (goods by unit, stocks by region): filtered group by group, and listed from a group's map.
-- Goods are items and days of study; a thing of a group is the number of an item or a skill.
use Rattle.std.proofs.Common.{◌≡◌, ◌≢◌, ◌==◌, ℕ, ◌++◌, ◌&&◌, List, [], ◌∷◌, Bool, true, false, not, cond, map, filter, refl, sym, ap, subst, ◌∙◌, arith, inl, inr, ◌⊎◌}
use Rattle.std.specs.List.{flat_map, AllByRecursion, IsDistinct}
use Rattle.std.specs.List.Sorted.{IsPermutation}
use Rattle.std.specs.FinMap.{entries}
use Rattle.std.proofs.lemmas.Bool.{cases_eq, false≢true}
use Rattle.std.proofs.lemmas.Bool.Decides.{nat_tests}
use Rattle.std.proofs.lemmas.List.Sorted.{IsPermutation-refl, IsPermutation-sym, IsPermutation-trans, IsPermutation-append, IsPermutation-append_right, IsPermutation-filter_both}
use Rattle.atl_campaign.specs.FromRows.{by_number}
use Rattle.atl_campaign.specs.Rows.{rows_by}
use Rattle.atl_world.proofs.KeyLaws.{IsDistinct-map, IsDistinct-of_map}
use Rattle.atl_campaign.proofs.MapOfRowsLaws.{HaveDistinctNumbers, HaveDistinctNumbers-keys, HasNumber, flat_order}
use Rattle.atl_world.proofs.GeneralLaws.{each_follows}

-- ---- rows that pass a test

module _ {R : Type 0} (test : R → Bool) where
  first_kept : (P : R → Type 0) (r : R) (rows : List R) (b : Bool) → test r ≡ b → (test r ≡ true → P r)
      → AllByRecursion P rows → AllByRecursion P (cond b (r ∷ rows) rows)
  first_kept P r rows true e one all = (one e, all)
  first_kept P r rows false e one all = all

  -- P holds of all rows that filtering by the test leaves, if it holds of each row that passes
  pub kept : (P : R → Type 0) (rows : List R) → AllByRecursion (λ r. test r ≡ true → P r) rows
      → AllByRecursion P (filter test rows)
  kept P [] all = tt
  kept P (r ∷ rows) all = first_kept P r (filter test rows) (test r) refl all.0 (kept P rows all.1)

  first_unkept : (P : R → Type 0) (r : R) (rows : List R) (b : Bool) → test r ≡ b
      → AllByRecursion P (cond b (r ∷ rows) rows) → (test r ≡ true → P r) × AllByRecursion P rows
  first_unkept P r rows true e all = (λ _. all.0, all.1)
  first_unkept P r rows false e all = (λ passes. absurd (false≢true (sym e ∙ passes)), all)

  -- P holds of each row that passes the test, if it holds of all rows that filtering by the test leaves
  pub unkept : (P : R → Type 0) (rows : List R) → AllByRecursion P (filter test rows)
      → AllByRecursion (λ r. test r ≡ true → P r) rows
  unkept P [] all = tt
  unkept P (r ∷ rows) all = let first = first_unkept P r (filter test rows) (test r) refl all in (first.0, unkept P rows first.1)

  pub filter_each : (P : R → Type 0) (rows : List R) → AllByRecursion P rows → AllByRecursion P (filter test rows)
  filter_each P rows all = kept P rows (each_follows P (λ r. test r ≡ true → P r) (λ r h _. h) rows all)

  -- rows that are distinct by e stay distinct when some are left out
  pub filter_apart : (e : R → R → Bool) (rows : List R) → IsDistinct e rows → IsDistinct e (filter test rows)
  unfolding IsDistinct
  filter_apart e [] d = tt
  filter_apart e (r ∷ rows) d = either (filter_apart e rows d.1) (test r)
    where
      either : IsDistinct e (filter test rows) → (b : Bool)
          → IsDistinct e (cond b (r ∷ filter test rows) (filter test rows))
      either rest true = (filter_each (λ s. e r s ≡ false) rows d.0, rest)
      either rest false = rest

  pub filter_both : (other : R → Bool) (rows : List R)
      → filter other (filter test rows) ≡ filter (λ r. test r && other r) rows
  filter_both other [] = refl
  filter_both other (r ∷ rows) = either (filter_both other rows) (test r)
    where
      either : filter other (filter test rows) ≡ filter (λ r. test r && other r) rows → (b : Bool)
          → filter other (cond b (r ∷ filter test rows) (filter test rows)) ≡ cond (b && other r) (r ∷ filter (λ r. test r && other r) rows) (filter (λ r. test r && other r) rows)
      either rest true = ap (λ rs. cond (other r) (r ∷ rs) rs) rest
      either rest false = rest

one_or_none_in_front : {R : Type 0} (b : Bool) (r : R) (rows : List R)
    → cond b (r ∷ []) [] ++ rows ≡ cond b (r ∷ rows) rows
one_or_none_in_front true r rows = refl
one_or_none_in_front false r rows = refl

-- filtering the row `f x` of each x in a list of its own, and joining what is left, is filtering all these rows
pub filter_lines : {X R : Type 0} (test : R → Bool) (f : X → R) (xs : List X)
    → flat_map (λ x. filter test (f x ∷ [])) xs ≡ filter test (map f xs)
filter_lines test f [] = refl
filter_lines test f (x ∷ xs) =
    ap (λ rs. filter test (f x ∷ []) ++ rs) (filter_lines test f xs)
    ∙ one_or_none_in_front (test (f x)) (f x) (filter test (map f xs))

-- ---- group by group

-- `group` gives the number of the group that a row is of, and `number` the number of a group; `units` are the groups
module _ {R U : Type 0} (group : R → ℕ) (number : U → ℕ) where
  -- the rows whose group has number n, as the goods of unit n or the stocks of region n
  abbrev pub of_group : ℕ → List R → List R
  of_group n rows = filter (λ r. group r == n) rows

  abbrev others : ℕ → List R → List R
  others n rows = filter (λ r. not (group r == n)) rows

  same_group : (n m : ℕ) → m ≢ n → (rows : List R) → of_group m rows ≡ of_group m (others n rows)
  same_group n m apart [] = refl
  same_group n m apart (r ∷ rows) =
      elim (cases_eq (group r) n) [
        | inl at ↦
            let here : (group r == n) ≡ true = grind (arith, nat_tests) in
            let elsewhere : (group r == m) ≡ false = grind (arith, nat_tests) in
            ap (λ b. cond b (r ∷ of_group m rows) (of_group m rows)) elsewhere ∙ same_group n m apart rows
            ∙ sym (ap (λ b. of_group m (cond (not b) (r ∷ others n rows) (others n rows))) here)
        | inr away ↦
            let elsewhere : (group r == n) ≡ false = grind (arith, nat_tests) in
            ap (λ rs. cond (group r == m) (r ∷ rs) rs) (same_group n m apart rows)
            ∙ sym (ap (λ b. of_group m (cond (not b) (r ∷ others n rows) (others n rows))) elsewhere)
      ]

  same_groups : (n : ℕ) (rows : List R) (units : List U) → AllByRecursion (λ u. number u ≢ n) units
      → flat_map (λ u. of_group (number u) rows) units ≡ flat_map (λ u. of_group (number u) (others n rows)) units
  same_groups n rows [] apart = refl
  same_groups n rows (u ∷ units) apart =
      ap (λ rs. rs ++ flat_map (λ u. of_group (number u) rows) units) (same_group n (number u) apart.0 rows)
      ∙ ap (λ rs. of_group (number u) (others n rows) ++ rs) (same_groups n rows units apart.1)

  of_others : (n g : ℕ) (units : List U) → (n ≡ g) ⊎ HasNumber number units g → not (g == n) ≡ true
      → HasNumber number units g
  of_others n g units (inl e) other =
      let same : (g == n) ≡ true = grind (arith, nat_tests) in
      absurd (false≢true (sym (ap not same) ∙ other))
  of_others n g units (inr there) other = there

  -- the rows of all groups, one group after another, are the rows in some order, if no two groups have the same number
  -- and each row is of one
  by_group : (units : List U) (rows : List R) → HaveDistinctNumbers number units
      → AllByRecursion (λ r. HasNumber number units (group r)) rows
      → IsPermutation (flat_map (λ u. of_group (number u) rows) units) rows
  by_group [] [] apart all = IsPermutation-refl []
  by_group [] (r ∷ rows) apart all = absurd all.0
  by_group (u ∷ units) rows apart all =
      let n = number u in
      let mine = of_group n rows in
      let left = others n rows in
      let theirs = flat_map (λ u. of_group (number u) left) units in
      let of = kept (λ r. not (group r == n)) (λ r. HasNumber number units (group r)) rows (each_follows _ (λ r. not (group r == n) ≡ true → HasNumber number units (group r)) (λ r. of_others n (group r) units) rows all) in
      subst (λ rs. IsPermutation (mine ++ rs) rows) (sym (same_groups n rows units apart.0))
      (IsPermutation-trans (mine ++ theirs) (mine ++ left) rows (IsPermutation-append_right mine theirs left (by_group units left apart.1 of))
      (IsPermutation-sym rows (mine ++ left) (IsPermutation-filter_both (λ r. group r == n) (λ r. not (group r == n)) (λ r. refl) rows)))

  each_group : (f g : U → List R) → ((u : U) → IsPermutation (f u) (g u)) → (units : List U)
      → IsPermutation (flat_map f units) (flat_map g units)
  each_group f g same [] = IsPermutation-refl []
  each_group f g same (u ∷ units) =
      IsPermutation-append (f u) (g u) (flat_map f units) (flat_map g units) (same u) (each_group f g same units)

  -- if f gives each group's rows in some order, it gives all rows in some order, if no two groups have the same number
  -- and each row is of one
  pub gathered : (f : U → List R) (units : List U) (rows : List R)
      → ((u : U) → IsPermutation (f u) (of_group (number u) rows)) → HaveDistinctNumbers number units
      → AllByRecursion (λ r. HasNumber number units (group r)) rows
      → IsPermutation (flat_map f units) rows
  gathered f units rows same apart all =
      let groups = flat_map (λ u. of_group (number u) rows) units in
      IsPermutation-trans (flat_map f units) groups rows (each_group f (λ u. of_group (number u) rows) same units) (by_group units rows apart all)

-- ---- rows of a group with keys

-- `mine` tests whether a row is of the group, and `same` whether two keys are equal, as each is to itself (`itself`);
-- `key` and `thing` give the key and the thing of a row, and P is a condition on rows
module _ {R K : Type 0} (key : R → K) (same : K → K → Bool) (itself : (k : K) → same k k ≡ true) (thing : R → ℕ) (mine : R → Bool) (P : R → Type 0) where
  -- a row of the group for which P holds
  abbrev pub IsOfGroupWithP : R → Type 0
  IsOfGroupWithP r = P r × (mine r ≡ true)

  -- the rows that the test `mine` leaves are of the group, and P holds of each, if P holds of all rows
  pub all_mine : (rows : List R) → AllByRecursion P rows → AllByRecursion IsOfGroupWithP (filter mine rows)
  all_mine rows all =
      kept mine IsOfGroupWithP rows
      (each_follows P (λ r. mine r ≡ true → IsOfGroupWithP r) (λ r one passes. (one, passes)) rows all)

  -- No thing occurs twice among the rows of the group, if P holds of all rows, no two of them have the same key, and
  -- rows of the group with one thing have one key.
  module _ (same_key : (r s : R) → IsOfGroupWithP r → IsOfGroupWithP s → thing r ≡ thing s → ◌≡◌ {A = K} (key s) (key r)) where
    other_thing : (r s : R) → IsOfGroupWithP r → IsOfGroupWithP s → same (key s) (key r) ≡ false → thing r ≢ thing s
    other_thing r s a b d e = false≢true (sym (ap (same (key s)) (same_key r s a b e) ∙ d) ∙ itself (key s))

    pub things_apart : (rows : List R) → AllByRecursion P rows → IsDistinct same (map key rows)
        → HaveDistinctNumbers thing (filter mine rows)
    things_apart rows all d =
        let keys = IsDistinct-map key same (filter mine rows) (filter_apart mine (λ r s. same (key r) (key s)) rows (IsDistinct-of_map key same rows d)) in
        HaveDistinctNumbers-keys key thing same IsOfGroupWithP (λ r s a b. other_thing s r b a) (filter mine rows) (all_mine rows all) keys

-- ---- the amounts of a group

-- `thing` and `amount` read both from a row, and `row` makes a row of a thing and an amount
module _ {R : Type 0} (thing amount : R → ℕ) where
  module _ (row : ℕ → ℕ → R) (some : R → Bool) where
    -- the row that a thing and its amount are written as, in a list, if it passes the test `some`; else an empty list
    abbrev line : ℕ × ℕ → List R
    line e = filter some (row e.0 e.1 ∷ [])

    row_lines : (rows : List R) → AllByRecursion (λ r. (row (thing r) (amount r) ≡ r) × (some r ≡ true)) rows
        → flat_map (λ r. line (thing r, amount r)) rows ≡ rows
    row_lines [] all = refl
    row_lines (r ∷ rows) all =
        let itself : line (thing r, amount r) ≡ r ∷ [] = ap (λ s. filter some (s ∷ [])) all.0.0 ∙ ap (λ b. cond b (r ∷ []) []) all.0.1 in
        ap (λ rs. rs ++ flat_map (λ r. line (thing r, amount r)) rows) itself ∙ ap (λ rs. r ∷ rs) (row_lines rows all.1)

    -- the map of a group's things and amounts is written, without rows that fail the test `some`, as just the group's
    -- rows, in some order, if things differ. Each row is to be the one written for its thing and amount, and to pass.
    pub lines_order : (rows : List R) → HaveDistinctNumbers thing rows
        → AllByRecursion (λ r. (row (thing r) (amount r) ≡ r) × (some r ≡ true)) rows
        → IsPermutation (filter some (rows_by row (entries (by_number thing amount rows)))) rows
    lines_order rows apart all =
        let es = entries (by_number thing amount rows) in
        let order = flat_order thing amount line rows apart in
        subst (λ rs. IsPermutation rs rows) (filter_lines some (λ (e : ℕ × ℕ). row e.0 e.1) es)
        (IsPermutation-sym rows (flat_map line es) (subst (λ rs. IsPermutation rs (flat_map line es)) (row_lines rows all) order))
