-- A map by number after a value is put in or taken out: its sums, and the numbers whose values pass a test. m is the
-- map and k the number; u is the value under k before, and v the value put in. f gives what is summed of a value, and p
-- is the test.
use Rattle.std.proofs.Common.{◌≡◌, ℕ, ◌+◌, Bool, true, false, cond, List, [], ◌∷◌, map, filter, Option, Some, None, sum_by, refl, sym, ap, ◌∙◌, arith}
use Rattle.std.specs.Prelude.{Result, Ok, Err, OnErr}
use Rattle.std.specs.declared.cmp.Ordering.TheVariants.{Less, Equal, Greater}
use Rattle.std.specs.Ordering.{nat_cmp, is_eq, eq_by_cmp}
use Rattle.std.specs.Cmp.{nat_cmp_total}
use Rattle.std.specs.FinMap.{FinMap, get, insert, remove, find, put, entries, entries-insert, get-entries, get-insert, get-remove, same_map, nat_cmp-IsAntisymmetric}
use Rattle.std.specs.FinMap.Entries.{by_order}
use Rattle.std.proofs.lemmas.List.Sums.{sum_by-cons}
use Rattle.std.proofs.lemmas.Option.{none-some}
use Rattle.atl_world.specs.Sums.{sum_over, numbers_where}

addition_commutes : (a b : ℕ) → a + b ≡ b + a
addition_commutes a b = omega arith

sum_after_first : (a b c d : ℕ) → b ≡ c + d → a + b ≡ (a + c) + d
sum_after_first a b c d h = omega arith

addends_are_exchanged : (a b c : ℕ) → (a + c) + b ≡ (b + c) + a
addends_are_exchanged a b c = omega arith

equal_sums_in_front : (e a b c d : ℕ) → a + b ≡ c + d → (e + a) + b ≡ (e + c) + d
equal_sums_in_front e a b c d h = omega arith

module _ {X : Type 0} where
  inner_choice_is_unused : (b : Bool) (x y z : Option X) → cond b x z ≡ cond b x (cond b y z)
  inner_choice_is_unused true x y z = refl
  inner_choice_is_unused false x y z = refl

  pub put_over : (m : FinMap nat_cmp X) (k : ℕ) (v : X) → insert m k v ≡ insert (remove m k) k v
  put_over m k v = same_map nat_cmp_total nat_cmp-IsAntisymmetric _ _ (λ q.
      get-insert nat_cmp_total m k v q ∙ inner_choice_is_unused (eq_by_cmp nat_cmp q k) (Some v) None (get m q)
      ∙ sym (get-insert nat_cmp_total (remove m k) k v q ∙ ap (cond (eq_by_cmp nat_cmp q k) (Some v)) (get-remove nat_cmp_total m k q)))

  pub put_back_keeps_map : (m : FinMap nat_cmp X) (k : ℕ) (u : X) → get m k ≡ Some u → m ≡ insert (remove m k) k u
  put_back_keeps_map m k u h = same_map nat_cmp_total nat_cmp-IsAntisymmetric _ _ (λ q.
      elim (nat_cmp q k) as (λ r. nat_cmp q k ≡ r → get m q ≡ cond (is_eq r) (Some u) (cond (is_eq r) None (get m q))) [
        | Less ↦ λ _. refl
        | Equal ↦ λ e. ap (get m) (nat_cmp-IsAntisymmetric q k e) ∙ h
        | Greater ↦ λ _. refl
      ] refl
      ∙ sym (get-insert nat_cmp_total (remove m k) k u q ∙ ap (cond (eq_by_cmp nat_cmp q k) (Some u)) (get-remove nat_cmp_total m k q)))

  pub remove_undoes_insert : (m : FinMap nat_cmp X) (k : ℕ) (v : X) → get m k ≡ None → remove (insert m k v) k ≡ m
  remove_undoes_insert m k v h = same_map nat_cmp_total nat_cmp-IsAntisymmetric _ _ (λ q.
      get-remove nat_cmp_total (insert m k v) k q
      ∙ ap (cond (eq_by_cmp nat_cmp q k) None) (get-insert nat_cmp_total m k v q)
      ∙ elim (nat_cmp q k) as (λ r. nat_cmp q k ≡ r → cond (is_eq r) None (cond (is_eq r) (Some v) (get m q)) ≡ get m q) [
        | Less ↦ λ _. refl
        | Equal ↦ λ e. sym (ap (get m) (nat_cmp-IsAntisymmetric q k e) ∙ h)
        | Greater ↦ λ _. refl
      ] refl)

  -- ---- sums

  abbrev sum_of_entries : (f : X → ℕ) → List (ℕ × X) → ℕ
  sum_of_entries f es = sum_by (λ e. f e.1) es

  put_new : (f : X → ℕ) (k : ℕ) (v : X) (es : List (ℕ × X)) → find nat_cmp k es ≡ None
      → sum_of_entries f (put nat_cmp k v es) ≡ sum_of_entries f es + f v
  put_new f k v [] h = omega arith
  put_new f k v (e ∷ es) h =
      let more = sum_by-cons (λ (e : ℕ × X). f e.1) in
      elim (nat_cmp k e.0) as (λ r. cond (is_eq r) (Some e.1) (find nat_cmp k es) ≡ None → sum_of_entries f (by_order r ((k, v) ∷ e ∷ es) ((e.0, v) ∷ es) (e ∷ put nat_cmp k v es)) ≡ sum_of_entries f (e ∷ es) + f v) [
        | Less ↦ λ _. more (k, v) (e ∷ es) ∙ addition_commutes (f v) _
        | Equal ↦ λ g. absurd (none-some e.1 (sym g))
        | Greater ↦ λ g. more e (put nat_cmp k v es) ∙ sum_after_first (f e.1) _ (sum_of_entries f es) (f v) (put_new f k v es g) ∙ ap (λ n. n + f v) (sym (more e es))
      ] h

  put_either : (f : X → ℕ) (k : ℕ) (u v : X) (es : List (ℕ × X))
      → sum_of_entries f (put nat_cmp k v es) + f u ≡ sum_of_entries f (put nat_cmp k u es) + f v
  put_either f k u v [] = omega arith
  put_either f k u v (e ∷ es) =
      let more = sum_by-cons (λ (e : ℕ × X). f e.1) in
      elim (nat_cmp k e.0) as (λ r. sum_of_entries f (by_order r ((k, v) ∷ e ∷ es) ((e.0, v) ∷ es) (e ∷ put nat_cmp k v es)) + f u ≡ sum_of_entries f (by_order r ((k, u) ∷ e ∷ es) ((e.0, u) ∷ es) (e ∷ put nat_cmp k u es)) + f v) [
        | Less ↦ ap (λ n. n + f u) (more (k, v) (e ∷ es)) ∙ addends_are_exchanged (f v) (f u) _ ∙ ap (λ n. n + f v) (sym (more (k, u) (e ∷ es)))
        | Equal ↦ ap (λ n. n + f u) (more (e.0, v) es) ∙ addends_are_exchanged (f v) (f u) _ ∙ ap (λ n. n + f v) (sym (more (e.0, u) es))
        | Greater ↦ ap (λ n. n + f u) (more e (put nat_cmp k v es)) ∙ equal_sums_in_front (f e.1) _ (f u) _ (f v) (put_either f k u v es) ∙ ap (λ n. n + f v) (sym (more e (put nat_cmp k u es)))
      ]

  pub sum_over-insert_new : (f : X → ℕ) (m : FinMap nat_cmp X) (k : ℕ) (v : X) → get m k ≡ None
      → sum_over f (insert m k v) ≡ sum_over f m + f v
  sum_over-insert_new f m k v h =
      ap (sum_by (λ e. f e.1)) (entries-insert nat_cmp_total m k v)
      ∙ put_new f k v (entries m) (sym (get-entries m k) ∙ h)

  pub sum_over-insert_known : (f : X → ℕ) (m : FinMap nat_cmp X) (k : ℕ) (u v : X) → get m k ≡ Some u
      → sum_over f (insert m k v) + f u ≡ sum_over f m + f v
  sum_over-insert_known f m k u v h =
      ap (λ n. sum_over f n + f u) (put_over m k v)
      ∙ ap (λ es. sum_by (λ e. f e.1) es + f u) (entries-insert nat_cmp_total (remove m k) k v)
      ∙ put_either f k u v (entries (remove m k))
      ∙ ap (λ es. sum_by (λ e. f e.1) es + f v) (sym (entries-insert nat_cmp_total (remove m k) k u))
      ∙ ap (λ n. sum_over f n + f v) (sym (put_back_keeps_map m k u h))

  -- ---- the numbers whose values pass a test

  abbrev numbers_passing : (p : X → Bool) → List (ℕ × X) → List ℕ
  numbers_passing p es = map (λ e. e.0) (filter (λ e. p e.1) es)

  -- for `chosen-cons`, where b says whether the value of e passes the test
  chosen-cond : (p : X → Bool) (b : Bool) (e : ℕ × X) (es : List (ℕ × X))
      → map (λ e. e.0) (cond b (e ∷ filter (λ e. p e.1) es) (filter (λ e. p e.1) es))
      ≡ cond b (e.0 ∷ numbers_passing p es) (numbers_passing p es)
  chosen-cond p true e es = refl
  chosen-cond p false e es = refl

  -- the numbers among e ∷ es whose values pass: that of e, if its value passes, and then those among es
  pub chosen-cons : (p : X → Bool) (e : ℕ × X) (es : List (ℕ × X))
      → numbers_passing p (e ∷ es) ≡ cond (p e.1) (e.0 ∷ numbers_passing p es) (numbers_passing p es)
  chosen-cons p e es = chosen-cond p (p e.1) e es

  chosen-put : (p : X → Bool) (k : ℕ) (u v : X) → p u ≡ p v → (es : List (ℕ × X))
      → numbers_passing p (put nat_cmp k v es) ≡ numbers_passing p (put nat_cmp k u es)
  chosen-put p k u v h [] =
      chosen-cons p (k, v) [] ∙ ap (λ b. cond b (k ∷ []) []) (sym h) ∙ sym (chosen-cons p (k, u) [])
  chosen-put p k u v h (e ∷ es) =
      elim (nat_cmp k e.0) as (λ r. numbers_passing p (by_order r ((k, v) ∷ e ∷ es) ((e.0, v) ∷ es) (e ∷ put nat_cmp k v es)) ≡ numbers_passing p (by_order r ((k, u) ∷ e ∷ es) ((e.0, u) ∷ es) (e ∷ put nat_cmp k u es))) [
        | Less ↦ chosen-cons p (k, v) (e ∷ es) ∙ ap (λ b. cond b (k ∷ numbers_passing p (e ∷ es)) (numbers_passing p (e ∷ es))) (sym h) ∙ sym (chosen-cons p (k, u) (e ∷ es))
        | Equal ↦ chosen-cons p (e.0, v) es ∙ ap (λ b. cond b (e.0 ∷ numbers_passing p es) (numbers_passing p es)) (sym h) ∙ sym (chosen-cons p (e.0, u) es)
        | Greater ↦ chosen-cons p e (put nat_cmp k v es) ∙ ap (λ ns. cond (p e.1) (e.0 ∷ ns) ns) (chosen-put p k u v h es) ∙ sym (chosen-cons p e (put nat_cmp k u es))
      ]

  chosen-put_other : (p : X → Bool) (k : ℕ) (v : X) → p v ≡ false → (es : List (ℕ × X)) → find nat_cmp k es ≡ None
      → numbers_passing p (put nat_cmp k v es) ≡ numbers_passing p es
  chosen-put_other p k v h [] g = chosen-cons p (k, v) [] ∙ ap (λ b. cond b (k ∷ []) []) h
  chosen-put_other p k v h (e ∷ es) g =
      elim (nat_cmp k e.0) as (λ r. cond (is_eq r) (Some e.1) (find nat_cmp k es) ≡ None → numbers_passing p (by_order r ((k, v) ∷ e ∷ es) ((e.0, v) ∷ es) (e ∷ put nat_cmp k v es)) ≡ numbers_passing p (e ∷ es)) [
        | Less ↦ λ _. chosen-cons p (k, v) (e ∷ es) ∙ ap (λ b. cond b (k ∷ numbers_passing p (e ∷ es)) (numbers_passing p (e ∷ es))) h
        | Equal ↦ λ g. absurd (none-some e.1 (sym g))
        | Greater ↦ λ g. chosen-cons p e (put nat_cmp k v es) ∙ ap (λ ns. cond (p e.1) (e.0 ∷ ns) ns) (chosen-put_other p k v h es g) ∙ sym (chosen-cons p e es)
      ] g

  -- replacing u, the value under k, by v leaves the numbers whose values pass the test p, if both pass it or both fail
  pub numbers_where-insert_known : (p : X → Bool) (m : FinMap nat_cmp X) (k : ℕ) (u v : X) → get m k ≡ Some u
      → p u ≡ p v → numbers_where p (insert m k v) ≡ numbers_where p m
  numbers_where-insert_known p m k u v h same =
      ap (numbers_where p) (put_over m k v) ∙ ap (numbers_passing p) (entries-insert nat_cmp_total (remove m k) k v)
      ∙ chosen-put p k u v same (entries (remove m k))
      ∙ ap (numbers_passing p) (sym (entries-insert nat_cmp_total (remove m k) k u))
      ∙ ap (numbers_where p) (sym (put_back_keeps_map m k u h))

  -- putting a value that fails the test p in under a new number leaves the numbers whose values pass
  pub numbers_where-insert_other : (p : X → Bool) (m : FinMap nat_cmp X) (k : ℕ) (v : X) → get m k ≡ None → p v ≡ false
      → numbers_where p (insert m k v) ≡ numbers_where p m
  numbers_where-insert_other p m k v h fails =
      ap (numbers_passing p) (entries-insert nat_cmp_total m k v)
      ∙ chosen-put_other p k v fails (entries m) (sym (get-entries m k) ∙ h)

  pub put_same : (m : FinMap nat_cmp X) (k : ℕ) (u v : X) → get m k ≡ Some u → v ≡ u → insert m k v ≡ m
  put_same m k u v h e = ap (insert m k) e ∙ put_over m k u ∙ sym (put_back_keeps_map m k u h)

  -- r is the result of a call: if v is u where the call fails, putting v in changes nothing there
  pub put_same_err : {A E : Type 0} (r : Result A E) (m : FinMap nat_cmp X) (k : ℕ) (u v : X) → get m k ≡ Some u
      → OnErr r (v ≡ u) → OnErr r (insert m k v ≡ m)
  put_same_err (Ok a) m k u v h e = tt
  put_same_err (Err x) m k u v h e = put_same m k u v h e
