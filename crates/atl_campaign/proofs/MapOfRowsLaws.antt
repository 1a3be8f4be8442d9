-- Laws of the map made of rows: each row's value is found in it, and it is written as just these rows, in some order.
-- `number` and `value` read the number and the value of a row, and `row` makes the row of both.
-- `by_number number value rows` is the map with the value of each row under its number. Of rows with the same number,
-- the last counts. An entry of a map is a number with its value.
use Rattle.std.proofs.Common.{◌≡◌, ◌≢◌, ℕ, ◌++◌, List, [], ◌∷◌, Bool, true, false, cond, map, Some, None, refl, sym, ap, subst, ◌∙◌, suc, length, inl, inr, ◌⊎◌}
use Rattle.std.specs.Prelude.{⊤}
use Rattle.std.specs.declared.cmp.Ordering.TheVariants.{Less, Equal, Greater}
use Rattle.std.specs.List.{flat_map, list_all, AllByRecursion, IsDistinct}
use Rattle.std.specs.List.Sorted.{IsPermutation}
use Rattle.std.specs.Ordering.{nat_cmp, is_eq}
use Rattle.std.specs.Cmp.{nat_cmp_total}
use Rattle.std.specs.FinMap.{FinMap, get, insert, empty, entries, find, put, entries-insert, get-entries, get-empty, len, len-entries}
use Rattle.std.specs.FinMap.Entries.{by_order}
use Rattle.std.proofs.lemmas.Bool.{and_parts, cases_eq}
use Rattle.std.proofs.lemmas.List.{append-nil, append_assoc}
use Rattle.std.proofs.lemmas.List.Concat.{flat_map_single}
use Rattle.std.proofs.lemmas.List.Sorted.{IsPermutation-refl, IsPermutation-sym, IsPermutation-trans, IsPermutation-append_left, IsPermutation-append_right, IsPermutation-append_comm, length_permutation}
use Rattle.atl_world.proofs.Maps.{entries-empty}
use Rattle.atl_world.proofs.TrackLaws.{get_inserted}
use Rattle.atl_campaign.specs.FromRows.{put_rows, by_number}
use Rattle.atl_campaign.specs.Rows.{rows_by}
use Rattle.atl_world.specs.Every.{Every, HasValue}
use Rattle.atl_world.proofs.EveryLaws.{none_some, there-new, there-insert, get-insert_other}

-- no two of the rows have the same number, which `number` reads
abbrev pub HaveDistinctNumbers : {R : Type 0} → (R → ℕ) → List R → Type 0
HaveDistinctNumbers number [] = ⊤
HaveDistinctNumbers number (r ∷ rows) = AllByRecursion (λ s. number s ≢ number r) rows × HaveDistinctNumbers number rows

-- one of the rows has the number n, which `number` reads
abbrev pub HasNumber : {R : Type 0} → (R → ℕ) → List R → ℕ → Type 0
HasNumber number [] n = ⊥
HasNumber number (r ∷ rows) n = (number r ≡ n) ⊎ HasNumber number rows n

-- two lists in front of a third may change places: what is joined has the same elements, each as often
pub exchange : {A : Type 0} (a b c : List A) → IsPermutation (a ++ (b ++ c)) (b ++ (a ++ c))
exchange a b c =
    subst (λ xs. IsPermutation xs (b ++ (a ++ c))) (append_assoc a b c) (subst (λ ys. IsPermutation ((a ++ b) ++ c) ys) (append_assoc b a c) (IsPermutation-append_left c (a ++ b) (b ++ a) (IsPermutation-append_comm a b)))

module _ {V A : Type 0} (f : ℕ × V → List A) where
  flat_put : (k : ℕ) (v : V) (es : List (ℕ × V)) → find nat_cmp k es ≡ None
      → IsPermutation (f (k, v) ++ flat_map f es) (flat_map f (put nat_cmp k v es))
  flat_put k v [] h = IsPermutation-refl (f (k, v) ++ [])
  flat_put k v (e ∷ es) h =
      elim (nat_cmp k e.0) as (λ r. cond (is_eq r) (Some e.1) (find nat_cmp k es) ≡ None → IsPermutation (f (k, v) ++ flat_map f (e ∷ es)) (flat_map f (by_order r ((k, v) ∷ e ∷ es) ((e.0, v) ∷ es) (e ∷ put nat_cmp k v es)))) [
        | Less ↦ λ _. IsPermutation-refl (f (k, v) ++ flat_map f (e ∷ es))
        | Equal ↦ λ g. none_some e.1 (sym g)
        | Greater ↦ λ g.
            IsPermutation-trans (f (k, v) ++ (f e ++ flat_map f es)) (f e ++ (f (k, v) ++ flat_map f es)) (f e ++ flat_map f (put nat_cmp k v es)) (exchange (f (k, v)) (f e) (flat_map f es))
            (IsPermutation-append_right (f e) (f (k, v) ++ flat_map f es) (flat_map f (put nat_cmp k v es)) (flat_put k v es g))
      ] h

  flat_insert : (m : FinMap nat_cmp V) (k : ℕ) (v : V) → get m k ≡ None
      → IsPermutation (f (k, v) ++ flat_map f (entries m)) (flat_map f (entries (insert m k v)))
  flat_insert m k v h =
      subst (λ es. IsPermutation (f (k, v) ++ flat_map f (entries m)) (flat_map f es))
      (sym (entries-insert nat_cmp_total m k v)) (flat_put k v (entries m) (sym (get-entries m k) ∙ h))

module _ {R V : Type 0} (number : R → ℕ) (value : R → V) where
  still_none : (m : FinMap nat_cmp V) (k : ℕ) (v : V) (rows : List R) → AllByRecursion (λ s. number s ≢ k) rows
      → AllByRecursion (λ s. get m (number s) ≡ None) rows
      → AllByRecursion (λ s. get (insert m k v) (number s) ≡ None) rows
  still_none m k v [] h n = tt
  still_none m k v (s ∷ rows) h n = (get-insert_other m k (number s) v h.0 ∙ n.0, still_none m k v rows h.1 n.1)

  all_none : (rows : List R) → AllByRecursion (λ s. get (empty {X = V} {R = nat_cmp}) (number s) ≡ None) rows
  all_none [] = tt
  all_none (s ∷ rows) = (get-empty nat_cmp (number s), all_none rows)

  module _ {A : Type 0} (f : ℕ × V → List A) where
    -- the lists that f makes of each row's number and value, joined
    abbrev pub flat_of : List R → List A
    flat_of rows = flat_map (λ r. f (number r, value r)) rows

    put_order : (rows : List R) (m : FinMap nat_cmp V) → HaveDistinctNumbers number rows
        → AllByRecursion (λ s. get m (number s) ≡ None) rows
        → IsPermutation (flat_map f (entries m) ++ flat_of rows) (flat_map f (entries (put_rows number value rows m)))
    put_order [] m h n =
        subst (λ xs. IsPermutation xs (flat_map f (entries m))) (sym (append-nil (flat_map f (entries m))))
        (IsPermutation-refl (flat_map f (entries m)))
    put_order (r ∷ rows) m h n =
        let k = number r in
        let v = value r in
        let old = flat_map f (entries m) in
        let new = flat_map f (entries (insert m k v)) in
        let last = flat_map f (entries (put_rows number value rows (insert m k v))) in
        let one = IsPermutation-append_left (flat_of rows) (f (k, v) ++ old) new (flat_insert f m k v n.0) in
        let moved = subst (λ xs. IsPermutation (old ++ (f (k, v) ++ flat_of rows)) xs) (sym (append_assoc (f (k, v)) old (flat_of rows))) (exchange old (f (k, v)) (flat_of rows)) in
        IsPermutation-trans (old ++ (f (k, v) ++ flat_of rows)) ((f (k, v) ++ old) ++ flat_of rows) last moved
        (IsPermutation-trans ((f (k, v) ++ old) ++ flat_of rows) (new ++ flat_of rows) last one (put_order rows (insert m k v) h.1 (still_none m k v rows h.0 n.1)))

    -- the lists that f makes of rows with different numbers, joined, are those of their map's entries, in some order
    pub flat_order : (rows : List R) → HaveDistinctNumbers number rows
        → IsPermutation (flat_of rows) (flat_map f (entries (by_number number value rows)))
    flat_order rows h =
        subst (λ es. IsPermutation (flat_map f es ++ flat_of rows) (flat_map f (entries (by_number number value rows)))) (entries-empty {X = V}) (put_order rows empty h (all_none rows))

  same_rows : (row : ℕ → V → R) (rows : List R) → AllByRecursion (λ r. row (number r) (value r) ≡ r) rows
      → flat_map (λ r. row (number r) (value r) ∷ []) rows ≡ rows
  same_rows row [] h = refl
  same_rows row (r ∷ rows) h =
      ap (λ s. s ∷ flat_map (λ r. row (number r) (value r) ∷ []) rows) h.0 ∙ ap (λ rs. r ∷ rs) (same_rows row rows h.1)

  -- the map made of rows with different numbers is written as just these rows, in some order.
  -- Each row is to be the one written for its number and value.
  pub rows_order : (row : ℕ → V → R) (rows : List R) → HaveDistinctNumbers number rows
      → AllByRecursion (λ r. row (number r) (value r) ≡ r) rows
      → IsPermutation (rows_by row (entries (by_number number value rows))) rows
  rows_order row rows h same =
      let es = entries (by_number number value rows) in
      let line = λ (e : ℕ × V). row e.0 e.1 in
      let order = flat_order (λ e. line e ∷ []) rows h in
      subst (λ xs. IsPermutation xs rows) (flat_map_single line es) (subst (λ ys. IsPermutation (flat_map (λ e. line e ∷ []) es) ys) (same_rows row rows same) (IsPermutation-sym (flat_of (λ e. line e ∷ []) rows) (flat_map (λ e. line e ∷ []) es) order))

-- ---- rows with keys

each_apart : {R K : Type 0} (key : R → K) (number : R → ℕ) (same : K → K → Bool) (P : R → Type 0) (r : R)
    → ((s : R) → P s → same (key r) (key s) ≡ false → number s ≢ number r)
    → (rows : List R) → AllByRecursion P rows → AllByRecursion (λ y. same (key r) y ≡ false) (map key rows)
    → AllByRecursion (λ s. number s ≢ number r) rows
each_apart key number same P r apart [] h d = tt
each_apart key number same P r apart (s ∷ rows) h d =
    (apart s h.0 d.0, each_apart key number same P r apart rows h.1 d.1)

-- No two rows have the same number, if P holds of each row, the rows have distinct keys, and rows of which P holds have
-- different numbers if their keys differ. `same` compares two keys.
pub HaveDistinctNumbers-keys : {R K : Type 0} (key : R → K) (number : R → ℕ) (same : K → K → Bool) (P : R → Type 0)
    → ((r s : R) → P r → P s → same (key r) (key s) ≡ false → number s ≢ number r)
    → (rows : List R) → AllByRecursion P rows → IsDistinct same (map key rows) → HaveDistinctNumbers number rows
unfolding IsDistinct
HaveDistinctNumbers-keys key number same P apart [] h d = tt
HaveDistinctNumbers-keys key number same P apart (r ∷ rows) h d =
    (each_apart key number same P r (λ s. apart r s h.0) rows h.1 d.0, HaveDistinctNumbers-keys key number same P apart rows h.1 d.1)

-- P holds of each row if it holds of rows that pass the test p, and all rows pass
pub each_passes : {R : Type 0} (p : R → Bool) (P : R → Type 0) → ((r : R) → p r ≡ true → P r) → (rows : List R)
    → list_all p rows ≡ true → AllByRecursion P rows
each_passes p P good [] h = tt
each_passes p P good (r ∷ rows) h = let parts = and_parts (p r) (list_all p rows) h in (good r parts.0, each_passes p P good rows parts.1)

-- ---- rows and the values under their numbers

module _ {R V : Type 0} (number : R → ℕ) (value : R → V) where
  put_keep : (rows : List R) (m : FinMap nat_cmp V) (k : ℕ) → AllByRecursion (λ s. number s ≢ k) rows
      → get (put_rows number value rows m) k ≡ get m k
  put_keep [] m k h = refl
  put_keep (r ∷ rows) m k h =
      put_keep rows (insert m (number r) (value r)) k h.1 ∙ get-insert_other m (number r) k (value r) (λ e. h.0 (sym e))

  put_found : (rows : List R) (m : FinMap nat_cmp V) → HaveDistinctNumbers number rows
      → AllByRecursion (λ r. get (put_rows number value rows m) (number r) ≡ Some (value r)) rows
  put_found [] m h = tt
  put_found (r ∷ rows) m h =
      (put_keep rows (insert m (number r) (value r)) (number r) h.0 ∙ get_inserted m (number r) (value r), put_found rows (insert m (number r) (value r)) h.1)

  -- each of rows with different numbers has its value under its number in their map
  pub rows_found : (rows : List R) → HaveDistinctNumbers number rows
      → AllByRecursion (λ r. get (by_number number value rows) (number r) ≡ Some (value r)) rows
  rows_found rows h = put_found rows empty h

  every_row : (P : ℕ → V → Type 0) (m : FinMap nat_cmp V) (rows : List R) → Every P m
      → AllByRecursion (λ r. get m (number r) ≡ Some (value r)) rows → AllByRecursion (λ r. P (number r) (value r)) rows
  every_row P m [] every h = tt
  every_row P m (r ∷ rows) every h = (every (number r) (value r) h.0, every_row P m rows every h.1)

  -- what holds of each number of the map with its value holds of each row, if no two rows have the same number
  pub each_row : (P : ℕ → V → Type 0) (rows : List R) → HaveDistinctNumbers number rows
      → Every P (by_number number value rows) → AllByRecursion (λ r. P (number r) (value r)) rows
  each_row P rows h every = every_row P (by_number number value rows) rows every (rows_found rows h)

  -- a number that is in a map stays there when rows are put in
  pub put_there : (rows : List R) (m : FinMap nat_cmp V) (k : ℕ) → HasValue m k
      → HasValue (put_rows number value rows m) k
  put_there [] m k h = h
  put_there (r ∷ rows) m k h =
      put_there rows (insert m (number r) (value r)) k (there-insert m (number r) k (value r) h)

  all_there : (rows : List R) (m : FinMap nat_cmp V)
      → AllByRecursion (λ r. HasValue (put_rows number value rows m) (number r)) rows
  all_there [] m = tt
  all_there (r ∷ rows) m =
      (put_there rows (insert m (number r) (value r)) (number r) (there-new m (number r) (value r)), all_there rows (insert m (number r) (value r)))

  -- the number of each row is in the map of the rows
  pub rows_there : (rows : List R) → AllByRecursion (λ r. HasValue (by_number number value rows) (number r)) rows
  rows_there rows = all_there rows empty

  came_from : (rows : List R) (m : FinMap nat_cmp V) (n : ℕ) → HasValue (put_rows number value rows m) n
      → HasNumber number rows n ⊎ HasValue m n
  came_from [] m n h = inr h
  came_from (r ∷ rows) m n h =
      elim (came_from rows (insert m (number r) (value r)) n h) [
        | inl later ↦ inl (inr later)
        | inr there ↦
            elim (cases_eq (number r) n) [
              | inl same ↦ inl (inl same)
              | inr apart ↦ inr (there.0, sym (get-insert_other m (number r) n (value r) (λ e. apart (sym e))) ∙ there.1)
            ]
      ]

  nothing_there : {P : Type 0} (n : ℕ) → HasValue (empty {X = V} {R = nat_cmp}) n → P
  nothing_there n h = none_some h.0 (sym (get-empty nat_cmp n) ∙ h.1)

  -- each number in the map of rows is that of one of the rows
  pub row_of : (rows : List R) (n : ℕ) → HasValue (by_number number value rows) n → HasNumber number rows n
  row_of rows n h = elim (came_from rows empty n h) [ inl row ↦ row | inr there ↦ nothing_there n there ]

  count : (rows : List R) → length {A = ℕ × V} (flat_map (λ r. (number r, value r) ∷ []) rows) ≡ length rows
  count [] = refl
  count (r ∷ rows) = ap suc (count rows)

  -- the map of rows with different numbers has as many numbers as there are rows
  pub same_count : (rows : List R) → HaveDistinctNumbers number rows → len (by_number number value rows) ≡ length rows
  same_count rows h =
      let es = entries (by_number number value rows) in
      let order = flat_order number value (λ e. e ∷ []) rows h in
      len-entries (by_number number value rows) ∙ ap length (sym (flat_same es))
      ∙ length_permutation (flat_map (λ r. (number r, value r) ∷ []) rows) (flat_map (λ e. e ∷ []) es) order
      ∙ count rows
    where
      flat_same : (es : List (ℕ × V)) → flat_map (λ e. e ∷ []) es ≡ es
      flat_same [] = refl
      flat_same (e ∷ es) = ap (λ xs. e ∷ xs) (flat_same es)
