-- Laws of reading maps back: the rows of a map's entries, in any order, give that map again. `row` makes the row of a
-- number and its value, and `number` and `value` read both from a row.
-- m is a map by number, and `rows_by row (entries m)` are its rows; P is a condition, p a test of rows, and e tests
-- whether two rows or elements count as the same. An entry of a map is a number with its value.
use Rattle.std.proofs.Common.{◌≡◌, ℕ, suc, ◌≤◌, ◌<◌, ◌&&◌, ◌++◌, List, [], ◌∷◌, Bool, true, false, length, Some, None, refl, sym, ap, ◌∙◌, arith}
use Rattle.std.specs.Prelude.{pos, ⊤}
use Rattle.std.specs.declared.cmp.Ordering.{Ordering}
use Rattle.std.specs.declared.cmp.Ordering.TheVariants.{Less, Equal, Greater}
use Rattle.std.specs.List.{list_all, flat_map, AllByRecursion, IsDistinct}
use Rattle.std.specs.List.Sorted.{IsPermutation}
use Rattle.std.specs.Ordering.{nat_cmp, int_cmp, is_eq, ordering_then}
use Rattle.std.specs.Cmp.{nat_cmp_total}
use Rattle.std.specs.FinMap.{FinMap, get, entries, len, len-entries, is_sorted, same_map, nat_cmp-IsAntisymmetric, int_cmp-IsAntisymmetric}
use Rattle.std.specs.FinMap.Entries.{below_all}
use Rattle.std.proofs.lemmas.Bool.{and_parts, false≢true}
use Rattle.std.proofs.lemmas.List.Elements.{All-from_recursion, recursion_from_All}
use Rattle.std.proofs.lemmas.List.Sorted.{All-permutation, IsPermutation-sym, length_permutation}
use Rattle.std.proofs.lemmas.Map.Keys.{IsDistinct-IsPermutation}
use Rattle.std.proofs.lemmas.Cmp.{eq_by_cmp_equiv, int_cmp_total, on_total, then_total}
use Rattle.atl_records.specs.Limits.{most_u32}
use Rattle.atl_world.specs.Every.{EachEntry, Every}
use Rattle.atl_campaign.specs.FromRows.{as_u32, put_rows, by_number}
use Rattle.atl_campaign.specs.RowRules.{Key, one_key, HaveDistinctKeys}
use Rattle.atl_campaign.specs.Rows.{rows_by}
use Rattle.atl_campaign.proofs.AssemblyLaws.{min_small}
use Rattle.atl_world.proofs.EveryLaws.{none_some, every-empty, every-insert, every-from_each, each-from_every, sorted}
use Rattle.atl_records.proofs.AmountListLaws.{all_append}
use Rattle.atl_campaign.proofs.HasLaws.{FitsU32, is_same_key}
use Rattle.atl_world.proofs.KeyLaws.{IsDistinct-map}
use Rattle.atl_campaign.proofs.MapOfRowsLaws.{HaveDistinctNumbers, rows_found}
use Rattle.atl_world.proofs.EntryOrderLaws.{less_by_comparison}

-- ---- facts of each row, in another order

-- what holds of each row holds of each row in another order
pub each_permuted : {R : Type 0} (P : R → Type 0) (xs ys : List R) → IsPermutation xs ys → AllByRecursion P xs
    → AllByRecursion P ys
each_permuted P xs ys h all = recursion_from_All P ys (All-permutation P xs ys h (All-from_recursion P xs all))

pub each_back : {R : Type 0} (P : R → Type 0) (xs ys : List R) → IsPermutation xs ys → AllByRecursion P ys
    → AllByRecursion P xs
each_back P xs ys h = each_permuted P ys xs (IsPermutation-sym xs ys h)

-- all rows pass the test p if P holds of each, and rows of which P holds pass
pub all_pass : {R : Type 0} (p : R → Bool) (P : R → Type 0) → ((r : R) → P r → p r ≡ true) → (rows : List R)
    → AllByRecursion P rows → list_all p rows ≡ true
all_pass p P good [] h = refl
all_pass p P good (r ∷ rows) h = ap (λ b. b && list_all p rows) (good r h.0) ∙ all_pass p P good rows h.1

-- a number that fits 32 bits, written into a row, is read as itself
pub written_is_read : (n : ℕ) → n ≤ most_u32 → as_u32 (pos n) ≡ n
written_is_read n h = min_small n most_u32 h

pub written_fits_u32 : (n : ℕ) → n ≤ most_u32 → FitsU32 (pos n)
written_fits_u32 n h = ap pos (sym (written_is_read n h))

-- ---- maps

-- two maps are equal if each value of either is under the same number in the other
pub equal_by_values : {V : Type 0} (m k : FinMap nat_cmp V) → Every (λ n v. get k n ≡ Some v) m
    → Every (λ n v. get m n ≡ Some v) k → m ≡ k
equal_by_values {V} m k there back = same_map nat_cmp_total nat_cmp-IsAntisymmetric m k (λ n.
    elim (get m n) as (λ o. get m n ≡ o → get m n ≡ get k n) [
      | Some v ↦ λ is. is ∙ sym (there n v is)
      | None ↦ λ is. elim (get k n) as (λ q. get k n ≡ q → get m n ≡ get k n) [
        | None ↦ λ none. is ∙ sym none
        | Some v ↦ λ found. none_some v (sym is ∙ back n v found)
      ] refl
    ] refl)

module _ {R V : Type 0} (number : R → ℕ) (value : R → V) where
  put_from_each : (P : ℕ → V → Type 0) (rows : List R) (m : FinMap nat_cmp V)
      → AllByRecursion (λ r. P (number r) (value r)) rows → Every P m → Every P (put_rows number value rows m)
  put_from_each P [] m all old = old
  put_from_each P (r ∷ rows) m all old = put_from_each P rows _ all.1 (every-insert P m (number r) (value r) all.0 old)

  -- what holds of the number and the value of each row holds of each number of their map with its value
  pub every_by : (P : ℕ → V → Type 0) (rows : List R) → AllByRecursion (λ r. P (number r) (value r)) rows
      → Every P (by_number number value rows)
  every_by P rows all = put_from_each P rows _ all (every-empty P)

  -- the map made of rows is m, if each row's value is under its number in m, and each value of m is under its number in
  -- the map made of rows
  pub by_number_is : (m : FinMap nat_cmp V) (rows : List R)
      → AllByRecursion (λ r. get m (number r) ≡ Some (value r)) rows
      → Every (λ n v. get (by_number number value rows) n ≡ Some v) m → by_number number value rows ≡ m
  by_number_is m rows there back =
      equal_by_values (by_number number value rows) m (every_by (λ n v. get m n ≡ Some v) rows there) back

-- ---- a row for each entry

module _ {V R : Type 0} (row : ℕ → V → R) where
  rows_each : (P : R → Type 0) (es : List (ℕ × V)) → EachEntry (λ n v. P (row n v)) es
      → AllByRecursion P (rows_by row es)
  rows_each P [] h = tt
  rows_each P (e ∷ es) h = (h.0, rows_each P es h.1)

  each_row : (P : R → Type 0) (es : List (ℕ × V)) → AllByRecursion P (rows_by row es)
      → EachEntry (λ n v. P (row n v)) es
  each_row P [] h = tt
  each_row P (e ∷ es) h = (h.0, each_row P es h.1)

  -- P holds of each row made of a map's entries, if it holds of the row of each number with its value
  pub rows_every : (P : R → Type 0) (m : FinMap nat_cmp V) → Every (λ n v. P (row n v)) m
      → AllByRecursion P (rows_by row (entries m))
  rows_every P m h = rows_each P (entries m) (each-from_every (λ n v. P (row n v)) m h)

  -- P holds of the row of each number of a map with its value, if it holds of each row made of the map's entries
  pub every_row : (P : R → Type 0) (m : FinMap nat_cmp V) → AllByRecursion P (rows_by row (entries m))
      → Every (λ n v. P (row n v)) m
  every_row P m h = every-from_each (λ n v. P (row n v)) m (each_row P (entries m) h)

  count : (es : List (ℕ × V)) → length (rows_by row es) ≡ length es
  count [] = refl
  count (e ∷ es) = ap suc (count es)

  -- the rows of a map, in any order, are as many as its entries
  pub count_rows : (m : FinMap nat_cmp V) (rows : List R) → IsPermutation (rows_by row (entries m)) rows
      → length rows ≡ len m
  count_rows m rows h = length_permutation (rows_by row (entries m)) rows h ∙ count (entries m) ∙ sym (len-entries m)

  -- P holds of each of the rows of a map, in any order, if it holds of the row of each number with its value
  pub rows_so : (P : R → Type 0) (m : FinMap nat_cmp V) (rows : List R) → IsPermutation (rows_by row (entries m)) rows
      → Every (λ n v. P (row n v)) m → AllByRecursion P rows
  rows_so P m rows h every = each_permuted P (rows_by row (entries m)) rows h (rows_every P m every)

  -- all rows of a map, in any order, pass the test p, if the row of each number with its value does
  pub rows_pass : (p : R → Bool) (m : FinMap nat_cmp V) (rows : List R) → IsPermutation (rows_by row (entries m)) rows
      → Every (λ n v. p (row n v) ≡ true) m → list_all p rows ≡ true
  rows_pass p m rows h every = all_pass p (λ r. p r ≡ true) (λ r e. e) rows (rows_so (λ r. p r ≡ true) m rows h every)

  module _ (number : R → ℕ) (value : R → V) where
    -- the row of a value v under n is read as the number n and the value v
    abbrev pub ReadsBack : ℕ → V → Type 0
    ReadsBack n v = (number (row n v) ≡ n) × (value (row n v) ≡ v)

    -- rows of a map, in any order, make that map, if each is read back, and no two are read with the same number
    pub map_back : (m : FinMap nat_cmp V) (rows : List R) → IsPermutation (rows_by row (entries m)) rows
        → Every ReadsBack m → HaveDistinctNumbers number rows → by_number number value rows ≡ m
    map_back m rows h same apart =
        by_number_is number value m rows (rows_so (λ r. get m (number r) ≡ Some (value r)) m rows h (λ n v is. let both = same n v is in ap (get m) both.0 ∙ is ∙ ap (λ x. Some x) (sym both.1)))
        (λ n v is.
        let both = same n v is in
        let found = every_row (λ r. get (by_number number value rows) (number r) ≡ Some (value r)) m (each_back (λ r. get (by_number number value rows) (number r) ≡ Some (value r)) (rows_by row (entries m)) rows h (rows_found number value rows apart)) n v is in
        ap (get (by_number number value rows)) (sym both.0) ∙ found ∙ ap (λ x. Some x) both.1)

-- ---- keys

then_eq : (o p : Ordering) → is_eq (ordering_then o p) ≡ true → (o ≡ Equal) × (is_eq p ≡ true)
then_eq Less p h = absurd (false≢true h)
then_eq Equal p h = (refl, h)
then_eq Greater p h = absurd (false≢true h)

is_equal : (o : Ordering) → is_eq o ≡ true → o ≡ Equal
is_equal Less h = absurd (false≢true h)
is_equal Equal h = refl
is_equal Greater h = absurd (false≢true h)

-- two keys have the same three numbers
pub record SameKey (a b : Key) : Type 0 where
  pub first : a.0 ≡ b.0
  pub second : a.1 ≡ b.1
  pub third : a.2 ≡ b.2

same_key : (a b : Key) → is_same_key a b ≡ true → SameKey a b
same_key a b h =
    let outer = then_eq (ordering_then (int_cmp a.0 b.0) (int_cmp a.1 b.1)) (int_cmp a.2 b.2) h in
    let inner = then_eq (int_cmp a.0 b.0) (int_cmp a.1 b.1) (ap is_eq outer.0) in
    record {
      first = int_cmp-IsAntisymmetric a.0 b.0 inner.0;
      second = int_cmp-IsAntisymmetric a.1 b.1 (is_equal (int_cmp a.1 b.1) inner.1);
      third = int_cmp-IsAntisymmetric a.2 b.2 (is_equal (int_cmp a.2 b.2) outer.1);
    }

-- keys that differ in one of their three numbers are not the same key by `is_same_key`
pub apart_keys : (a b : Key) → ¬ (SameKey a b) → is_same_key a b ≡ false
apart_keys a b h =
    elim (is_same_key a b) as (λ t. is_same_key a b ≡ t → is_same_key a b ≡ false)
    [ true ↦ λ e. absurd (h (same_key a b e)) | false ↦ λ e. e ] refl

pub pos_is_injective : (m n : ℕ) → pos m ≡ pos n → m ≡ n
pos_is_injective m n e = cc

-- keys of one number, the second of which is higher, are not the same key by `is_same_key`
pub apart_numbers : (m n : ℕ) → m < n → is_same_key (one_key (pos m)) (one_key (pos n)) ≡ false
apart_numbers m n l =
    apart_keys (one_key (pos m)) (one_key (pos n)) (λ k. let e = pos_is_injective m n k.first in omega arith)

-- ---- rows that are listed one after another

-- what holds of each element of two joined lists holds of each element of both lists
pub each_appended : {A : Type 0} (P : A → Type 0) (xs ys : List A) → AllByRecursion P (xs ++ ys)
    → AllByRecursion P xs × AllByRecursion P ys
each_appended P [] ys h = (tt, h)
each_appended P (x ∷ xs) ys h = let rest = each_appended P xs ys h.1 in ((h.0, rest.0), rest.1)

-- the relation Before holds of each element of a list and each one that follows it
abbrev pub InOrder : {X : Type 0} → (X → X → Type 0) → List X → Type 0
InOrder Before [] = ⊤
InOrder Before (x ∷ xs) = AllByRecursion (Before x) xs × InOrder Before xs

module _ {A : Type 0} (e : A → A → Bool) where
  -- two joined lists are distinct by e if both are, and no element of the first equals one of the second by e
  pub append_apart : (xs ys : List A) → IsDistinct e xs → IsDistinct e ys
      → AllByRecursion (λ x. AllByRecursion (λ y. e x y ≡ false) ys) xs → IsDistinct e (xs ++ ys)
  unfolding IsDistinct
  append_apart [] ys d f h = f
  append_apart (x ∷ xs) ys d f h = (all_append (λ y. e x y ≡ false) xs ys d.0 h.0, append_apart xs ys d.1 f h.1)

  -- f makes rows of each x: `Own x` holds of them, and no two of them are the same by e. `Before x y` says that x comes
  -- before y, and then no row of x is the same by e as a row of y.
  module _ {X : Type 0} (f : X → List A) (Before : X → X → Type 0) (Own : X → A → Type 0) (apart : (x y : X) (a b : A) → Before x y → Own x a → Own y b → e a b ≡ false) (own : (x : X) → AllByRecursion (Own x) (f x)) (one : (x : X) → IsDistinct e (f x)) where
    -- for all_against: e is false of row a, which belongs to x (Own), and of each row that f makes of the elements xs,
    -- which come after x (Before)
    against : (x : X) (a : A) (xs : List X) → Own x a → AllByRecursion (Before x) xs
        → AllByRecursion (λ b. e a b ≡ false) (flat_map f xs)
    against x a [] mine h = tt
    against x a (y ∷ xs) mine h =
        all_append (λ b. e a b ≡ false) (f y) (flat_map f xs) (these (f y) (own y)) (against x a xs mine h.1)
      where
        these : (bs : List A) → AllByRecursion (Own y) bs → AllByRecursion (λ b. e a b ≡ false) bs
        these [] all = tt
        these (b ∷ bs) all = (apart x y a b h.0 mine all.0, these bs all.1)

    all_against : (x : X) (xs : List X) (rows : List A) → AllByRecursion (Own x) rows → AllByRecursion (Before x) xs
        → AllByRecursion (λ a. AllByRecursion (λ b. e a b ≡ false) (flat_map f xs)) rows
    all_against x xs [] mine h = tt
    all_against x xs (a ∷ rows) mine h = (against x a xs mine.0 h, all_against x xs rows mine.1 h)

    -- all rows that f makes of the elements of a list are distinct by e, if these are in order (InOrder)
    pub flat_apart : (xs : List X) → InOrder Before xs → IsDistinct e (flat_map f xs)
    unfolding IsDistinct
    flat_apart [] h = tt
    flat_apart (x ∷ xs) h =
        append_apart (f x) (flat_map f xs) (one x) (flat_apart xs h.1) (all_against x xs (f x) (own x) h.0)

-- ---- entries rise

-- the numbers of the entries are strictly rising: each is less than all that follow it
abbrev pub Rise : {V : Type 0} → List (ℕ × V) → Type 0
Rise {V} es = InOrder (λ (e f : ℕ × V). e.0 < f.0) es

below_each : {V : Type 0} (k : ℕ) (es : List (ℕ × V)) → below_all nat_cmp k es ≡ true → AllByRecursion (λ f. k < f.0) es
below_each k [] h = tt
below_each k (e ∷ es) h = (less_by_comparison k e.0 (and_parts _ _ h).0, below_each k es (and_parts _ _ h).1)

rise_sorted : {V : Type 0} (es : List (ℕ × V)) → is_sorted nat_cmp es ≡ true → Rise es
rise_sorted [] h = tt
rise_sorted (e ∷ es) h = (below_each e.0 es (and_parts _ _ h).0, rise_sorted es (and_parts _ _ h).1)

-- the numbers of a map's entries are strictly rising
pub entries_rise : {V : Type 0} (m : FinMap nat_cmp V) → Rise (entries m)
entries_rise m = rise_sorted (entries m) (sorted m)

module _ {V R : Type 0} (row : ℕ → V → R) (e : R → R → Bool) (apart : (n k : ℕ) (v u : V) → n < k → e (row n v) (row k u) ≡ false) where
  others : (n : ℕ) (v : V) (es : List (ℕ × V)) → AllByRecursion (λ f. n < f.0) es
      → AllByRecursion (λ r. e (row n v) r ≡ false) (rows_by row es)
  others n v [] h = tt
  others n v (f ∷ es) h = (apart n f.0 v f.1 h.0, others n v es h.1)

  -- the rows of entries with strictly rising numbers are distinct by e, if e is false of the rows of a lower and a
  -- higher number
  pub rows_apart : (es : List (ℕ × V)) → Rise es → IsDistinct e (rows_by row es)
  unfolding IsDistinct
  rows_apart [] h = tt
  rows_apart (f ∷ es) h = (others f.0 f.1 es h.0, rows_apart es h.1)

same_symm : (a b : Key) → is_same_key a b ≡ is_same_key b a
same_symm =
    (eq_by_cmp_equiv (then_total (then_total (on_total (λ (t : Key). t.0) int_cmp_total) (on_total (λ (t : Key). t.1) int_cmp_total)) (on_total (λ (t : Key). t.2) int_cmp_total))).symm

-- rows with distinct keys, which the function `key` gives, still have distinct keys in another order
pub keys_permuted : {R : Type 0} (key : R → Key) (xs ys : List R) → IsPermutation xs ys
    → IsDistinct (λ a b. is_same_key (key a) (key b)) xs → HaveDistinctKeys key ys
keys_permuted key xs ys h d =
    IsDistinct-map key is_same_key ys
    (IsDistinct-IsPermutation (λ a b. is_same_key (key a) (key b)) (λ a b. same_symm (key a) (key b)) xs ys h d)
