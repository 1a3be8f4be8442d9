-- Laws on maps by number: look-ups find just the entries, and a table filled with the entries' rows has the map's rows.
-- `m` is a map. An entry of it is a number with its value, and `es` is a list of such. `line` makes the row of an
-- entry; that the row begins with the number is `numbered`. The first `key` columns of a row are its key. `old` are the
-- rows of a table before the rows `news` are put into it, and `rows` those after.
use Rattle.std.proofs.Common.{◌≡◌, ◌≢◌, ◌⊎◌, ℕ, true, false, cond, List, [], ◌∷◌, ◌++◌, take, Some, Less, Equal, Greater, refl, sym, ap, ◌∙◌, subst, inl, inr, true≢false}
use Rattle.std.specs.List.{flat_map}
use Rattle.std.specs.Ordering.{nat_cmp, is_eq, is_lt}
use Rattle.std.specs.Cmp.{nat_cmp_total}
use Rattle.std.specs.FinMap.{FinMap, get, get-entries, entries, entries_sorted, find, is_sorted, nat_cmp-IsAntisymmetric}
use Rattle.std.specs.FinMap.Entries.{below_all}
use Rattle.std.proofs.lemmas.Bool.{and_parts}
use Rattle.std.proofs.lemmas.Cmp.{tied_itself}
use Rattle.std.proofs.lemmas.Option.{same_Some, none-some}
use Rattle.atl_world.proofs.TrackLaws.{is_true}
use Rattle.sqlite.specs.Order.{Row}
use Rattle.sqlite_rules.specs.Lists.{Has}
use Rattle.sqlite_rules.proofs.ListLemmas.{has_either, has_left, has_right}
use Rattle.atl_descriptions.specs.Sets.{Set, HasExactly, put, puts}
use Rattle.atl_sql.specs.Shown.{int}
use Rattle.atl_writing.specs.Rows.{RowsOf, rows_in_order}
use Rattle.atl_writing.specs.GroupedRows.{DifferInKey}
use Rattle.atl_sql.proofs.ListLaws.{has_map, map_has}

-- ---- an entry is in the list exactly where the map has it

pub not_less_itself : (n : ℕ) → is_lt (nat_cmp n n) ≡ false
not_less_itself n = ap is_lt (tied_itself nat_cmp_total n)

pub less_apart : (m n : ℕ) → is_lt (nat_cmp m n) ≡ true → m ≢ n
less_apart m n less same = true≢false (sym less ∙ ap (λ k. is_lt (nat_cmp m k)) (sym same) ∙ not_less_itself m)

module _ {V : Type 0} where
  -- if `k` is below the numbers of all entries of a list, it is below that of each
  pub below_has : (k : ℕ) (es : List (ℕ × V)) (x : ℕ × V) → below_all nat_cmp k es ≡ true → Has es x
      → is_lt (nat_cmp k x.0) ≡ true
  below_has k [] x below there = absurd there
  below_has k (e ∷ es) x below (inl same) = ap (λ (y : ℕ × V). is_lt (nat_cmp k y.0)) same ∙ (and_parts _ _ below).0
  below_has k (e ∷ es) x below (inr later) = below_has k es x (and_parts _ _ below).1 later

  get_has : (es : List (ℕ × V)) (n : ℕ) (v : V) → find nat_cmp n es ≡ Some v → Has es (n, v)
  get_has [] n v got = absurd (none-some v got)
  get_has (e ∷ es) n v got =
      elim (nat_cmp n e.0) as
      (λ o. nat_cmp n e.0 ≡ o → cond (is_eq o) (Some e.1) (find nat_cmp n es) ≡ Some v → Has (e ∷ es) (n, v)) [
        | Less ↦ λ _ h. inr (get_has es n v h)
        | Equal ↦ λ tie h.
            let number : n ≡ e.0 = nat_cmp-IsAntisymmetric n e.0 tie in
            let value : v ≡ e.1 = sym (same_Some e.1 v h) in
            inl (λ i. (number i, value i))
        | Greater ↦ λ _ h. inr (get_has es n v h)
      ] refl got

  has_get : (es : List (ℕ × V)) (n : ℕ) (v : V) → is_sorted nat_cmp es ≡ true → Has es (n, v)
      → find nat_cmp n es ≡ Some v
  has_get [] n v sorted there = absurd there
  has_get (e ∷ es) n v sorted (inl same) =
      let number : n ≡ e.0 = ap (λ (x : ℕ × V). x.0) same in
      let value : v ≡ e.1 = ap (λ (x : ℕ × V). x.1) same in
      ap (λ b. cond b (Some e.1) (find nat_cmp n es)) (ap (λ k. is_eq (nat_cmp k e.0)) number ∙ ap is_eq (tied_itself nat_cmp_total e.0))
      ∙ ap Some (sym value)
  has_get (e ∷ es) n v sorted (inr later) =
      let below : is_lt (nat_cmp e.0 n) ≡ true = below_has e.0 es (n, v) (and_parts _ _ sorted).0 later in
      let other : is_eq (nat_cmp n e.0) ≡ false = elim (nat_cmp n e.0) as (λ o. nat_cmp n e.0 ≡ o → is_eq o ≡ false) [
        | Less ↦ λ _. refl
        | Equal ↦ λ tie. absurd (less_apart e.0 n below (sym (nat_cmp-IsAntisymmetric n e.0 tie)))
        | Greater ↦ λ _. refl
      ] refl in
      ap (λ b. cond b (Some e.1) (find nat_cmp n es)) other ∙ has_get es n v (and_parts _ _ sorted).1 later

  -- a value that a map has under a number is among its entries
  pub got_entry : (m : FinMap nat_cmp V) (n : ℕ) (v : V) → get m n ≡ Some v → Has (entries m) (n, v)
  got_entry m n v got = get_has (entries m) n v (sym (get-entries m n) ∙ got)

  -- each entry of a map is what the map has under its number
  pub entry_got : (m : FinMap nat_cmp V) (n : ℕ) (v : V) → Has (entries m) (n, v) → get m n ≡ Some v
  entry_got m n v there = get-entries m n ∙ has_get (entries m) n v (is_true _ (entries_sorted m)) there

  -- the entries of a map are sorted by number
  pub in_order : (m : FinMap nat_cmp V) → is_sorted nat_cmp (entries m) ≡ true
  in_order m = is_true _ (entries_sorted m)

-- ---- lists made of lists

-- each element of a `flat_map` is one that `f` gives for an element of the list
pub flat_has : {X Y : Type 0} (f : X → List Y) (xs : List X) (r : Y) → Has (flat_map f xs) r
    → (x : X) × Has xs x × Has (f x) r
flat_has f [] r there = absurd there
flat_has f (x ∷ xs) r there = elim (has_either (f x) (flat_map f xs) r there) [
  | inl here ↦ (x, inl refl, here)
  | inr more ↦ let found = flat_has f xs r more in (found.0, inr found.1, found.2)
]

-- what `f` gives for an element of the list is in the `flat_map`
pub has_flat : {X Y : Type 0} (f : X → List Y) (xs : List X) (x : X) (r : Y) → Has xs x → Has (f x) r
    → Has (flat_map f xs) r
has_flat f [] x r there here = absurd there
has_flat f (y ∷ xs) x r (inl same) here = has_left (f y) (flat_map f xs) r (subst (λ z. Has (f z) r) same here)
has_flat f (y ∷ xs) x r (inr later) here = has_right (f y) (flat_map f xs) r (has_flat f xs x r later here)

-- ---- rows with different keys, put into an empty table

-- putting rows with different keys into a set adds exactly these rows, if none of their keys was there
pub puts_has : (key : ℕ) (news : List Row) (S : Set) → DifferInKey key news
    → ((s : Row) → S s → (x : Row) → Has news x → take key s ≢ take key x) → (r : Row)
    → (puts key news S r → Has news r ⊎ S r) × (Has news r ⊎ S r → puts key news S r)
puts_has key [] S apart free r = (λ h. inr h, λ h. elim h [ inl none ↦ absurd none | inr was ↦ was ])
puts_has key (x ∷ xs) S apart free r =
    let later = puts_has key xs (put key x S) apart.1 (λ s is y there e. elim is [
      | inl same ↦ apart.0 y there (ap (take key) (sym same) ∙ e)
      | inr was ↦ free s was.0 y (inr there) e
    ]) r in (
      λ h. elim (later.0 h) [ inl there ↦ inl (inr there) | inr (inl same) ↦ inl (inl same) | inr (inr was) ↦ inr was.0 ],
      λ h. later.1 (elim h [ inl (inl same) ↦ inr (inl same) | inl (inr there) ↦ inl there | inr was ↦ inr (inr (was, free r was x (inl refl))) ]),
    )

-- an empty table into which rows with different keys are put has exactly these rows
pub empty_table_has_put_rows : (key : ℕ) (rows news old : List Row) → old ≡ [] → DifferInKey key news
    → HasExactly rows (puts key news (Has old)) → HasExactly rows (Has news)
empty_table_has_put_rows key rows news old none apart made r =
    let empty : (s : Row) → Has old s → ⊥ = λ s there. subst (λ l. Has l s) none there in
    let all = puts_has key news (Has old) apart (λ s there x _ _. empty s there) r in (
      λ there. elim (all.0 ((made r).0 there)) [ inl put_in ↦ put_in | inr was ↦ absurd (empty r was) ],
      λ there. (made r).1 (all.1 (inl there)),
    )

-- the rows of two lists together differ in their keys, if those of each list do and no two of different lists have one
-- key
pub apart_append : (key : ℕ) (xs ys : List Row) → DifferInKey key xs → DifferInKey key ys
    → ((x y : Row) → Has xs x → Has ys y → take key x ≢ take key y) → DifferInKey key (xs ++ ys)
apart_append key [] ys one two cross = two
apart_append key (x ∷ xs) ys one two cross = (
  λ y there. elim (has_either xs ys y there) [ inl early ↦ one.0 y early | inr late ↦ cross x y (inl refl) late ],
  apart_append key xs ys one.1 two (λ a b p q. cross a b (inr p) q),
)

-- ---- one row for each entry

-- two numbers are equal if two rows are, of which each has one of the numbers as its only column
pub same_number : (m n : ℕ) → ◌≡◌ {A = Row} (int m ∷ []) (int n ∷ []) → m ≡ n
same_number m n e = cc

-- each row of the list that `line` makes of a map's entries is in the set of the map's rows (`RowsOf`)
pub lines_rows : {V : Type 0} (line : ℕ → V → Row) (m : FinMap nat_cmp V) (es : List (ℕ × V)) → es ≡ entries m
    → (r : Row) → Has (rows_in_order line es) r → RowsOf line m r
lines_rows {V} line m es same r there =
    let x = map_has (λ (x : ℕ × V). line x.0 x.1) es r there in
    (x.0.0, x.0.1, entry_got m x.0.0 x.0.1 (subst (λ (l : List (ℕ × V)). Has l x.0) same x.1), x.2)

module _ {V : Type 0} (line : ℕ → V → Row) (numbered : (n : ℕ) (v : V) → take 1 (line n v) ≡ int n ∷ []) where
  lines_apart : (es : List (ℕ × V)) → is_sorted nat_cmp es ≡ true → DifferInKey 1 (rows_in_order line es)
  lines_apart [] sorted = tt
  lines_apart (e ∷ es) sorted = (
    λ y there same.
        let x = map_has (λ (x : ℕ × V). line x.0 x.1) es y there in
        let number : e.0 ≡ x.0.0 = same_number e.0 x.0.0 (sym (numbered e.0 e.1) ∙ same ∙ ap (take 1) x.2 ∙ numbered x.0.0 x.0.1) in
        less_apart e.0 x.0.0 (below_has e.0 es x.0 (and_parts _ _ sorted).0 x.1) number,
    lines_apart es (and_parts _ _ sorted).1,
  )

  -- an empty table filled with the rows of the map's entries has exactly the map's rows (`RowsOf`)
  pub rows_filled : (rows old : List Row) (m : FinMap nat_cmp V) → old ≡ []
      → HasExactly rows (puts 1 (rows_in_order line (entries m)) (Has old)) → HasExactly rows (RowsOf line m)
  rows_filled rows old m none made r =
      let is = empty_table_has_put_rows 1 rows (rows_in_order line (entries m)) old none (lines_apart (entries m) (in_order m)) made r in (
        λ there. lines_rows line m (entries m) refl r (is.0 there),
        λ of. is.1 (subst (Has (rows_in_order line (entries m))) (sym of.3) (has_map (λ (x : ℕ × V). line x.0 x.1) (entries m) (of.0, of.1) (got_entry m of.0 of.1 of.2))),
      )
