-- Laws of the grid, a row of amounts for each thing: making, reading, writing and summing the books that its rows are.
-- `rows` are the rows, each at its thing's number, with an amount for each entry at the entry's index. e is an entry, t
-- a thing, a an account, and z an amount. In the laws for the code of Books t has a row: `row`, at its number `index`;
-- k is the index of e.
use Rattle.std.proofs.Common.{◌≡◌, ◌==◌, ℕ, zero, suc, ◌≤◌, ◌<◌, ◌+◌, Bool, true, false, cond, ◌||◌, List, [], ◌∷◌, ◌++◌, map, length, get_or, set, refl, sym, ap, subst, ◌∙◌, arith, inl, inr}
use Rattle.std.specs.Prelude.{ℤ, pos, replicate, unwrap_or}
use Rattle.std.specs.List.{flat_map, list_any, range_with_len}
use Rattle.std.specs.Ordering.{eq_by_cmp}
use Rattle.std.specs.FinMap.{get, get-empty, same_map}
use Rattle.std.proofs.lemmas.List.{ext_get_or, get_or-map, get_or-set_same, get_or-set_other, get_or_default, get_or_past, get_or-replicate, length-map, length-set, length-replicate}
use Rattle.std.proofs.lemmas.Bool.{cases_eq, cases_lt, false≢true, or_right}
use Rattle.std.proofs.lemmas.Bool.Decides.{nat_tests}
use Rattle.atl_records.specs.Limits.{entry_count}
use Rattle.atl_records.specs.declared.books.BooksEntry.{BooksEntry}
use Rattle.atl_records.specs.declared.books.BooksEntry.TheVariants.{Founding}
use Rattle.atl_records.specs.declared.books.Thing.{Thing}
use Rattle.atl_records.specs.Books.{Account, BooksValue, account_cmp, all_entries, amount_in, AreBooks, booked, entry_index, no_amounts, sum_of, thing_at, thing_index, with_amount}
use Rattle.atl_records.specs.Grids.{IsGrid, row_of, cell, with_cell, accounts_under, accounts, with_amounts, as_books}
use Rattle.atl_records.proofs.AccountLaws.{account_total, account_same, account_itself, apart_entries, apart_things, thing_at_index, cases_account, same_account, same_entry}
use Rattle.atl_records.proofs.BookLaws.{amount_listed, get-with_amount, listing_of, listed_some, same_value}
use Rattle.atl_records.proofs.EveryEntryLaws.{entry_in_place, entry_small}

-- ---- accounts among those of the first things

-- p is a test that some element of a list passes
module _ {A : Type 0} (p : A → Bool) where
  any_first : (xs ys : List A) → list_any p xs ≡ true → list_any p (xs ++ ys) ≡ true
  any_first [] ys h = absurd (false≢true h)
  any_first (x ∷ xs) ys h =
      elim (p x) as (λ b. (b || list_any p xs) ≡ true → (b || list_any p (xs ++ ys)) ≡ true) [ true ↦ λ _. refl | false ↦ λ later. any_first xs ys later ] h

  any_later : (xs ys : List A) → list_any p ys ≡ true → list_any p (xs ++ ys) ≡ true
  any_later [] ys h = h
  any_later (x ∷ xs) ys h = or_right (p x) (list_any p (xs ++ ys)) (any_later xs ys h)

  any_flat : (f : BooksEntry → List A) (e : BooksEntry) (es : List BooksEntry)
      → list_any (λ d. entry_index d == entry_index e) es ≡ true → list_any p (f e) ≡ true
      → list_any p (flat_map f es) ≡ true
  any_flat f e [] h its = absurd (false≢true h)
  any_flat f e (d ∷ es) h its =
      elim (cases_eq (entry_index d) (entry_index e)) [
        | inl same ↦ any_first (f d) (flat_map f es) (subst (λ c. list_any p (f c) ≡ true) (sym (same_entry d e same)) its)
        | inr apart ↦
            let tested : (entry_index d == entry_index e) ≡ false = grind (arith, nat_tests) in
            any_later (f d) (flat_map f es) (any_flat f e es (sym (ap (λ b. b || list_any (λ c. entry_index c == entry_index e) es) tested) ∙ h) its)
      ]

each_listed : (e : BooksEntry) → list_any (λ d. entry_index d == entry_index e) all_entries ≡ true
each_listed Founding = refl
each_listed _ = refl

any_under : (e : BooksEntry) (t : Thing) (a n : ℕ) → a ≤ thing_index t → thing_index t < a + n
    → list_any (eq_by_cmp account_cmp (e, t)) (map (λ i. (e, thing_at i)) (range_with_len a n)) ≡ true
any_under e t a zero l h = absurd (omega arith)
any_under e t a (suc n) l h =
    let others = list_any (eq_by_cmp account_cmp (e, t)) (map (λ i. (e, thing_at i)) (range_with_len (a + 1) n)) in
    elim (cases_eq a (thing_index t)) [
      | inl same ↦ ap (λ b. b || others) (ap (λ u. eq_by_cmp account_cmp (e, t) (e, u)) (ap thing_at same ∙ thing_at_index t) ∙ account_itself (e, t))
      | inr apart ↦ or_right (eq_by_cmp account_cmp (e, t) (e, thing_at a)) others (any_under e t (a + 1) n (omega arith) (omega arith))
    ]

-- the account of an entry with a thing whose number is below `things` is in the list `accounts`
pub any_accounts : (things : ℕ) (e : BooksEntry) (t : Thing) → thing_index t < things
    → list_any (eq_by_cmp account_cmp (e, t)) (accounts things) ≡ true
any_accounts things e t h =
    any_flat (eq_by_cmp account_cmp (e, t)) (accounts_under things) e all_entries (each_listed e)
    (any_under e t 0 things (omega arith) (omega arith))

-- ---- the books that rows stand for

-- `with_amounts` books list each account (entry and thing) of a list with the amount that is given, if it isn't 0, and
-- all other accounts as `books` do
get-filled : (amount : Account → ℤ) (chosen : List Account) (books : BooksValue) (a : Account)
    → get (with_amounts amount chosen books).amounts a
    ≡ cond (list_any (eq_by_cmp account_cmp a) chosen) (listing_of (amount a)) (get books.amounts a)
get-filled amount [] books a = refl
get-filled amount (c ∷ others) books a =
    let old = get (with_amounts amount others books).amounts a in
    let later = list_any (eq_by_cmp account_cmp a) others in
    get-with_amount (with_amounts amount others books) c.0 c.1 (amount c) a ∙ elim (cases_account a c) [
      | inl same ↦
          let yes : eq_by_cmp account_cmp a c ≡ true = ap (eq_by_cmp account_cmp a) (sym same) ∙ account_itself a in
          ap (λ b. cond b (listing_of (amount c)) old) yes ∙ ap (λ d. listing_of (amount d)) (sym same)
          ∙ sym (ap (λ b. cond (b || later) (listing_of (amount a)) (get books.amounts a)) yes)
      | inr apart ↦
          ap (λ b. cond b (listing_of (amount c)) old) apart ∙ get-filled amount others books a
          ∙ sym (ap (λ b. cond (b || later) (listing_of (amount a)) (get books.amounts a)) apart)
    ]

cell_past : (rows : List (List ℤ)) (a : Account) → length rows ≤ thing_index a.1 → cell rows a ≡ pos 0
cell_past rows a past = ap (λ row. get_or row (entry_index a.0) (pos 0)) (get_or_past rows (thing_index a.1) [] past)

pub things-as_books : (rows : List (List ℤ)) → (as_books rows).things ≡ length rows
unfolding as_books
things-as_books rows = refl

get-as_books : (rows : List (List ℤ)) (a : Account) → get (as_books rows).amounts a ≡ listing_of (cell rows a)
unfolding as_books
get-as_books rows a =
    let things = length rows in
    get-filled (cell rows) (accounts things) (no_amounts things) a ∙ elim (cases_lt (thing_index a.1) things) [
      | inl there ↦ ap (λ b. cond b (listing_of (cell rows a)) (get (no_amounts things).amounts a)) (any_accounts things a.0 a.1 there)
      | inr past ↦
          elim (list_any (eq_by_cmp account_cmp a) (accounts things)) as (λ b. cond b (listing_of (cell rows a)) (get (no_amounts things).amounts a) ≡ listing_of (cell rows a)) [
            | true ↦ refl
            | false ↦ get-empty {X = ℤ} account_cmp a ∙ sym (ap listing_of (cell_past rows a past))
          ]
    ]

pub amount-as_books : (rows : List (List ℤ)) (e : BooksEntry) (t : Thing)
    → amount_in (as_books rows) e t ≡ cell rows (e, t)
amount-as_books rows e t = ap (λ o. unwrap_or o (pos 0)) (get-as_books rows (e, t)) ∙ amount_listed (cell rows (e, t))

pub AreBooks-as_books : (rows : List (List ℤ)) → AreBooks (length rows) (as_books rows)
AreBooks-as_books rows =
    record {
      count = things-as_books rows;
      listed = λ e t z is.
          let some = listed_some (cell rows (e, t)) z (sym (get-as_books rows (e, t)) ∙ is) in
          elim (cases_lt (thing_index t) (length rows)) [
            | inl there ↦ (there, some.1)
            | inr past ↦ absurd (some.1 (sym some.0 ∙ cell_past rows (e, t) past))
          ];
    }

-- ---- rows with nothing in them

get_or-replicate_same : {A : Type 0} (n i : ℕ) (a : A) → get_or (replicate n a) i a ≡ a
get_or-replicate_same n i a =
    elim (cases_lt i n)
    [ inl h ↦ get_or-replicate n i a a h | inr h ↦ get_or_past (replicate n a) i a (rw length-replicate h) ]

abbrev zero_row : List ℤ
zero_row = replicate entry_count (pos 0)

cell-replicate : (things : ℕ) (a : Account) → cell (replicate things zero_row) a ≡ pos 0
cell-replicate things a =
    elim (cases_lt (thing_index a.1) things) [
      | inl h ↦ ap (λ row. get_or row (entry_index a.0) (pos 0)) (get_or-replicate things (thing_index a.1) zero_row [] h) ∙ get_or-replicate_same entry_count (entry_index a.0) (pos 0)
      | inr h ↦ let past : things ≤ thing_index a.1 = h in cell_past (replicate things zero_row) a (rw length-replicate past)
    ]

-- rows of zeros stand for books with every amount 0
pub as_books-replicate : (things : ℕ) → as_books (replicate things (replicate entry_count (pos 0))) ≡ no_amounts things
as_books-replicate things =
    let rows = replicate things zero_row in
    same_value (as_books rows) (no_amounts things) (things-as_books rows ∙ length-replicate things zero_row)
    (same_map account_total account_same (as_books rows).amounts (no_amounts things).amounts (λ a. get-as_books rows a ∙ ap listing_of (cell-replicate things a) ∙ sym (get-empty {X = ℤ} account_cmp a)))

-- ---- another amount in a cell

-- `rows` are a grid (`IsGrid`), and z is written into the cell of entry e and thing t, which has a row
module _ (rows : List (List ℤ)) (grid : IsGrid rows) (e : BooksEntry) (t : Thing) (z : ℤ) (there : thing_index t < length rows) where
  abbrev row_with_amount : List ℤ
  row_with_amount = set (row_of rows t) (entry_index e) z

  wide : length (row_of rows t) ≡ entry_count
  wide = grid.wide (thing_index t) [] there

  pub IsGrid-with_cell : IsGrid (with_cell rows e t z)
  IsGrid-with_cell =
      record {
        few = let size = length-set rows (thing_index t) row_with_amount in omega (arith, size, grid.few);
        wide = λ k d h.
            let lt : k < length rows = omega (arith, h, length-set rows (thing_index t) row_with_amount) in
            elim (cases_eq k (thing_index t)) [
              | inl same ↦ ap (λ i. length (get_or (set rows (thing_index t) row_with_amount) i d)) same ∙ ap length (get_or-set_same rows (thing_index t) row_with_amount d there) ∙ length-set (row_of rows t) (entry_index e) z ∙ wide
              | inr apart ↦ ap length (get_or-set_other rows (thing_index t) k row_with_amount d apart) ∙ grid.wide k d lt
            ];
      }

  cell-with_cell : (a : Account) → cell (with_cell rows e t z) a ≡ cond (eq_by_cmp account_cmp a (e, t)) z (cell rows a)
  cell-with_cell a =
      let choice = λ (b : Bool). cond b z (cell rows a) in
      elim (cases_eq (thing_index a.1) (thing_index t)) [
        | inl same ↦
            let row : row_of (with_cell rows e t z) a.1 ≡ row_with_amount = ap (λ k. get_or (with_cell rows e t z) k []) same ∙ get_or-set_same rows (thing_index t) row_with_amount [] there in
            let at_row = ap (λ r. get_or r (entry_index a.0) (pos 0)) row in
            elim (cases_eq (entry_index a.0) (entry_index e)) [
              | inl at ↦
                  let is = ap (λ b. eq_by_cmp account_cmp b (e, t)) (same_account a.0 e a.1 t at same) ∙ account_itself (e, t) in
                  at_row ∙ ap (λ k. get_or row_with_amount k (pos 0)) at
                  ∙ get_or-set_same (row_of rows t) (entry_index e) z (pos 0) (omega (arith, wide, entry_small e))
                  ∙ sym (ap choice is)
              | inr apart ↦
                  at_row ∙ get_or-set_other (row_of rows t) (entry_index e) (entry_index a.0) z (pos 0) apart
                  ∙ ap (λ k. get_or (get_or rows k []) (entry_index a.0) (pos 0)) (sym same)
                  ∙ sym (ap choice (apart_entries a (e, t) apart))
            ]
        | inr apart ↦
            ap (λ r. get_or r (entry_index a.0) (pos 0)) (get_or-set_other rows (thing_index t) (thing_index a.1) row_with_amount [] apart)
            ∙ sym (ap choice (apart_things a (e, t) apart))
      ]

  -- rows with z written into a cell stand for the books with z set under the cell's entry and thing
  pub as_books-with_cell : as_books (with_cell rows e t z) ≡ with_amount (as_books rows) e t z
  as_books-with_cell =
      same_value (as_books (with_cell rows e t z)) (with_amount (as_books rows) e t z) (things-as_books (with_cell rows e t z) ∙ length-set rows (thing_index t) row_with_amount ∙ sym (things-as_books rows))
      (same_map account_total account_same (as_books (with_cell rows e t z)).amounts (with_amount (as_books rows) e t z).amounts (λ a.
      get-as_books (with_cell rows e t z) a ∙ ap listing_of (cell-with_cell a)
      ∙ elim (eq_by_cmp account_cmp a (e, t)) as (λ b. listing_of (cond b z (cell rows a)) ≡ cond b (listing_of z) (listing_of (cell rows a))) [ true ↦ refl | false ↦ refl ]
      ∙ sym (get-with_amount (as_books rows) e t z a ∙ ap (cond (eq_by_cmp account_cmp a (e, t)) (listing_of z)) (get-as_books rows a))))

-- ---- the sum of a row

row_listed : (row : List ℤ) → length row ≡ entry_count → map (λ e. get_or row (entry_index e) (pos 0)) all_entries ≡ row
row_listed row size =
    ext_get_or (pos 0) (map (λ e. get_or row (entry_index e) (pos 0)) all_entries) row (length-map all_entries (λ e. get_or row (entry_index e) (pos 0)) ∙ sym size) (λ i h.
    let small : i < entry_count = omega (arith, h, length-map all_entries (λ e. get_or row (entry_index e) (pos 0))) in
    get_or-map (λ e. get_or row (entry_index e) (pos 0)) all_entries i Founding (pos 0) small ∙ ap (λ k. get_or row k (pos 0)) (entry_in_place i small))

booked-as_books : (rows : List (List ℤ)) (t : Thing) → IsGrid rows → thing_index t < length rows
    → booked (as_books rows) t ≡ sum_of (row_of rows t)
unfolding booked
booked-as_books rows t grid there =
    let each : (e : BooksEntry) → amount_in (as_books rows) e t ≡ cell rows (e, t) = λ e. amount-as_books rows e t in
    (λ i. sum_of (map (λ e. each e i) all_entries))
    ∙ ap sum_of (row_listed (row_of rows t) (grid.wide (thing_index t) [] there))

-- ---- for the code of Books

-- a thing that the books of the rows have has a row
pub grid_there : (rows : List (List ℤ)) (books : BooksValue) (t : Thing) → as_books rows ≡ books
    → thing_index t < books.things → thing_index t < length rows
grid_there rows books t is there = let size = ap (λ (b : BooksValue). b.things) (sym is) ∙ things-as_books rows in omega (arith, size, there)

row_read : (rows : List (List ℤ)) (t : Thing) (index : ℕ) (row : List ℤ) → row ≡ get_or rows index row
    → index ≡ thing_index t → thing_index t < length rows → row ≡ row_of rows t
row_read rows t index row is at there =
    is ∙ ap (λ k. get_or rows k row) at ∙ get_or_default rows (thing_index t) row [] there

-- the amount at k of `row` is the one in the cell of e and t
pub cell_read : (rows : List (List ℤ)) (e : BooksEntry) (t : Thing) (index k : ℕ) (row : List ℤ)
    → row ≡ get_or rows index row → index ≡ thing_index t → k ≡ entry_index e → thing_index t < length rows
    → get_or row k (pos 0) ≡ cell rows (e, t)
cell_read rows e t index k row is at entry there = let its = row_read rows t index row is at there in λ i. get_or (its i) (entry i) (pos 0)

-- setting the amount at k of `row` to x, which is z, writes z into the cell of e and t
pub cell_written : (rows : List (List ℤ)) (e : BooksEntry) (t : Thing) (index k : ℕ) (row : List ℤ) (x z : ℤ)
    → row ≡ get_or rows index row → index ≡ thing_index t → k ≡ entry_index e → x ≡ z → thing_index t < length rows
    → set rows index (set row k x) ≡ with_cell rows e t z
cell_written rows e t index k row x z is at entry value there = let its = row_read rows t index row is at there in λ i. set rows (at i) (set (its i) (entry i) (value i))

-- in a grid (`IsGrid`), the sum of `row` is the sum of t's amounts under all entries
pub row_summed : (rows : List (List ℤ)) (t : Thing) (index : ℕ) (row : List ℤ) → row ≡ get_or rows index row
    → index ≡ thing_index t → IsGrid rows → thing_index t < length rows → sum_of row ≡ booked (as_books rows) t
row_summed rows t index row is at grid there =
    ap sum_of (row_read rows t index row is at there) ∙ sym (booked-as_books rows t grid there)
