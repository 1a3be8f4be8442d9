-- Laws of the lists of rows that a campaign is written as, one row more at a time.
-- `es` are pairs of a number, of an item or a skill, and its amount. An account is an entry of the books and a thing;
-- `accounts_under n entry` are the accounts of the entry and each of the first n things.
use Rattle.std.proofs.Common.{◌≡◌, ◌≢◌, ℕ, ◌+◌, ◌++◌, List, [], ◌∷◌, true, false, not, cond, refl, sym, ap, ◌∙◌, arith}
use Rattle.std.specs.Prelude.{ℤ, pos}
use Rattle.std.specs.List.{flat_map}
use Rattle.std.proofs.lemmas.List.{append-nil, append_assoc}
use Rattle.std.proofs.lemmas.List.FromFn.{map-range_with_len_more}
use Rattle.atl_rows.specs.declared.parts.StoredBooks.{StoredBooks}
use Rattle.atl_records.specs.declared.books.BooksEntry.{BooksEntry}
use Rattle.atl_records.specs.Books.{Account, BooksValue, amount_in, is_zero, thing_at}
use Rattle.atl_records.specs.Grids.{accounts_under, listed_of}
use Rattle.atl_records.proofs.BookLaws.{nonzero_fails_is_zero}
use Rattle.atl_campaign.specs.Rows.{has_row, amounts_rows, books_row, amount_rows, rows_of_sort, rows_under}

pos_is_injective : {m n : ℕ} → pos m ≡ pos n → m ≡ n
pos_is_injective e = cc

-- for rows of which `shown` gives the amount that `row` made them with
module _ {R : Type 0} (shown : R → ℤ) (row : ℕ → ℕ → R) (shows : (thing amount : ℕ) → shown (row thing amount) ≡ pos amount) where
  -- an amount in front that isn't 0 gives one row more, in front
  pub amount_rows_one : (thing amount : ℕ) (es : List (ℕ × ℕ)) → amount ≢ 0
      → amount_rows shown row ((thing, amount) ∷ es) ≡ row thing amount ∷ amount_rows shown row es
  amount_rows_one thing amount es h =
      ap (λ b. cond (not b) (row thing amount ∷ amount_rows shown row es) (amount_rows shown row es)) (ap is_zero (shows thing amount) ∙ nonzero_fails_is_zero (pos amount) (λ e. h (pos_is_injective e)))

-- An amount in front that isn't 0 gives one row of the table `has` more, in front. n is the unit, and the sort is 0
-- (items) or 1 (skills).
pub sort_rows_one : (n sort thing amount : ℕ) (es : List (ℕ × ℕ)) → amount ≢ 0
    → rows_of_sort n sort ((thing, amount) ∷ es) ≡ has_row n sort thing amount ∷ rows_of_sort n sort es
sort_rows_one n sort = amount_rows_one (λ r. r.amount) (has_row n sort) (λ i a. refl)

-- the rows of two joined lists of accounts are the rows of the first and then those of the second
pub rows_under-append : (books : BooksValue) (some others : List Account)
    → rows_under books (some ++ others) ≡ rows_under books some ++ rows_under books others
rows_under-append books [] others = refl
rows_under-append books (a ∷ some) others =
    let z = amount_in books a.0 a.1 in
    let rest = rows_under books some in
    elim (is_zero z) as (λ b. amounts_rows (cond (not b) ((a, z) ∷ listed_of (λ c. amount_in books c.0 c.1) (some ++ others)) (listed_of (λ c. amount_in books c.0 c.1) (some ++ others)))
    ≡ amounts_rows (cond (not b) ((a, z) ∷ listed_of (λ c. amount_in books c.0 c.1) some) (listed_of (λ c. amount_in books c.0 c.1) some)) ++ rows_under books others) [
      | true ↦ rows_under-append books some others
      | false ↦ ap (λ rows. books_row a.0 a.1 z ∷ rows) (rows_under-append books some others)
    ]

rows_under_one : (books : BooksValue) (a : Account)
    → rows_under books (a ∷ [])
    ≡ cond (not (is_zero (amount_in books a.0 a.1))) (books_row a.0 a.1 (amount_in books a.0 a.1) ∷ []) []
rows_under_one books a =
    elim (is_zero (amount_in books a.0 a.1)) as
    (λ b. amounts_rows (cond (not b) ((a, amount_in books a.0 a.1) ∷ []) []) ≡ cond (not b) (books_row a.0 a.1 (amount_in books a.0 a.1) ∷ []) [])
    [ true ↦ refl | false ↦ refl ]

more_under : (books : BooksValue) (entry : BooksEntry) (n : ℕ)
    → rows_under books (accounts_under (n + 1) entry)
    ≡ rows_under books (accounts_under n entry) ++ rows_under books ((entry, thing_at n) ∷ [])
more_under books entry n =
    ap (rows_under books) (map-range_with_len_more (λ i. (entry, thing_at i)) 0 n n (omega arith))
    ∙ rows_under-append books (accounts_under n entry) ((entry, thing_at n) ∷ [])

-- if the amount of thing n under an entry isn't 0, its row comes after those of the things below n
pub rows_under-some : (books : BooksValue) (entry : BooksEntry) (n : ℕ) → amount_in books entry (thing_at n) ≢ pos 0
    → rows_under books (accounts_under (n + 1) entry)
    ≡ rows_under books (accounts_under n entry) ++ books_row entry (thing_at n) (amount_in books entry (thing_at n)) ∷ []
rows_under-some books entry n h =
    let z = amount_in books entry (thing_at n) in
    more_under books entry n
    ∙ ap (λ rows. rows_under books (accounts_under n entry) ++ rows) (rows_under_one books (entry, thing_at n) ∙ ap (λ b. cond (not b) (books_row entry (thing_at n) z ∷ []) []) (nonzero_fails_is_zero z h))

-- if the amount of thing n under an entry is 0, the things up to n have the same rows as those below n
pub rows_under-none : (books : BooksValue) (entry : BooksEntry) (n : ℕ) → amount_in books entry (thing_at n) ≡ pos 0
    → rows_under books (accounts_under (n + 1) entry) ≡ rows_under books (accounts_under n entry)
rows_under-none books entry n h =
    more_under books entry n
    ∙ ap (λ rows. rows_under books (accounts_under n entry) ++ rows) (rows_under_one books (entry, thing_at n) ∙ ap (λ z. cond (not (is_zero z)) (books_row entry (thing_at n) z ∷ []) []) h)
    ∙ append-nil (rows_under books (accounts_under n entry))

-- If the rows `before`, with those of the entries `now` after them, are `all`, so are the rows `after`, with those of
-- `rest` after them. Here `now` is x and then `rest`, and `after` is `before` and then the rows of x. The rows of an
-- entry are of its amounts of the first `things` things that aren't 0.
pub entry_added : (books : BooksValue) (things : ℕ) (x : BooksEntry) (now rest : List BooksEntry) (before after all : List StoredBooks)
    → now ≡ x ∷ rest → after ≡ before ++ rows_under books (accounts_under things x)
    → before ++ rows_under books (flat_map (accounts_under things) now) ≡ all
    → after ++ rows_under books (flat_map (accounts_under things) rest) ≡ all
entry_added books things x now rest before after all next is so_far =
    let of = λ (es : List BooksEntry). rows_under books (flat_map (accounts_under things) es) in
    ap (λ rows. rows ++ of rest) is ∙ append_assoc before (rows_under books (accounts_under things x)) (of rest)
    ∙ ap (λ rows. before ++ rows) (sym (rows_under-append books (accounts_under things x) (flat_map (accounts_under things) rest)))
    ∙ ap (λ es. before ++ of es) (sym next) ∙ so_far
