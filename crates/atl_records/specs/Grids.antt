-- For proofs alone: how the code holds the books, a row of amounts for each thing with a column for each entry.
use Rattle.std.specs.Prelude.{◌≡◌, ◌≤◌, not, length, All, ℕ, ℤ, pos, List, [], ◌∷◌, map, filter, slice_index_or, slice_set}
use Rattle.std.specs.List.{flat_map, range_with_len}
use Rattle.atl_records.specs.Limits.{entry_count, possible_things}
use Rattle.atl_records.specs.Books.{Account, BooksValue, all_entries, entry_index, is_zero, no_amounts, thing_at, thing_index, with_amount}
use Rattle.atl_records.specs.declared.books.BooksEntry.{BooksEntry}
use Rattle.atl_records.specs.declared.books.Thing.{Thing}

-- the rows are a grid: at most possible_things of them, each of entry_count amounts
pub record IsGrid (rows : List (List ℤ)) : Type 0 where
  pub few : length rows ≤ possible_things
  pub wide : All (λ row. length row ≡ entry_count) rows

-- the row of a thing, empty for a thing without a row
abbrev pub row_of : List (List ℤ) → Thing → List ℤ
row_of rows t = slice_index_or rows (thing_index t) []

-- the amount in an account's row and column (its thing and its entry), 0 where there is none
abbrev pub cell : List (List ℤ) → Account → ℤ
cell rows a = slice_index_or (row_of rows a.1) (entry_index a.0) (pos 0)

-- the rows with another amount in the row and column of an account (its thing and its entry), if they are there
abbrev pub with_cell : List (List ℤ) → BooksEntry → Thing → ℤ → List (List ℤ)
with_cell rows e t amount = slice_set rows (thing_index t) (slice_set (row_of rows t) (entry_index e) amount)

-- the accounts of an entry with each thing whose number is below `things`, in the order of these numbers
abbrev pub accounts_under : ℕ → BooksEntry → List Account
accounts_under things e = map (λ i. (e, thing_at i)) (range_with_len 0 things)

-- the accounts of every entry with each thing whose number is below `things`, in the order of account_cmp
abbrev pub accounts : ℕ → List Account
accounts things = flat_map (accounts_under things) all_entries

-- the books with the amount of each account (an entry with a thing) of a list set to what `amount` gives for it
abbrev pub with_amounts : (Account → ℤ) → List Account → BooksValue → BooksValue
with_amounts amount [] books = books
with_amounts amount (a ∷ others) books = with_amount (with_amounts amount others books) a.0 a.1 (amount a)

-- the books that the code's rows mean: a thing for each row, and the amount of each account in its cell, unless it is 0
unfoldable pub as_books : List (List ℤ) → BooksValue
as_books rows =
    record { things = length rows; amounts = (with_amounts (cell rows) (accounts (length rows)) (no_amounts (length rows))).amounts }

-- the accounts `chosen` (each an entry with a thing) with what `amount` gives for them, without those where it gives 0
abbrev pub listed_of : (Account → ℤ) → List Account → List (Account × ℤ)
listed_of amount chosen = filter (λ x. not (is_zero x.1)) (map (λ a. (a, amount a)) chosen)
