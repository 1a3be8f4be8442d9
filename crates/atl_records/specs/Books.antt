-- The books: a signed amount of each thing under each entry. See docs/RULES.md, "Books".
use Rattle.std.specs.Prelude.{◌≡◌, ◌≢◌, ◌<◌, ◌==◌, ℕ, zero, suc, ℤ, pos, negsuc, ◌+ℤ◌, ◌≤ℤ◌, ◌+◌, ◌*◌, ◌^◌, Bool, false, List, [], ◌∷◌, find, map, refl, Option, Some, unwrap_or, if◌then◌else◌}
use Rattle.std.specs.declared.cmp.Ordering.{Ordering}
use Rattle.std.specs.Ordering.{nat_cmp, ordering_then}
use Rattle.std.specs.Coded.{Coded, code_by, coded×, coded_ℕ, coded_ℤ}
use Rattle.std.specs.FinMap.{FinMap, code, empty, get, insert, remove}
use Rattle.atl_records.specs.Limits.{entry_count}
use Rattle.atl_records.specs.contracts.books.BooksEntry as entry
use Rattle.atl_records.specs.contracts.books.Thing as thing
use Rattle.atl_records.specs.declared.books.BooksEntry.{BooksEntry}
use Rattle.atl_records.specs.declared.books.BooksEntry.TheVariants.{Founding, Joining, Income, Wages, Recruiting, Study, Upkeep, Lost, Births, Starved, Left, Made, Used, Bought, Sold, Stocked}
use Rattle.atl_records.specs.declared.books.Thing.{Thing}
use Rattle.atl_records.specs.declared.books.Thing.TheVariants.{Money, People, Item}

-- the index of an entry, from 0 to 15; the entry's number is one more
abbrev pub entry_index : BooksEntry → ℕ
entry_index Founding = 0
entry_index Joining = 1
entry_index Income = 2
entry_index Wages = 3
entry_index Recruiting = 4
entry_index Study = 5
entry_index Upkeep = 6
entry_index Lost = 7
entry_index Births = 8
entry_index Starved = 9
entry_index Left = 10
entry_index Made = 11
entry_index Used = 12
entry_index Bought = 13
entry_index Sold = 14
entry_index Stocked = 15

-- all 16 entries, in the order of their indices
abbrev pub all_entries : List BooksEntry
all_entries =
    Founding ∷ Joining ∷ Income ∷ Wages ∷ Recruiting ∷ Study ∷ Upkeep ∷ Lost
    ∷ Births ∷ Starved ∷ Left ∷ Made ∷ Used ∷ Bought ∷ Sold ∷ Stocked ∷ []

-- the entry with a number from 1 to 16, None for any other number
abbrev pub entry_numbered : ℕ → Option BooksEntry
entry_numbered n = find (λ e. entry_index e + 1 == n) all_entries

-- the number of a thing: 0 for money, 1 for people, 2 + i for the item with index i in the world
abbrev pub thing_index : Thing → ℕ
thing_index Money = 0
thing_index People = 1
thing_index (Item i) = 2 + i

-- the thing with a number: 0 is money, 1 is people, and 2 + i is the item with index i in the world
abbrev pub thing_at : ℕ → Thing
thing_at zero = Money
thing_at (suc zero) = People
thing_at (suc (suc i)) = Item i

-- an account, to which amounts are booked: an entry and a thing
abbrev pub Account : Type 0
Account = BooksEntry × Thing

-- the order of accounts: by the entry's index, then by the thing's number
abbrev pub account_cmp : Account → Account → Ordering
account_cmp a b = ordering_then (nat_cmp (entry_index a.0) (entry_index b.0)) (nat_cmp (thing_index a.1) (thing_index b.1))

-- the books: how many things there are (money, people and the world's items), and each account's amount that is not 0
pub record BooksValue : Type 0 where
  pub things : ℕ
  pub amounts : FinMap account_cmp ℤ

-- for proofs alone: books encoded as the pair of their two fields, as the kit asks of a type that contracts see
abbrev pub books_code : Coded BooksValue
books_code =
    code_by (ℕ × FinMap account_cmp ℤ) (coded× coded_ℕ (code (coded× entry.the_row.coded thing.the_row.coded) coded_ℤ))
    (λ b. (b.things, b.amounts))
    (λ p. record { things = p.0; amounts = p.1 })
    (λ _. refl)

-- the amount of a thing under an entry of the books, 0 where none is listed
abbrev pub amount_in : BooksValue → BooksEntry → Thing → ℤ
amount_in books e t = unwrap_or (get books.amounts (e, t)) (pos 0)

-- whether an amount is 0
abbrev pub is_zero : ℤ → Bool
is_zero (pos n) = n == 0
is_zero (negsuc n) = false

-- the books with the amount of a thing under an entry set to `amount`; if it is 0, this account is not listed
abbrev pub with_amount : BooksValue → BooksEntry → Thing → ℤ → BooksValue
with_amount books e t amount =
    record books { amounts = if is_zero amount then remove books.amounts (e, t) else insert books.amounts (e, t) amount }

-- the books after n, of either sign, is added to the amount of a thing under an entry
abbrev pub after_booking : BooksValue → BooksEntry → Thing → ℤ → BooksValue
after_booking books e t n = with_amount books e t (amount_in books e t +ℤ n)

-- the books of as many things as `things`, with every amount 0
abbrev pub no_amounts : ℕ → BooksValue
no_amounts things = record { things = things; amounts = empty }

-- the sum of a list of amounts
abbrev pub sum_of : List ℤ → ℤ
sum_of [] = pos 0
sum_of (x ∷ xs) = x +ℤ sum_of xs

-- the sum of a thing's amounts over all 16 entries
unfoldable pub booked : BooksValue → Thing → ℤ
booked books t = sum_of (map (λ e. amount_in books e t) all_entries)

-- books have as many things as `things`, and each listed amount is of one of them and is not 0
pub record AreBooks (things : ℕ) (books : BooksValue) : Type 0 where
  pub count : books.things ≡ things
  pub listed :
      (e : BooksEntry) (t : Thing) (amount : ℤ) → get books.amounts (e, t) ≡ Some amount
      → (thing_index t < things) × (amount ≢ pos 0)

-- an amount from -2^62 - 1 to 2^62, to which the money or people of a joining can be added within 64 bits
abbrev pub LeavesRoomForJoining : ℤ → Type 0
LeavesRoomForJoining z = (z ≤ℤ pos (2 ^ 62)) × (negsuc (2 ^ 62) ≤ℤ z)

-- an amount from -bound to bound
pub record IsWithin (bound : ℕ) (amount : ℤ) : Type 0 where
  pub most : amount ≤ℤ pos bound
  pub least : pos 0 ≤ℤ (amount +ℤ pos bound)

-- the number of an account in the dirty set of the books: 16 * (the thing's number) + the entry's index
abbrev pub amount_number : BooksEntry → Thing → ℕ
amount_number e t = entry_count * thing_index t + entry_index e
