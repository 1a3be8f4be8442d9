-- Laws on the table `books`: one row for each entry and thing, if its amount is not 0.
-- `c` is the campaign whose books these are. The row of an amount has the index of its entry plus 1, the number of its
-- thing, and the amount, `z`. `indices` are numbers of things. `old` are the rows of the table before it is filled, and
-- `rows` those after.
use Rattle.std.proofs.Common.{◌≡◌, ◌≢◌, ◌+◌, ◌<◌, ◌≤◌, ◌&&◌, ℕ, zero, suc, ℤ, pos, Bool, true, false, if◌then◌else◌, nat_lt, List, [], ◌∷◌, take, Some, refl, sym, ap, ◌∙◌, subst, inl, inr, arith}
use Rattle.std.specs.List.{list_all, range_with_len, slice_get}
use Rattle.std.specs.Ordering.{int_eq}
use Rattle.std.proofs.lemmas.Bool.{cases_Bool, cases_lt, and_parts}
use Rattle.std.proofs.lemmas.Bool.Decides.{nat_tests}
use Rattle.std.proofs.lemmas.Int.{ints}
use Rattle.std.proofs.lemmas.Option.{none-some, same_Some}
use Rattle.sqlite.specs.Order.{Row}
use Rattle.sqlite_rules.specs.Lists.{Has}
use Rattle.sqlite_rules.proofs.ListLemmas.{test_has}
use Rattle.atl_campaign.specs.Campaign.{CampaignValue}
use Rattle.atl_records.specs.Books.{AreBooks, BooksValue, all_entries, amount_in, entry_index, thing_at, thing_index}
use Rattle.atl_records.specs.declared.books.BooksEntry.{BooksEntry}
use Rattle.atl_records.specs.declared.books.Thing.{Thing}
use Rattle.atl_records.proofs.AccountLaws.{index_of_thing_at, thing_at_index}
use Rattle.atl_records.proofs.BookLaws.{none_past}
use Rattle.atl_records.proofs.EveryEntryLaws.{entry_there}
use Rattle.atl_descriptions.specs.Sets.{HasExactly, puts}
use Rattle.atl_sql.specs.Shown.{books_key, books_row}
use Rattle.atl_writing.specs.Rows.{BooksRowsOf}
use Rattle.atl_writing.specs.GroupedRows.{DifferInKey, amount_lines, entries_lines, things_lines}
use Rattle.atl_writing.proofs.EntryLaws.{apart_append, empty_table_has_put_rows, flat_has, has_flat}
use Rattle.atl_writing.proofs.HasTableLaws.{optional_has, has_optional, optional_apart}

has_at : {X : Type 0} (xs : List X) (k : ℕ) (x : X) → slice_get xs k ≡ Some x → Has xs x
has_at [] k x is = absurd (none-some x is)
has_at (y ∷ ys) zero x is = inl (sym (same_Some y x is))
has_at (y ∷ ys) (suc k) x is = inr (has_at ys k x is)

pub every_entry : (e : BooksEntry) → Has all_entries e
every_entry e = has_at all_entries (entry_index e) e (entry_there e)

abbrev are_sorted : List BooksEntry → Bool
are_sorted [] = true
are_sorted (e ∷ es) = list_all (λ f. nat_lt (entry_index e) (entry_index f)) es && are_sorted es

-- ---- the amounts of one thing

pub differs_zero : (z : ℤ) → int_eq z (pos 0) ≡ false → z ≢ pos 0
differs_zero z differs same = grind (ints, arith)

pub is_differing : (z : ℤ) → z ≢ pos 0 → int_eq z (pos 0) ≡ false
is_differing z apart =
    elim (cases_Bool (int_eq z (pos 0))) [ inl same ↦ absurd (apart (grind (ints, arith))) | inr differs ↦ differs ]

-- an amount of the books that is not 0 has one row (`amount_lines`): that of its entry's number `e` and its thing's
-- number `t`
pub amount_is : (c : CampaignValue) (entry : BooksEntry) (thing : Thing) (e t : ℕ) (z : ℤ) → e ≡ entry_index entry + 1
    → t ≡ thing_index thing → z ≡ amount_in c.books entry thing → z ≢ pos 0
    → amount_lines c entry thing ≡ books_row e t z ∷ []
amount_is c entry thing e t z entry_is thing_is amount some =
    let index = entry_index entry + 1 in
    let value = amount_in c.books entry thing in
    ap (λ (zero : Bool). if zero then [] else books_row index (thing_index thing) value ∷ []) (is_differing value (λ zero. some (amount ∙ zero)))
    ∙ ap (λ n. books_row n (thing_index thing) value ∷ []) (sym entry_is)
    ∙ ap (λ n. books_row e n value ∷ []) (sym thing_is) ∙ ap (λ n. books_row e t n ∷ []) (sym amount)

-- two keys of `books` are equal only if the numbers of entry and thing are
pub books_key_determines_numbers : (a b c d : ℕ) → ◌≡◌ {A = Row} (books_key a b) (books_key c d) → (a ≡ c) × (b ≡ d)
books_key_determines_numbers a b c d same = (cc, cc)

-- ---- indexes within bounds

-- each number of the range of `count` numbers from `from` is at least `from` and below `from + count`
pub range_has : (from count i : ℕ) → Has (range_with_len from count) i → (from ≤ i) × (i < from + count)
range_has from zero i there = absurd there
range_has from (suc count) i (inl same) = (omega (arith, same), omega (arith, same))
range_has from (suc count) i (inr later) = let h = range_has (from + 1) count i later in (omega (arith, h.0), omega (arith, h.1))

-- each number that is at least `from` and below `from + count` is in the range
pub has_range : (from count i : ℕ) → from ≤ i → i < from + count → Has (range_with_len from count) i
has_range from zero i least most = absurd (omega (arith, least, most))
has_range from (suc count) i least most = elim (cases_lt from i) [
  | inl later ↦ inr (has_range (from + 1) count i (omega (arith, later)) (omega (arith, most)))
  | inr here ↦ inl (omega (arith, least, here))
]

amount_is_of_known_thing : (books : BooksValue) → AreBooks books.things books → (e : BooksEntry) (t : Thing)
    → amount_in books e t ≢ pos 0 → thing_index t < books.things
amount_is_of_known_thing books are e t some = elim (cases_lt (thing_index t) books.things) [
  | inl inside ↦ inside
  | inr past ↦ absurd (some (none_past books.things books are e t past))
]

-- ---- the rows of all amounts

module _ (c : CampaignValue) where
  abbrev row_at : BooksEntry → Thing → Row
  row_at e t = books_row (entry_index e + 1) (thing_index t) (amount_in c.books e t)

  entries_has : (t : Thing) (es : List BooksEntry) (r : Row) → Has (entries_lines c t es) r
      → (e : BooksEntry) × Has es e × (amount_in c.books e t ≢ pos 0) × (r ≡ row_at e t)
  entries_has t es r there =
      let found = flat_has (λ e. amount_lines c e t) es r there in
      let row = optional_has (int_eq (amount_in c.books found.0 t) (pos 0)) (row_at found.0 t) r found.2 in
      (found.0, found.1, differs_zero (amount_in c.books found.0 t) row.0, row.1)

  has_entries : (t : Thing) (es : List BooksEntry) (e : BooksEntry) → Has es e → amount_in c.books e t ≢ pos 0
      → Has (entries_lines c t es) (row_at e t)
  has_entries t es e there some =
      has_flat (λ e. amount_lines c e t) es e (row_at e t) there
      (has_optional (int_eq (amount_in c.books e t) (pos 0)) (row_at e t) (is_differing (amount_in c.books e t) some))

  entries_apart : (t : Thing) (es : List BooksEntry) → are_sorted es ≡ true → DifferInKey 2 (entries_lines c t es)
  entries_apart t [] rising = tt
  entries_apart t (e ∷ es) rising =
      apart_append 2 (amount_lines c e t) (entries_lines c t es) (optional_apart 2 (int_eq (amount_in c.books e t) (pos 0)) (row_at e t)) (entries_apart t es (and_parts _ _ rising).1)
      (λ x y early late same.
      let one = optional_has (int_eq (amount_in c.books e t) (pos 0)) (row_at e t) x early in
      let two = entries_has t es y late in
      let keys = books_key_determines_numbers (entry_index e + 1) (thing_index t) (entry_index two.0 + 1) (thing_index t) (ap (take 2) (sym one.1) ∙ same ∙ ap (take 2) two.3) in
      let less = test_has (λ f. nat_lt (entry_index e) (entry_index f)) es two.0 (and_parts _ _ rising).0 two.1 in
      grind (arith, nat_tests, keys.0, less))

  -- ---- all things

  things_apart : (from count : ℕ) → DifferInKey 2 (things_lines c (range_with_len from count))
  things_apart from zero = tt
  things_apart from (suc count) =
      apart_append 2 (entries_lines c (thing_at from) all_entries) (things_lines c (range_with_len (from + 1) count)) (entries_apart (thing_at from) all_entries refl) (things_apart (from + 1) count)
      (λ x y early late same.
      let one = entries_has (thing_at from) all_entries x early in
      let found = flat_has (λ index. entries_lines c (thing_at index) all_entries) (range_with_len (from + 1) count) y late in
      let two = entries_has (thing_at found.0) all_entries y found.2 in
      let keys = books_key_determines_numbers (entry_index one.0 + 1) (thing_index (thing_at from)) (entry_index two.0 + 1) (thing_index (thing_at found.0)) (ap (take 2) (sym one.3) ∙ same ∙ ap (take 2) two.3) in
      let indices : from ≡ found.0 = sym (index_of_thing_at from) ∙ keys.1 ∙ index_of_thing_at found.0 in
      absurd (omega (arith, indices, (range_has (from + 1) count found.0 found.1).0)))

  -- each row of the listed things is one of the rows that the books have to have (`BooksRowsOf`)
  pub things_rows : (indices : List ℕ) (r : Row) → Has (things_lines c indices) r → BooksRowsOf c.books r
  things_rows indices r there =
      let found = flat_has (λ index. entries_lines c (thing_at index) all_entries) indices r there in
      let row = entries_has (thing_at found.0) all_entries r found.2 in
      (row.0, thing_at found.0, row.2, row.3)

  -- an empty table filled with the rows of all things has exactly the books' rows, if each listed amount is of one of
  -- the books' things and is not 0 (`AreBooks`)
  pub books_filled : AreBooks c.books.things c.books → (rows old : List Row) → old ≡ []
      → HasExactly rows (puts 2 (things_lines c (range_with_len 0 c.books.things)) (Has old))
      → HasExactly rows (BooksRowsOf c.books)
  books_filled are rows old none made r =
      let indices = range_with_len 0 c.books.things in
      let is = empty_table_has_put_rows 2 rows (things_lines c indices) old none (things_apart 0 c.books.things) made r in (
        λ there. things_rows indices r (is.0 there),
        λ of.
            let inside = has_range 0 c.books.things (thing_index of.1) (omega arith) (omega (arith, amount_is_of_known_thing c.books are of.0 of.1 of.2)) in
            let here : Has (entries_lines c (thing_at (thing_index of.1)) all_entries) (row_at of.0 of.1) = subst (λ t. Has (entries_lines c t all_entries) (row_at of.0 of.1)) (sym (thing_at_index of.1)) (has_entries of.1 all_entries of.0 (every_entry of.0) of.2) in
            is.1 (subst (Has (things_lines c indices)) (sym of.3) (has_flat (λ index. entries_lines c (thing_at index) all_entries) indices (thing_index of.1) (row_at of.0 of.1) inside here)),
      )
