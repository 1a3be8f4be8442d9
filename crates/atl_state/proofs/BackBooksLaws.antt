-- Laws of reading books back: their rows, each of an account (an entry and a thing), in any order give the same books.
-- `things` is how many things the books have, at most 4,294,967,294 (`few`), and `rows` are the books' rows in any
-- order; e, t and z are an entry, a thing and its amount. P is a condition on rows.
use Rattle.std.proofs.Common.{◌≡◌, ℕ, ◌+◌, ◌≤◌, List, [], ◌∷◌, true, false, Some, None, refl, sym, ap, ◌∙◌, arith}
use Rattle.std.specs.Prelude.{pos, ℤ, unwrap_or}
use Rattle.std.specs.List.{AllByRecursion, IsDistinct}
use Rattle.std.specs.List.Sorted.{IsPermutation}
use Rattle.std.specs.Ordering.{is_lt}
use Rattle.std.specs.Cmp.{tied_itself}
use Rattle.std.specs.FinMap.{entries, get, is_sorted}
use Rattle.std.specs.FinMap.Entries.{below_all}
use Rattle.std.proofs.lemmas.Bool.{and_parts, false≢true}
use Rattle.std.proofs.lemmas.List.Sorted.{IsPermutation-sym, IsPermutation-trans}
use Rattle.atl_rows.specs.declared.parts.StoredBooks.{StoredBooks}
use Rattle.atl_records.specs.declared.books.BooksEntry.{BooksEntry}
use Rattle.atl_records.specs.declared.books.Thing.{Thing}
use Rattle.atl_records.specs.Books.{Account, BooksValue, account_cmp, amount_in, AreBooks, entry_index, entry_numbered, no_amounts, thing_at, thing_index}
use Rattle.atl_campaign.specs.FromRows.{with_books_rows}
use Rattle.atl_campaign.specs.RowRules.{books_key, HaveDistinctKeys}
use Rattle.atl_campaign.specs.Rows.{amounts_rows, books_row, books_rows}
use Rattle.atl_campaign.proofs.ReadBackLaws.{each_permuted, each_back, written_is_read, apart_keys, keys_permuted, pos_is_injective}
use Rattle.atl_records.proofs.AccountLaws.{account_total, thing_at_index, same_account}
use Rattle.atl_records.proofs.BookLaws.{AreBooks-no_amounts, same_books}
use Rattle.atl_records.proofs.EveryEntryLaws.{entry_small, numbered_entry}
use Rattle.atl_records.proofs.AmountListLaws.{amounts_sorted, each_amount, amount_of_each}
use Rattle.atl_state.proofs.BooksRowLaws.{IsBooked, assembled_books_have_rows}
use Rattle.atl_campaign.proofs.FromRowLaws.{put-books}
use Rattle.atl_campaign.proofs.HasLaws.{is_same_key}

-- ---- each row

rows_each : (P : StoredBooks → Type 0) (es : List (Account × ℤ))
    → AllByRecursion (λ x. P (books_row x.0.0 x.0.1 x.1)) es → AllByRecursion P (amounts_rows es)
rows_each P [] h = tt
rows_each P (x ∷ es) h = (h.0, rows_each P es h.1)

each_row : (P : StoredBooks → Type 0) (es : List (Account × ℤ)) → AllByRecursion P (amounts_rows es)
    → AllByRecursion (λ x. P (books_row x.0.0 x.0.1 x.1)) es
each_row P [] h = tt
each_row P (x ∷ es) h = (h.0, each_row P es h.1)

module _ (books : BooksValue) where
  -- P holds of each row of `books` if it holds of the row of each amount that the books list
  pub lines_each : (P : StoredBooks → Type 0)
      → ((e : BooksEntry) (t : Thing) (z : ℤ) → get books.amounts (e, t) ≡ Some z → P (books_row e t z))
      → AllByRecursion P (books_rows books)
  lines_each P h =
      rows_each P (entries books.amounts)
      (each_amount (λ a z. P (books_row a.0 a.1 z)) books.amounts (λ a z is. h a.0 a.1 z is))

  -- P holds of the row of each amount that the books list, if it holds of each row of `books`
  pub line_at : (P : StoredBooks → Type 0) → AllByRecursion P (books_rows books) → (e : BooksEntry) (t : Thing) (z : ℤ)
      → get books.amounts (e, t) ≡ Some z → P (books_row e t z)
  line_at P h e t z is =
      amount_of_each (λ a y. P (books_row a.0 a.1 y)) books.amounts (each_row P (entries books.amounts) h) (e, t) z is

-- ---- books whose rows are the same are the same

pub listed_amount_is_amount_in : (books : BooksValue) (e : BooksEntry) (t : Thing) (z : ℤ)
    → get books.amounts (e, t) ≡ Some z → amount_in books e t ≡ z
listed_amount_is_amount_in books e t z is = ap (λ o. unwrap_or o (pos 0)) is

abbrev HaveAmountOf : BooksValue → StoredBooks → Type 0
HaveAmountOf books r =
    (e : BooksEntry) (t : Thing) → r.entry ≡ pos (entry_index e + 1) → r.thing ≡ pos (thing_index t) → amount_in books e
    t ≡ r.amount

says_itself : (books : BooksValue) → AllByRecursion (HaveAmountOf books) (books_rows books)
says_itself books =
    lines_each books (HaveAmountOf books) (λ e t z is f u entry thing.
    let next = pos_is_injective (entry_index e + 1) (entry_index f + 1) entry in
    let one = same_account e f t u (omega arith) (pos_is_injective (thing_index t) (thing_index u) thing) in
    sym (ap (λ (a : Account). amount_in books a.0 a.1) one) ∙ listed_amount_is_amount_in books e t z is)

-- if books a and b have the same rows, in any order, each amount listed in a is also what b has for its entry and thing
listed_amounts_agree : (a b : BooksValue) → IsPermutation (books_rows a) (books_rows b)
    → (e : BooksEntry) (t : Thing) (z : ℤ) → get a.amounts (e, t) ≡ Some z → amount_in b e t ≡ z
listed_amounts_agree a b h e t z is =
    line_at a (HaveAmountOf b) (each_back (HaveAmountOf b) (books_rows a) (books_rows b) h (says_itself b)) e t z is e t
    refl refl

same_amounts : (a b : BooksValue) → IsPermutation (books_rows a) (books_rows b) → (e : BooksEntry) (t : Thing)
    → amount_in a e t ≡ amount_in b e t
same_amounts a b h e t =
    elim (get a.amounts (e, t)) as (λ o. get a.amounts (e, t) ≡ o → unwrap_or o (pos 0) ≡ amount_in b e t) [
      | Some z ↦ λ is. sym (listed_amounts_agree a b h e t z is)
      | None ↦ λ none. elim (get b.amounts (e, t)) as (λ o. get b.amounts (e, t) ≡ o → pos 0 ≡ unwrap_or o (pos 0)) [
        | Some z ↦ λ is. sym (ap (λ o. unwrap_or o (pos 0)) none) ∙ listed_amounts_agree b a (IsPermutation-sym (books_rows a) (books_rows b) h) e t z is
        | None ↦ λ _. refl
      ] refl
    ] refl

-- ---- the rows of books in any order

not_less_than_itself : (a : Account) → is_lt (account_cmp a a) ≡ false
not_less_than_itself a = ap is_lt (tied_itself account_total a)

others_apart : (x : Account × ℤ) (es : List (Account × ℤ)) → below_all account_cmp x.0 es ≡ true
    → AllByRecursion (λ r. is_same_key (books_key (books_row x.0.0 x.0.1 x.1)) (books_key r) ≡ false) (amounts_rows es)
others_apart x [] h = tt
others_apart x (y ∷ es) h =
    let parts = and_parts (is_lt (account_cmp x.0 y.0)) (below_all account_cmp x.0 es) h in (
      apart_keys (books_key (books_row x.0.0 x.0.1 x.1)) (books_key (books_row y.0.0 y.0.1 y.1)) (λ k.
          let next = pos_is_injective (entry_index x.0.0 + 1) (entry_index y.0.0 + 1) k.first in
          let one = same_account x.0.0 y.0.0 x.0.1 y.0.1 (omega arith) (pos_is_injective (thing_index x.0.1) (thing_index y.0.1) k.second) in
          false≢true (sym (not_less_than_itself x.0) ∙ ap (λ a. is_lt (account_cmp x.0 a)) one ∙ parts.0)),
      others_apart x es parts.1,
    )

entries_apart : (es : List (Account × ℤ)) → is_sorted account_cmp es ≡ true
    → IsDistinct (λ a b. is_same_key (books_key a) (books_key b)) (amounts_rows es)
unfolding IsDistinct
entries_apart [] h = tt
entries_apart (x ∷ es) h = let parts = and_parts (below_all account_cmp x.0 es) (is_sorted account_cmp es) h in (others_apart x es parts.0, entries_apart es parts.1)

-- the books have `things` things, and list only amounts of these that aren't 0 (`are`)
module _ (things : ℕ) (few : things ≤ 4294967294) (books : BooksValue) (are : AreBooks things books) where
  -- each row of books of `things` things is read as the account and the amount that it was written from (IsBooked)
  pub lines_booked : AllByRecursion (IsBooked things) (books_rows books)
  lines_booked =
      lines_each books (IsBooked things) (λ e t z is.
      let entry = written_is_read (entry_index e + 1) (omega (arith, entry_small e)) in
      let (inside, some) = are.listed e t z is in
      let thing = written_is_read (thing_index t) (omega arith) in
      record {
        account = (e, t);
        row = refl;
        named = ap entry_numbered entry ∙ numbered_entry e;
        numbered = ap thing_at thing ∙ thing_at_index t;
        there = omega (arith, thing, inside);
        some = some;
      })

  module _ (rows : List StoredBooks) (h : IsPermutation (books_rows books) rows) where
    -- the rows of books, in any order, have distinct keys
    pub books_keys : HaveDistinctKeys books_key rows
    books_keys =
        keys_permuted books_key (books_rows books) rows h
        (entries_apart (entries books.amounts) (amounts_sorted books.amounts))

    -- each row of the books is that of an entry and a thing below `things`, with an amount that isn't 0 (IsBooked)
    pub all_booked : AllByRecursion (IsBooked things) rows
    all_booked = each_permuted (IsBooked things) (books_rows books) rows h lines_booked

    -- the books assembled from the rows that books are written as, in any order, are the same books
    pub books_back : with_books_rows rows (no_amounts things) ≡ books
    books_back =
        let said = with_books_rows rows (no_amounts things) in
        same_books things said books (put-books things rows (no_amounts things) (AreBooks-no_amounts things)) are
        (same_amounts said books (IsPermutation-trans (books_rows said) rows (books_rows books) (assembled_books_have_rows things rows all_booked books_keys) (IsPermutation-sym (books_rows books) rows h)))
