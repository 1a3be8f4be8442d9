-- Laws of rows of the table `books`, each of an account (an entry and a thing): books that are assembled from rows with
-- distinct keys have these rows, in some order.
-- `things` is how many things the books have.
use Rattle.std.proofs.Common.{◌≡◌, ◌≢◌, ℕ, ◌≤◌, ◌<◌, ◌+◌, ◌-◌, ◌++◌, List, [], ◌∷◌, true, false, cond, map, Some, None, refl, sym, ap, subst, ◌∙◌, arith, inl, inr}
use Rattle.std.specs.Prelude.{pos, ℤ, nat_lt}
use Rattle.std.specs.declared.cmp.Ordering.TheVariants.{Less, Equal, Greater}
use Rattle.std.specs.List.{AllByRecursion, IsDistinct}
use Rattle.std.specs.List.Sorted.{IsPermutation}
use Rattle.std.specs.Option.{option_map_or}
use Rattle.std.specs.Ordering.{eq_by_cmp, is_eq}
use Rattle.std.specs.FinMap.{entries, entries-insert, find, get, get-empty, get-entries, insert, put, remove}
use Rattle.std.specs.FinMap.Entries.{by_order}
use Rattle.std.proofs.lemmas.Bool.{false≢true}
use Rattle.std.proofs.lemmas.Bool.Decides.{nat_tests}
use Rattle.std.proofs.lemmas.List.{append-nil}
use Rattle.std.proofs.lemmas.List.Sorted.{IsPermutation-map, IsPermutation-refl, IsPermutation-sym, IsPermutation-trans, IsPermutation-append_left, IsPermutation-append_right, IsPermutation-middle}
use Rattle.atl_rows.specs.declared.parts.StoredBooks.{StoredBooks}
use Rattle.atl_records.specs.Books.{Account, BooksValue, account_cmp, AreBooks, entry_index, entry_numbered, no_amounts, thing_at, thing_index, with_amount}
use Rattle.atl_campaign.specs.FromRows.{as_u32, with_books_row, with_books_rows}
use Rattle.atl_records.specs.Limits.{entry_count}
use Rattle.atl_campaign.specs.RowRules.{Key, books_key}
use Rattle.atl_campaign.specs.Rows.{amounts_rows, books_row, books_rows}
use Rattle.atl_records.proofs.AccountLaws.{account_total, cases_account, index_of_thing_at}
use Rattle.atl_records.proofs.BookLaws.{AreBooks-no_amounts, AreBooks-with_amount, get-with_amount, listing_of, nonzero_fails_is_zero}
use Rattle.atl_records.proofs.EveryEntryLaws.{entry_at, numbered_entry}
use Rattle.atl_world.proofs.EveryLaws.{none_some}
use Rattle.atl_records.proofs.AmountListLaws.{entries-none}
use Rattle.atl_campaign.proofs.HasLaws.{FitsU32, is_same_key, ties_itself}

-- ---- one more amount

-- putting an amount under an account that has none yet adds this account and amount to the list; the order may differ
put_new : (a : Account) (z : ℤ) (es : List (Account × ℤ)) → find account_cmp a es ≡ None
    → IsPermutation (put account_cmp a z es) ((a, z) ∷ es)
put_new a z [] h = IsPermutation-refl ((a, z) ∷ [])
put_new a z (e ∷ es) h =
    elim (account_cmp a e.0) as (λ o. cond (is_eq o) (Some e.1) (find account_cmp a es) ≡ None → IsPermutation (by_order o ((a, z) ∷ e ∷ es) ((e.0, z) ∷ es) (e ∷ put account_cmp a z es)) ((a, z) ∷ e ∷ es)) [
      | Less ↦ λ _. IsPermutation-refl ((a, z) ∷ e ∷ es)
      | Equal ↦ λ is. none_some e.1 (sym is)
      | Greater ↦ λ is.
          IsPermutation-trans (e ∷ put account_cmp a z es) (e ∷ (a, z) ∷ es) ((a, z) ∷ e ∷ es) (IsPermutation-append_right (e ∷ []) (put account_cmp a z es) ((a, z) ∷ es) (put_new a z es is)) (IsPermutation-middle (e ∷ []) (a, z) es)
    ] h

abbrev row_of_amount : Account × ℤ → StoredBooks
row_of_amount x = books_row x.0.0 x.0.1 x.1

-- setting an amount other than 0 where there is none adds one row to those of the books; their order may differ
one_amount : (books : BooksValue) (a : Account) (z : ℤ) → get books.amounts a ≡ None → z ≢ pos 0
    → IsPermutation (books_rows (with_amount books a.0 a.1 z)) (row_of_amount (a, z) ∷ books_rows books)
one_amount books a z none some =
    let m = books.amounts in
    let is : entries (with_amount books a.0 a.1 z).amounts ≡ put account_cmp a z (entries m) = ap (λ b. entries (cond b (remove m a) (insert m a z))) (nonzero_fails_is_zero z some) ∙ entries-insert account_total m a z in
    subst (λ es. IsPermutation (amounts_rows es) (row_of_amount (a, z) ∷ books_rows books)) (sym is) (IsPermutation-map row_of_amount (put account_cmp a z (entries m)) ((a, z) ∷ entries m) (put_new a z (entries m) (sym (get-entries m a) ∙ none)))

-- ---- the amounts of rows, one after another

-- a row of `books` is the one written for the account that it is read as, the thing of which is one of the first
-- `things`, and its amount is not 0
pub record IsBooked (things : ℕ) (r : StoredBooks) : Type 0 where
  pub account : Account
  pub row : books_row account.0 account.1 r.amount ≡ r
  pub named : entry_numbered (as_u32 r.entry) ≡ Some account.0
  pub numbered : thing_at (as_u32 r.thing) ≡ account.1
  pub there : as_u32 r.thing < things
  pub some : r.amount ≢ pos 0

one_up : (n i : ℕ) → 1 ≤ n → i ≡ n - 1 → i + 1 ≡ n
one_up n i h e = omega arith

-- A row is read as an account (IsBooked) if its entry is from 1 to entry_count, its thing is below `things`, both fit
-- 32 bits, and its amount is not 0.
pub booked_row : (things : ℕ) (r : StoredBooks) → FitsU32 r.entry → FitsU32 r.thing → 1 ≤ as_u32 r.entry
    → as_u32 r.entry ≤ entry_count → as_u32 r.thing < things → r.amount ≢ pos 0 → IsBooked things r
booked_row things r entry thing least most there some =
    let (e, at) = entry_at (as_u32 r.entry - 1) (omega arith) in
    let number = one_up (as_u32 r.entry) (entry_index e) least at in
    let entries = ap pos number ∙ sym entry in
    let indices = ap pos (index_of_thing_at (as_u32 r.thing)) ∙ sym thing in
    record {
      account = (e, thing_at (as_u32 r.thing));
      row = λ i. record { entry = entries i; thing = indices i; amount = r.amount };
      named = ap entry_numbered (sym number) ∙ numbered_entry e;
      numbered = refl;
      there = there;
      some = some;
    }

-- the thing of the account that a row is read as (IsBooked) is one of the first `things` things
pub account_there : (things : ℕ) (r : StoredBooks) (h : IsBooked things r) → thing_index h.account.1 < things
account_there things r h = let is = sym (ap thing_index h.numbered) ∙ index_of_thing_at (as_u32 r.thing) in omega (arith, is, h.there)

-- a row that is read as an account puts its amount into books of `things` things under that account
pub with_booked_row : (things : ℕ) (books : BooksValue) (r : StoredBooks) → AreBooks things books
    → (h : IsBooked things r) → with_books_row books r ≡ with_amount books h.account.0 h.account.1 r.amount
with_booked_row things books r are h =
    let few : nat_lt (as_u32 r.thing) books.things ≡ true = let l : as_u32 r.thing < books.things = omega (arith, are.count, h.there) in grind (arith, nat_tests) in
    ap (λ o. option_map_or (λ e. cond (nat_lt (as_u32 r.thing) books.things) (with_amount books e (thing_at (as_u32 r.thing)) r.amount) books) o books) h.named
    ∙ ap (λ b. cond b (with_amount books h.account.0 (thing_at (as_u32 r.thing)) r.amount) books) few
    ∙ ap (λ t. with_amount books h.account.0 t r.amount) h.numbered

abbrev key_of : Account → Key
key_of a = books_key (books_row a.0 a.1 (pos 0))

its_key : (things : ℕ) (r : StoredBooks) (h : IsBooked things r) → ◌≡◌ {A = Key} (key_of h.account) (books_key r)
its_key things r h = ap books_key h.row

accounts_apart : (things : ℕ) (r s : StoredBooks) (h : IsBooked things r) (k : IsBooked things s)
    → is_same_key (books_key r) (books_key s) ≡ false → eq_by_cmp account_cmp k.account h.account ≡ false
accounts_apart things r s h k differ =
    elim (cases_account k.account h.account) [
      | inl one ↦ absurd (false≢true (sym (ap (is_same_key (books_key r)) (sym (its_key things r h) ∙ ap key_of (sym one) ∙ its_key things s k) ∙ differ) ∙ ties_itself (books_key r)))
      | inr apart ↦ apart
    ]

-- if a row is read as an account (IsBooked), the books have no amount yet for this account
abbrev IsFree : ℕ → BooksValue → StoredBooks → Type 0
IsFree things books r = (h : IsBooked things r) → get books.amounts h.account ≡ None

stay_free : (things : ℕ) (books : BooksValue) (r : StoredBooks) (h : IsBooked things r) (rows : List StoredBooks)
    → AllByRecursion (λ y. is_same_key (books_key r) y ≡ false) (map books_key rows)
    → AllByRecursion (IsFree things books) rows
    → AllByRecursion (IsFree things (with_amount books h.account.0 h.account.1 r.amount)) rows
stay_free things books r h [] d free = tt
stay_free things books r h (s ∷ rows) d free = (
  λ k. get-with_amount books h.account.0 h.account.1 r.amount k.account ∙ ap (λ b. cond b (listing_of r.amount) (get books.amounts k.account)) (accounts_apart things r s h k d.0) ∙ free.0 k,
  stay_free things books r h rows d.1 free.1,
)

-- putting rows with distinct keys, whose accounts have no amount yet (IsFree), into books adds just these rows
putting_adds_rows : (things : ℕ) (rows : List StoredBooks) (books : BooksValue) → AreBooks things books
    → AllByRecursion (IsBooked things) rows → IsDistinct is_same_key (map books_key rows)
    → AllByRecursion (IsFree things books) rows
    → IsPermutation (books_rows books ++ rows) (books_rows (with_books_rows rows books))
unfolding IsDistinct
putting_adds_rows things [] books are all d free =
    subst (λ xs. IsPermutation xs (books_rows books)) (sym (append-nil (books_rows books)))
    (IsPermutation-refl (books_rows books))
putting_adds_rows things (r ∷ rows) books are all d free =
    let h = all.0 in
    let new = with_amount books h.account.0 h.account.1 r.amount in
    let also = AreBooks-with_amount books h.account.0 h.account.1 r.amount things are (account_there things r h) in
    let last = books_rows (with_books_rows rows new) in
    let row = subst (λ x. IsPermutation (books_rows new) (x ∷ books_rows books)) h.row (one_amount books h.account r.amount (free.0 h) h.some) in
    let step = IsPermutation-append_left rows (r ∷ books_rows books) (books_rows new) (IsPermutation-sym (books_rows new) (r ∷ books_rows books) row) in
    subst (λ b. IsPermutation (books_rows books ++ r ∷ rows) (books_rows (with_books_rows rows b))) (sym (with_booked_row things books r are h))
    (IsPermutation-trans (books_rows books ++ r ∷ rows) (r ∷ (books_rows books ++ rows)) last (IsPermutation-middle (books_rows books) r rows)
    (IsPermutation-trans (r ∷ (books_rows books ++ rows)) (books_rows new ++ rows) last step (putting_adds_rows things rows new also all.1 d.1 (stay_free things books r h rows d.0 free.1))))

all_free : (things : ℕ) (rows : List StoredBooks) → AllByRecursion (IsFree things (no_amounts things)) rows
all_free things [] = tt
all_free things (r ∷ rows) = (λ h. get-empty {X = ℤ} account_cmp h.account, all_free things rows)

-- books assembled from rows with distinct keys, each read as an account (IsBooked), have just these rows, in some order
pub assembled_books_have_rows : (things : ℕ) (rows : List StoredBooks) → AllByRecursion (IsBooked things) rows
    → IsDistinct is_same_key (map books_key rows)
    → IsPermutation (books_rows (with_books_rows rows (no_amounts things))) rows
assembled_books_have_rows things rows all d =
    let last = books_rows (with_books_rows rows (no_amounts things)) in
    let order = putting_adds_rows things rows (no_amounts things) (AreBooks-no_amounts things) all d (all_free things rows) in
    IsPermutation-sym rows last (subst (λ xs. IsPermutation (xs ++ rows) last) (ap amounts_rows entries-none) order)
