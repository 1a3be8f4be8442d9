-- Laws on writing the marked amounts of the books: one entry and one thing after another, until all are written.
-- To rewrite amounts is to make the rows of the marked ones among them those of the campaign `c`, where an amount of 0
-- has no row (`RewritesAmounts`). Tests and lists of numbers give an entry or a thing by its index. `e` is an entry or
-- its index, `t` a thing or its index, and `r` a row of `books`. Each step is in a database with the ten tables.
use Rattle.std.proofs.Common.{◌≡◌, ◌≢◌, ◌+◌, ◌*◌, ◌<◌, ◌≤◌, ◌&&◌, ◌||◌, nat_le, ℕ, zero, suc, pos, Bool, true, false, List, [], ◌∷◌, map, take, refl, sym, ap, ◌∙◌, subst, inl, inr, true≢false, arith}
use Rattle.std.specs.List.{range_with_len}
use Rattle.std.specs.Ordering.{nat_cmp, int_eq, eq_by_cmp}
use Rattle.std.specs.FinSet.{FinSet, contains}
use Rattle.std.proofs.lemmas.Bool.{cases_Bool, cases_lt, and_parts, false_from_ne_true}
use Rattle.std.proofs.Math.Bool.{and-false, and-or_distrib_left, and-or_distrib_right}
use Rattle.std.proofs.lemmas.Bool.Decides.{nat_tests}
use Rattle.sqlite.specs.Effect.{Database}
use Rattle.sqlite.specs.Order.{Row}
use Rattle.sqlite.specs.State.{State}
use Rattle.sqlite_rules.specs.Lists.{Has}
use Rattle.sqlite_value.specs.declared.value.Value.TheVariants.{Int}
use Rattle.atl_records.specs.Limits.{entry_count}
use Rattle.atl_records.specs.Books.{Account, all_entries, amount_in, entry_index, thing_index, amount_number}
use Rattle.atl_campaign.specs.Marks.{AreOfThings}
use Rattle.atl_campaign.specs.Campaign.{MarkedCampaign}
use Rattle.atl_records.specs.declared.books.BooksEntry.{BooksEntry}
use Rattle.atl_records.specs.declared.books.Thing.{Thing}
use Rattle.atl_records.proofs.AccountLaws.{same_account}
use Rattle.atl_descriptions.specs.Tables.{books_table}
use Rattle.atl_sql.specs.Shown.{int, books_key, books_row}
use Rattle.atl_writing.specs.Rows.{BooksRowsOf}
use Rattle.atl_writing.specs.GroupedRows.{amount_lines}
use Rattle.atl_writing.specs.Arriving.{WritesAmount}
use Rattle.atl_sql.specs.Inside.{DoesInside, HasTables}
use Rattle.atl_writing.specs.Marked.{entry_and_thing_pass, amount_marked, is_marked_amount}
use Rattle.atl_writing.specs.Rewriting.{RewritesAmounts, RewritesBooks, equals_number, is_among, is_of_marked_amount}
use Rattle.atl_writing.proofs.HasTableLaws.{optional_has, has_optional}
use Rattle.atl_writing.proofs.LedgerLaws.{books_key_determines_numbers, differs_zero, is_differing}
use Rattle.atl_writing.proofs.RewriteLaws.{Remaining, one_less_remaining, all_rewritten, rewrites_key}
use Rattle.atl_writing.proofs.WholeLaws.{inside_weaker}
use Rattle.atl_world.proofs.GeneralLaws.{same_key, key_itself}

-- ---- a row that begins with an entry and a thing

accounts_either : (f g : ℕ → ℕ → Bool) (r : Row)
    → entry_and_thing_pass (λ e t. f e t || g e t) r ≡ (entry_and_thing_pass f r || entry_and_thing_pass g r)
accounts_either f g (Int (pos (suc e)) ∷ Int (pos t) ∷ row) = refl
accounts_either f g row = refl

accounts_same : (f g : ℕ → ℕ → Bool) → ((e t : ℕ) → f e t ≡ g e t) → (r : Row)
    → entry_and_thing_pass f r ≡ entry_and_thing_pass g r
accounts_same f g same r = ap (λ (h : ℕ → ℕ → Bool). entry_and_thing_pass h r) (λ i e t. same e t i)

accounts_none : (f : ℕ → ℕ → Bool) → ((e t : ℕ) → f e t ≡ false) → (r : Row) → entry_and_thing_pass f r ≡ false
accounts_none f never (Int (pos (suc e)) ∷ Int (pos t) ∷ row) = never e t
accounts_none f never row = refl

-- ---- tests of entries and of things

and_or : (p a b c : Bool) → (p && ((a || b) && c)) ≡ ((p && (a && c)) || (p && (b && c)))
and_or p a b c = ap (λ q. p && q) (and-or_distrib_right a b c) ∙ and-or_distrib_left p (a && c) (b && c)

-- `marks` has the numbers of marked amounts; `entries` and `things` are tests of an entry and of a thing, by index
module _ (marks : FinSet nat_cmp) where
  abbrev is_marked_at : ℕ → ℕ → Bool
  is_marked_at e t = contains marks (entry_count * t + e)

  -- a row is of a marked amount of one of the entries `e ∷ es` exactly if it is of one of `e`, or of one of `es`
  pub next_entry : (e : ℕ) (es : List ℕ) (things : ℕ → Bool) (r : Row)
      → is_of_marked_amount marks (is_among (e ∷ es)) things r ≡ (is_of_marked_amount marks (equals_number e) things r || is_of_marked_amount marks (is_among es) things r)
  next_entry e es things r =
      let one : ℕ → ℕ → Bool = λ k t. equals_number e k && (things t && is_marked_at k t) in
      let rest : ℕ → ℕ → Bool = λ k t. is_among es k && (things t && is_marked_at k t) in
      accounts_same (λ k t. is_among (e ∷ es) k && (things t && is_marked_at k t)) (λ k t. one k t || rest k t) (λ k t. and-or_distrib_right (equals_number e k) (is_among es k) (things t && is_marked_at k t)) r
      ∙ accounts_either one rest r

  -- a row is of a marked amount of one of the things `t ∷ ts` exactly if it is of one of `t`, or of one of `ts`
  pub next_thing : (entries : ℕ → Bool) (t : ℕ) (ts : List ℕ) (r : Row)
      → is_of_marked_amount marks entries (is_among (t ∷ ts)) r ≡ (is_of_marked_amount marks entries (equals_number t) r || is_of_marked_amount marks entries (is_among ts) r)
  next_thing entries t ts r =
      let one : ℕ → ℕ → Bool = λ e k. entries e && (equals_number t k && is_marked_at e k) in
      let rest : ℕ → ℕ → Bool = λ e k. entries e && (is_among ts k && is_marked_at e k) in
      accounts_same (λ e k. entries e && (is_among (t ∷ ts) k && is_marked_at e k)) (λ e k. one e k || rest e k) (λ e k. and_or (entries e) (equals_number t k) (is_among ts k) (is_marked_at e k)) r
      ∙ accounts_either one rest r

  -- no row is of a marked amount of an entry of the empty list
  pub no_entry : (es : List ℕ) (things : ℕ → Bool) → es ≡ [] → (r : Row)
      → is_of_marked_amount marks (is_among es) things r ≡ false
  no_entry es things none r =
      ap (λ l. is_of_marked_amount marks (is_among l) things r) none ∙ accounts_none (λ e t. false) (λ e t. refl) r

  -- no row is of a marked amount of a thing of the empty list
  pub no_thing : (entries : ℕ → Bool) (ts : List ℕ) → ts ≡ [] → (r : Row)
      → is_of_marked_amount marks entries (is_among ts) r ≡ false
  no_thing entries ts none r =
      ap (λ l. is_of_marked_amount marks entries (is_among l) r) none
      ∙ accounts_none (λ e t. entries e && false) (λ e t. and-false (entries e)) r

  -- ---- all entries and all things

  in_range : (from count i : ℕ) → from ≤ i → i < from + count → is_among (range_with_len from count) i ≡ true
  in_range from zero i least most = absurd (omega (arith, least, most))
  in_range from (suc count) i least most = elim (cases_Bool (eq_by_cmp nat_cmp i from)) [
    | inl here ↦ ap (λ b. b || is_among (range_with_len (from + 1) count) i) here
    | inr later ↦
        let apart : i ≢ from = λ same. true≢false (sym (key_itself i) ∙ ap (eq_by_cmp nat_cmp i) same ∙ later) in
        ap (λ b. b || is_among (range_with_len (from + 1) count) i) later
        ∙ in_range (from + 1) count i (past from i least apart) (omega (arith, most))
  ]
    where
      past : (m n : ℕ) → m ≤ n → n ≢ m → m + 1 ≤ n
      past m n least apart = grind (arith, least, apart)

  beyond : (from count i : ℕ) → from + count ≤ i → is_among (range_with_len from count) i ≡ false
  beyond from zero i past = refl
  beyond from (suc count) i past =
      ap (λ b. b || is_among (range_with_len (from + 1) count) i) (false_from_ne_true (eq_by_cmp nat_cmp i from) (λ is. absurd (omega (arith, past, same_key i from is))))
      ∙ beyond (from + 1) count i (omega (arith, past))

  among_first : (count e : ℕ) → is_among (range_with_len 0 count) e ≡ nat_le (suc e) count
  among_first count e = elim (cases_lt e count) [
    | inl less ↦ in_range 0 count e (omega arith) (omega (arith, less)) ∙ sym (counted less)
    | inr past ↦ beyond 0 count e (omega (arith, past)) ∙ sym (uncounted past)
  ]
    where
      counted : e < count → nat_le (suc e) count ≡ true
      counted less = grind (arith, nat_tests, less)

      uncounted : count ≤ e → nat_le (suc e) count ≡ false
      uncounted past = grind (arith, nat_tests, past)

  each_entry : (e : ℕ) → is_among (map entry_index all_entries) e ≡ nat_le (suc e) entry_count
  each_entry e = among_first entry_count e

  -- if all marks are of the first `things` things, the test for their marked amounts finds the marked rows of `books`
  pub all_amounts : (things : ℕ) → AreOfThings things marks → (r : Row)
      → is_of_marked_amount marks (is_among (map entry_index all_entries)) (is_among (range_with_len 0 things)) r ≡ amount_marked marks r
  all_amounts things few r =
      accounts_same
      (λ e t. is_among (map entry_index all_entries) e && (is_among (range_with_len 0 things) t && is_marked_at e t))
      (is_marked_amount marks) same r
    where
      inside : (e t n : ℕ) → entry_count * t + e < entry_count * n → t < n
      inside e t n h = omega (arith, h)

      same : (e t : ℕ)
          → (is_among (map entry_index all_entries) e && (is_among (range_with_len 0 things) t && is_marked_at e t)) ≡ is_marked_amount marks e t
      same e t = elim (cases_Bool (is_marked_at e t)) [
        | inl is ↦
            let there : is_among (range_with_len 0 things) t ≡ true = in_range 0 things t (omega arith) (omega (arith, inside e t things (few (entry_count * t + e) is))) in
            ap (λ b. b && (is_among (range_with_len 0 things) t && is_marked_at e t)) (each_entry e)
            ∙ ap (λ b. nat_le (suc e) entry_count && (b && is_marked_at e t)) there
        | inr unmarked ↦ ap (λ b. b && (is_among (range_with_len 0 things) t && is_marked_at e t)) (each_entry e) ∙ ap (λ b. nat_le (suc e) entry_count && (is_among (range_with_len 0 things) t && b)) unmarked ∙ ap (λ b. nat_le (suc e) entry_count && b) (and-false (is_among (range_with_len 0 things) t)) ∙ ap (λ b. nat_le (suc e) entry_count && b) (sym unmarked)
      ]

-- ---- one amount

module _ (c : MarkedCampaign) (e : BooksEntry) (t : Thing) where
  -- whether a row of `books` is of entry `e` and thing `t`, and their amount is marked
  abbrev is_here : Row → Bool
  is_here r = is_of_marked_amount c.marks.books (equals_number (entry_index e)) (equals_number (thing_index t)) r

  abbrev row : Row
  row = books_row (entry_index e + 1) (thing_index t) (amount_in c.value.books e t)

  same_place : (f : BooksEntry) (u : Thing) → amount_in c.value.books f u ≢ pos 0 → entry_index f ≡ entry_index e
      → thing_index u ≡ thing_index t
      → (r : Row) → r ≡ books_row (entry_index f + 1) (thing_index u) (amount_in c.value.books f u)
      → Has (amount_lines c.value e t) r
  same_place f u some entries things r is =
      let books = c.value.books in
      let same : amount_in books f u ≡ amount_in books e t = ap (λ (a : Account). amount_in books a.0 a.1) (same_account f e u t entries things) in
      let row_is : r ≡ row = is ∙ ap (λ k. books_row (k + 1) (thing_index u) (amount_in books f u)) entries ∙ ap (λ k. books_row (entry_index e + 1) k (amount_in books f u)) things ∙ ap (books_row (entry_index e + 1) (thing_index t)) same in
      subst (Has (amount_lines c.value e t)) (sym row_is) (has_optional (int_eq (amount_in books e t) (pos 0)) row (is_differing (amount_in books e t) (λ none. some (same ∙ none))))

  -- if the amount of entry `e` and thing `t` is not marked, no row is of it as a marked amount
  pub unmarked_none : contains c.marks.books (amount_number e t) ≡ false → (r : Row) → is_here r ≡ false
  unmarked_none unmarked r = accounts_none _ (λ k j. false_from_ne_true _ (λ is.
      let one = and_parts _ _ is in
      let two = and_parts _ _ one.1 in
      true≢false (sym two.1 ∙ ap (λ x. contains c.marks.books (entry_count * x + k)) (same_key j (thing_index t) two.0) ∙ ap (λ x. contains c.marks.books (entry_count * thing_index t + x)) (same_key k (entry_index e) one.0) ∙ unmarked))) r

  key_of : (r : Row) → is_here r ≡ true → take 2 r ≡ books_key (entry_index e + 1) (thing_index t)
  key_of (Int (pos (suc index)) ∷ Int (pos thing) ∷ row) is =
      let one = and_parts _ _ is in
      let two = and_parts _ _ one.1 in
      ap (λ k. books_key k thing) (next index (entry_index e) (same_key index (entry_index e) one.0))
      ∙ ap (books_key (entry_index e + 1)) (same_key thing (thing_index t) two.0)
    where
      next : (a b : ℕ) → a ≡ b → suc a ≡ b + 1
      next a b same = omega (arith, same)
  key_of row is = absurd (true≢false (sym is))

  module _ (marked : contains c.marks.books (amount_number e t) ≡ true) where
    of_key : (r : Row) → take 2 r ≡ books_key (entry_index e + 1) (thing_index t) → is_here r ≡ true
    of_key [] key = absurd cc
    of_key (v ∷ []) key = absurd cc
    of_key (v ∷ w ∷ row) key =
        let first : v ≡ int (entry_index e + 1) = cc in
        let second : w ≡ int (thing_index t) = cc in
        let index : entry_index e + 1 ≡ suc (entry_index e) = omega arith in
        ap (λ x. is_here (x ∷ w ∷ row)) (first ∙ ap int index)
        ∙ ap (λ x. is_here (int (suc (entry_index e)) ∷ x ∷ row)) second
        ∙ ap (λ b. b && (equals_number (thing_index t) (thing_index t) && contains c.marks.books (amount_number e t))) (key_itself (entry_index e))
        ∙ ap (λ b. b && contains c.marks.books (amount_number e t)) (key_itself (thing_index t)) ∙ marked

    written_amount_is_rewritten : (old new : Database) → WritesAmount c.value e t old new
        → RewritesAmounts c (equals_number (entry_index e)) (equals_number (thing_index t)) old new
    written_amount_is_rewritten old new did =
        rewrites_key is_here (λ r. take 2 r ≡ books_key (entry_index e + 1) (thing_index t))
        (Has (amount_lines c.value e t)) (BooksRowsOf c.value.books) key_of of_key
        (λ r here. let is = optional_has (int_eq (amount_in c.value.books e t) (pos 0)) row r here in (ap (take 2) is.1, (e, t, differs_zero (amount_in c.value.books e t) is.0, is.1)))
        (λ r is of.
        let keys = books_key_determines_numbers (entry_index of.0 + 1) (thing_index of.1) (entry_index e + 1) (thing_index t) (ap (take 2) (sym of.3) ∙ key_of r is) in
        same_place of.0 of.1 of.2 (omega (arith, keys.0)) keys.1 r of.3)
        books_table old new did.rows did.others

    -- to write the amount of entry `e` and thing `t`, which is marked, rewrites its row and no other
    pub amount_is_rewritten_inside : (old new : State) → DoesInside HasTables (WritesAmount c.value e t) old new
        → DoesInside HasTables (RewritesAmounts c (equals_number (entry_index e)) (equals_number (thing_index t))) old new
    amount_is_rewritten_inside old new did =
        inside_weaker HasTables (WritesAmount c.value e t)
        (RewritesAmounts c (equals_number (entry_index e)) (equals_number (thing_index t))) old new
        (λ has settles. written_amount_is_rewritten old.now new.now settles) did

-- ---- one entry after another, and one thing after another

-- The rewriting begins at `old`, and the next entry or thing is rewritten from `mid` to `new`. `now` are those that are
-- left at `mid`, and `rest` those that are left at `new`. Of an entry only amounts of things are meant for which the
-- test `things` is true.
module _ (c : MarkedCampaign) where
  abbrev wanted : Row → Type 0
  wanted r = BooksRowsOf c.value.books r

  -- Of the entries `all`, `rest` are left to rewrite: once their marked amounts are rewritten, those of all are
  -- (`Remaining`).
  abbrev pub RemainingEntries : (ℕ → Bool) → List BooksEntry → List BooksEntry → Database → Database → Type 0
  RemainingEntries things rest all old new =
      Remaining books_table wanted (λ r. is_of_marked_amount c.marks.books (is_among (map entry_index rest)) things r)
      (λ r. is_of_marked_amount c.marks.books (is_among (map entry_index all)) things r) old new

  -- after the marked amounts of `x`, the next entry, are rewritten, only those of the entries after it are left to
  -- rewrite
  pub one_less_entry : (things : ℕ → Bool) (x : BooksEntry) (now rest all : List BooksEntry) → now ≡ x ∷ rest
      → (old mid new : State)
      → DoesInside HasTables (RemainingEntries things now all) old mid
      → DoesInside HasTables (RewritesAmounts c (equals_number (entry_index x)) things) mid new
      → DoesInside HasTables (RemainingEntries things rest all) old new
  one_less_entry things x now rest all is =
      one_less_remaining books_table wanted
      (λ r. is_of_marked_amount c.marks.books (equals_number (entry_index x)) things r)
      (λ r. is_of_marked_amount c.marks.books (is_among (map entry_index now)) things r)
      (λ r. is_of_marked_amount c.marks.books (is_among (map entry_index rest)) things r)
      (λ r. is_of_marked_amount c.marks.books (is_among (map entry_index all)) things r)
      (λ r. ap (λ es. is_of_marked_amount c.marks.books (is_among (map entry_index es)) things r) is ∙ next_entry c.marks.books (entry_index x) (map entry_index rest) things r)

  -- when no entry is left to rewrite, the marked amounts of all the listed entries are rewritten
  pub entries_rewritten : (things : ℕ → Bool) (rest all : List BooksEntry) → rest ≡ [] → (old new : State)
      → DoesInside HasTables (RemainingEntries things rest all) old new
      → DoesInside HasTables (RewritesAmounts c (is_among (map entry_index all)) things) old new
  entries_rewritten things rest all none =
      all_rewritten books_table wanted
      (λ r. is_of_marked_amount c.marks.books (is_among (map entry_index rest)) things r)
      (λ r. is_of_marked_amount c.marks.books (is_among (map entry_index all)) things r)
      (λ r. is_of_marked_amount c.marks.books (is_among (map entry_index all)) things r)
      (no_entry c.marks.books (map entry_index rest) things (ap (map entry_index) none)) (λ r. refl)

  -- Of the things `all`, `rest` are left to rewrite: once their marked amounts are rewritten, those of all are
  -- (`Remaining`).
  abbrev pub RemainingThings : List ℕ → List ℕ → Database → Database → Type 0
  RemainingThings rest all old new =
      Remaining books_table wanted
      (λ r. is_of_marked_amount c.marks.books (is_among (map entry_index all_entries)) (is_among rest) r)
      (λ r. is_of_marked_amount c.marks.books (is_among (map entry_index all_entries)) (is_among all) r) old new

  -- after the marked amounts of `t`, the next thing, are rewritten, only those of the things after it are left to
  -- rewrite
  pub one_less_thing : (t : ℕ) (now rest all : List ℕ) → now ≡ t ∷ rest → (old mid new : State)
      → DoesInside HasTables (RemainingThings now all) old mid
      → DoesInside HasTables (RewritesAmounts c (is_among (map entry_index all_entries)) (equals_number t)) mid new
      → DoesInside HasTables (RemainingThings rest all) old new
  one_less_thing t now rest all is =
      one_less_remaining books_table wanted
      (λ r. is_of_marked_amount c.marks.books (is_among (map entry_index all_entries)) (equals_number t) r)
      (λ r. is_of_marked_amount c.marks.books (is_among (map entry_index all_entries)) (is_among now) r)
      (λ r. is_of_marked_amount c.marks.books (is_among (map entry_index all_entries)) (is_among rest) r) (λ r. is_of_marked_amount c.marks.books (is_among (map entry_index all_entries)) (is_among all) r)
      (λ r. ap (λ ts. is_of_marked_amount c.marks.books (is_among (map entry_index all_entries)) (is_among ts) r) is ∙ next_thing c.marks.books (is_among (map entry_index all_entries)) t rest r)

  -- when no thing is left to rewrite, all marked amounts of the books are rewritten, if they are of the first `count`
  -- things
  pub things_rewritten : (rest : List ℕ) (count : ℕ) → AreOfThings count c.marks.books → rest ≡ [] → (old new : State)
      → DoesInside HasTables (RemainingThings rest (range_with_len 0 count)) old new
      → DoesInside HasTables (RewritesBooks c) old new
  things_rewritten rest count few none =
      all_rewritten books_table wanted
      (λ r. is_of_marked_amount c.marks.books (is_among (map entry_index all_entries)) (is_among rest) r)
      (λ r. is_of_marked_amount c.marks.books (is_among (map entry_index all_entries)) (is_among (range_with_len 0 count)) r)
      (λ r. amount_marked c.marks.books r)
      (no_thing c.marks.books (is_among (map entry_index all_entries)) rest none) (all_amounts c.marks.books count few)
