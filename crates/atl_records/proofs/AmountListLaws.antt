-- Laws of the list of the books' amounts: it has the accounts in order, with the amounts that are not 0. Of a list of
-- accounts `listed_of` keeps those whose amount is not 0. `things` is how many things the books have, a is an account,
-- z an amount, and m a map of amounts by account.
use Rattle.std.proofs.Common.{◌≡◌, ℕ, zero, suc, ◌<◌, ◌+◌, ◌&&◌, ◌||◌, T, Bool, true, false, not, cond, List, [], ◌∷◌, ◌++◌, map, Option, Some, None, refl, sym, ap, subst, ◌∙◌, arith, inl, inr}
use Rattle.std.specs.Prelude.{ℤ, ⊤, nat_lt}
use Rattle.std.specs.List.{AllByRecursion, flat_map, list_all, list_any, range_with_len}
use Rattle.std.specs.declared.cmp.Ordering.TheVariants.{Less, Equal, Greater}
use Rattle.std.specs.Ordering.{eq_by_cmp, is_eq, is_lt, nat_cmp, ordering_then}
use Rattle.std.specs.Cmp.{nat_cmp_is, nat_cmp_total, tied_itself}
use Rattle.std.specs.FinMap.{FinMap, empty, entries, entries_sorted, find, get, get-entries, is_sorted, len-empty, len-entries}
use Rattle.std.specs.FinMap.Entries.{below_all, same_entries}
use Rattle.std.proofs.lemmas.Bool.{and_parts, cases_lt, false≢true}
use Rattle.std.proofs.lemmas.Bool.Decides.{nat_tests}
use Rattle.std.proofs.lemmas.List.{nil_from_length}
use Rattle.atl_records.specs.declared.books.BooksEntry.{BooksEntry}
use Rattle.atl_records.specs.Books.{Account, BooksValue, account_cmp, all_entries, amount_in, AreBooks, entry_index, is_zero, thing_at, thing_index}
use Rattle.atl_records.specs.Grids.{accounts, accounts_under, listed_of}
use Rattle.atl_records.proofs.AccountLaws.{account_itself, account_same, account_total, cases_account, index_of_thing_at}
use Rattle.atl_records.proofs.BookLaws.{get-listed, listing_of, none_past, zero_is}
use Rattle.atl_world.proofs.EveryLaws.{none_some}
use Rattle.atl_records.proofs.GridLaws.{any_accounts}
use Rattle.atl_world.proofs.GeneralLaws.{is_true}

-- ---- sorted accounts

-- an account is less than each of a list, by account_cmp
abbrev pub IsLessThanAll : Account → List Account → Type 0
IsLessThanAll a chosen = AllByRecursion (λ c. account_cmp a c ≡ Less) chosen

-- each account of a list is less than all after it
abbrev pub AreSortedAccounts : List Account → Type 0
AreSortedAccounts [] = ⊤
AreSortedAccounts (a ∷ others) = IsLessThanAll a others × AreSortedAccounts others

less_entry : (a b : Account) → entry_index a.0 < entry_index b.0 → account_cmp a b ≡ Less
less_entry a b h =
    ap (λ o. ordering_then o (nat_cmp (thing_index a.1) (thing_index b.1)))
    (sym (nat_cmp_is (entry_index a.0) (entry_index b.0) Less h))

less_thing : (e : BooksEntry) (i k : ℕ) → i < k → account_cmp (e, thing_at i) (e, thing_at k) ≡ Less
less_thing e i k h =
    ap (λ o. ordering_then o (nat_cmp (thing_index (thing_at i)) (thing_index (thing_at k)))) (tied_itself nat_cmp_total (entry_index e))
    ∙ (λ j. nat_cmp (index_of_thing_at i j) (index_of_thing_at k j)) ∙ sym (nat_cmp_is i k Less h)

pub all_append : {A : Type 0} (P : A → Type 0) (xs ys : List A) → AllByRecursion P xs → AllByRecursion P ys
    → AllByRecursion P (xs ++ ys)
all_append P [] ys h k = k
all_append P (x ∷ xs) ys h k = (h.0, all_append P xs ys h.1 k)

sorted_append : (xs ys : List Account) → AreSortedAccounts xs → AreSortedAccounts ys
    → AllByRecursion (λ x. IsLessThanAll x ys) xs → AreSortedAccounts (xs ++ ys)
sorted_append [] ys h k all = k
sorted_append (x ∷ xs) ys h k all =
    (all_append (λ c. account_cmp x c ≡ Less) xs ys h.0 all.0, sorted_append xs ys h.1 k all.1)

all_under : (P : Account → Type 0) (e : BooksEntry) (numbers : List ℕ) → ((i : ℕ) → P (e, thing_at i))
    → AllByRecursion P (map (λ i. (e, thing_at i)) numbers)
all_under P e [] h = tt
all_under P e (i ∷ numbers) h = (h i, all_under P e numbers h)

account_is_less_than_later : (e : BooksEntry) (i a n : ℕ) → i < a
    → IsLessThanAll (e, thing_at i) (map (λ k. (e, thing_at k)) (range_with_len a n))
account_is_less_than_later e i a zero h = tt
account_is_less_than_later e i a (suc n) h =
    (less_thing e i a h, account_is_less_than_later e i (a + 1) n (omega arith))

accounts_of_entry_are_sorted : (e : BooksEntry) (a n : ℕ)
    → AreSortedAccounts (map (λ i. (e, thing_at i)) (range_with_len a n))
accounts_of_entry_are_sorted e a zero = tt
accounts_of_entry_are_sorted e a (suc n) =
    (account_is_less_than_later e a (a + 1) n (omega arith), accounts_of_entry_are_sorted e (a + 1) n)

are_ascending : List BooksEntry → Bool
are_ascending [] = true
are_ascending (e ∷ es) = list_all (λ d. nat_lt (entry_index e) (entry_index d)) es && are_ascending es

-- the accounts are those of the things whose number is below `things`
module _ (things : ℕ) where
  after_flat : (a : Account) (es : List BooksEntry) → list_all (λ d. nat_lt (entry_index a.0) (entry_index d)) es ≡ true
      → IsLessThanAll a (flat_map (accounts_under things) es)
  after_flat a [] h = tt
  after_flat a (d ∷ es) h =
      let parts = and_parts (nat_lt (entry_index a.0) (entry_index d)) (list_all (λ d. nat_lt (entry_index a.0) (entry_index d)) es) h in
      let before : entry_index a.0 < entry_index d = grind (arith, nat_tests, parts.0) in
      all_append (λ c. account_cmp a c ≡ Less) (accounts_under things d) (flat_map (accounts_under things) es) (all_under (λ c. account_cmp a c ≡ Less) d (range_with_len 0 things) (λ i. less_entry a (d, thing_at i) before))
      (after_flat a es parts.1)

  flat_rise : (es : List BooksEntry) → are_ascending es ≡ true → AreSortedAccounts (flat_map (accounts_under things) es)
  unfolding are_ascending
  flat_rise [] h = tt
  flat_rise (e ∷ es) h =
      let parts = and_parts (list_all (λ d. nat_lt (entry_index e) (entry_index d)) es) (are_ascending es) h in
      sorted_append (accounts_under things e) (flat_map (accounts_under things) es) (accounts_of_entry_are_sorted e 0 things) (flat_rise es parts.1)
      (all_under (λ x. IsLessThanAll x (flat_map (accounts_under things) es)) e (range_with_len 0 things) (λ i. after_flat (e, thing_at i) es parts.0))

  accounts_rise : AreSortedAccounts (accounts things)
  unfolding are_ascending
  accounts_rise = flat_rise all_entries refl

pub amounts_sorted : (m : FinMap account_cmp ℤ) → is_sorted account_cmp (entries m) ≡ true
amounts_sorted m = is_true _ (entries_sorted m)

-- ---- amounts that are listed

-- for an amount that is 0, and so isn't listed
none_either : (b : Bool) (o : Option ℤ) → o ≡ None → cond b o None ≡ None
none_either true o h = h
none_either false o h = refl

-- `amount` gives the amount of each account
module _ (amount : Account → ℤ) where
  after_listed : (a : Account) (chosen : List Account) → IsLessThanAll a chosen
      → below_all account_cmp a (listed_of amount chosen) ≡ true
  after_listed a [] h = refl
  after_listed a (c ∷ others) h =
      let rest = listed_of amount others in
      elim (is_zero (amount c)) as (λ b. below_all account_cmp a (cond (not b) ((c, amount c) ∷ rest) rest) ≡ true) [
        | true ↦ after_listed a others h.1
        | false ↦ ap (λ o. is_lt o && below_all account_cmp a rest) h.0 ∙ after_listed a others h.1
      ]

  sorted_listed : (chosen : List Account) → AreSortedAccounts chosen
      → is_sorted account_cmp (listed_of amount chosen) ≡ true
  sorted_listed [] h = refl
  sorted_listed (c ∷ others) h =
      let rest = listed_of amount others in
      elim (is_zero (amount c)) as (λ b. is_sorted account_cmp (cond (not b) ((c, amount c) ∷ rest) rest) ≡ true) [
        | true ↦ sorted_listed others h.1
        | false ↦ ap (λ b. b && is_sorted account_cmp rest) (after_listed c others h.0) ∙ sorted_listed others h.1
      ]

  -- in what `listed_of` keeps, each account of the list is found with its amount if this isn't 0, and no other is
  find-listed : (a : Account) (chosen : List Account)
      → find account_cmp a (listed_of amount chosen)
      ≡ cond (list_any (eq_by_cmp account_cmp a) chosen) (listing_of (amount a)) None
  find-listed a [] = refl
  find-listed a (c ∷ others) =
      let rest = listed_of amount others in
      let later = list_any (eq_by_cmp account_cmp a) others in
      let found = find-listed a others in
      elim (cases_account a c) [
        | inl same ↦
            let yes : eq_by_cmp account_cmp a c ≡ true = ap (eq_by_cmp account_cmp a) (sym same) ∙ account_itself a in
            let one : amount c ≡ amount a = ap amount (sym same) in
            elim (is_zero (amount c)) as (λ b. is_zero (amount c) ≡ b → find account_cmp a (cond (not b) ((c, amount c) ∷ rest) rest) ≡ listing_of (amount a)) [
              | true ↦ λ zero. let none : listing_of (amount a) ≡ None = ap listing_of (sym one ∙ zero_is (amount c) zero) in found ∙ none_either later (listing_of (amount a)) none ∙ sym none
              | false ↦ λ some. ap (λ b. cond b (Some (amount c)) (find account_cmp a rest)) yes ∙ ap Some one ∙ ap (λ b. cond b None (Some (amount a))) (sym (ap is_zero (sym one) ∙ some))
            ] refl ∙ sym (ap (λ b. cond (b || later) (listing_of (amount a)) None) yes)
        | inr apart ↦
            elim (is_zero (amount c)) as (λ b. find account_cmp a (cond (not b) ((c, amount c) ∷ rest) rest) ≡ cond later (listing_of (amount a)) None) [
              | true ↦ found
              | false ↦ ap (λ b. cond b (Some (amount c)) (find account_cmp a rest)) apart ∙ found
            ] ∙ sym (ap (λ b. cond (b || later) (listing_of (amount a)) None) apart)
      ]

-- the list of the books' amounts (`entries`) has those of all accounts in order, without the amounts that are 0, if the
-- books list only amounts of their things that aren't 0 (`AreBooks`)
pub entries-amounts : (things : ℕ) (books : BooksValue) → AreBooks things books
    → entries books.amounts ≡ listed_of (λ a. amount_in books a.0 a.1) (accounts things)
entries-amounts things books are =
    let amount = λ (a : Account). amount_in books a.0 a.1 in
    let sorted = subst T (sym (sorted_listed amount (accounts things) (accounts_rise things))) tt in
    same_entries account_cmp account_total account_same (entries books.amounts) (listed_of amount (accounts things)) (entries_sorted books.amounts) sorted (λ a.
    sym (get-entries books.amounts a) ∙ get-listed things books are a.0 a.1 ∙ elim (cases_lt (thing_index a.1) things) [
      | inl there ↦ sym (ap (λ b. cond b (listing_of (amount a)) None) (any_accounts things a.0 a.1 there))
      | inr past ↦
          let none : listing_of (amount a) ≡ None = ap listing_of (none_past things books are a.0 a.1 past) in
          none ∙ sym (none_either (list_any (eq_by_cmp account_cmp a) (accounts things)) (listing_of (amount a)) none)
    ] ∙ sym (find-listed amount a (accounts things)))

-- ---- what is so of each amount

less_apart : (a b : Account) → is_lt (account_cmp a b) ≡ true → eq_by_cmp account_cmp a b ≡ false
less_apart a b h =
    elim (account_cmp a b) as (λ o. is_lt o ≡ true → is_eq o ≡ false)
    [ Less ↦ λ _. refl | Equal ↦ λ not. absurd (false≢true not) | Greater ↦ λ _. refl ] h

none_before : (a : Account) (es : List (Account × ℤ)) → below_all account_cmp a es ≡ true → find account_cmp a es ≡ None
none_before a [] h = refl
none_before a (e ∷ es) h =
    let parts = and_parts (is_lt (account_cmp a e.0)) (below_all account_cmp a es) h in
    ap (λ b. cond b (Some e.1) (find account_cmp a es)) (less_apart a e.0 parts.0) ∙ none_before a es parts.1

later_found : (e : Account × ℤ) (es : List (Account × ℤ)) (a : Account) (z : ℤ) → below_all account_cmp e.0 es ≡ true
    → find account_cmp a es ≡ Some z → find account_cmp a (e ∷ es) ≡ Some z
later_found e es a z h is =
    elim (cases_account a e.0) [
      | inl same ↦ none_some z (sym (none_before e.0 es h) ∙ ap (λ b. find account_cmp b es) (sym same) ∙ is)
      | inr apart ↦ ap (λ b. cond b (Some e.1) (find account_cmp a es)) apart ∙ is
    ]

-- P is a condition on an account and its amount
module _ (P : Account → ℤ → Type 0) where
  each_of : (es : List (Account × ℤ)) → is_sorted account_cmp es ≡ true
      → ((a : Account) (z : ℤ) → find account_cmp a es ≡ Some z → P a z) → AllByRecursion (λ x. P x.0 x.1) es
  each_of [] s h = tt
  each_of (e ∷ es) s h =
      let parts = and_parts (below_all account_cmp e.0 es) (is_sorted account_cmp es) s in
      (h e.0 e.1 (ap (λ b. cond b (Some e.1) (find account_cmp e.0 es)) (account_itself e.0)), each_of es parts.1 (λ a z is. h a z (later_found e es a z parts.0 is)))

  found_of : (es : List (Account × ℤ)) (a : Account) (z : ℤ) → AllByRecursion (λ x. P x.0 x.1) es
      → find account_cmp a es ≡ Some z → P a z
  found_of [] a z h is = none_some z is
  found_of (e ∷ es) a z h is =
      elim (cases_account a e.0) [
        | inl same ↦
            let yes : eq_by_cmp account_cmp a e.0 ≡ true = ap (eq_by_cmp account_cmp a) (sym same) ∙ account_itself a in
            let one : Some e.1 ≡ Some z = sym (ap (λ b. cond b (Some e.1) (find account_cmp a es)) yes) ∙ is in
            subst (λ b. P b z) (sym same) (subst (P e.0) (inside e.1 z one) h.0)
        | inr apart ↦ found_of es a z h.1 (sym (ap (λ b. cond b (Some e.1) (find account_cmp a es)) apart) ∙ is)
      ]
    where
      inside : (x y : ℤ) → Some x ≡ Some y → x ≡ y
      inside x y e = cc

  -- P holds of each pair in the list of m (`entries`), an account and its amount, if it holds wherever m has an amount
  pub each_amount : (m : FinMap account_cmp ℤ) → ((a : Account) (z : ℤ) → get m a ≡ Some z → P a z)
      → AllByRecursion (λ x. P x.0 x.1) (entries m)
  each_amount m h = each_of (entries m) (amounts_sorted m) (λ a z is. h a z (get-entries m a ∙ is))

  -- P holds wherever m has an amount for an account, if it holds of each pair of both in the list of m (`entries`)
  pub amount_of_each : (m : FinMap account_cmp ℤ) → AllByRecursion (λ x. P x.0 x.1) (entries m) → (a : Account) (z : ℤ)
      → get m a ≡ Some z → P a z
  amount_of_each m h a z is = found_of (entries m) a z h (sym (get-entries m a) ∙ is)

pub entries-none : entries (empty {X = ℤ} {R = account_cmp}) ≡ []
entries-none =
    nil_from_length (entries (empty {X = ℤ} {R = account_cmp}))
    (sym (len-entries (empty {X = ℤ} {R = account_cmp})) ∙ len-empty account_cmp ℤ)
