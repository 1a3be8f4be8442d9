-- Laws of the books: what setting and booking an amount change, and how great amounts become. e and f are entries, t
-- and u things, a is an account, z and n are amounts, and `things` is how many things the books have.
use Rattle.std.proofs.Common.{◌≡◌, ◌≢◌, ◌==◌, ℕ, zero, suc, ◌≤◌, ◌<◌, ◌+◌, true, false, cond, List, [], ◌∷◌, map, Option, Some, None, refl, sym, ap, ◌∙◌, arith, inl, inr, ◌⊎◌}
use Rattle.std.specs.Prelude.{ℤ, pos, negsuc, ◌+ℤ◌, unwrap_or}
use Rattle.std.specs.Ordering.{eq_by_cmp}
use Rattle.std.specs.FinMap.{get, get-empty, get-insert, get-remove, insert, remove, same_map}
use Rattle.std.proofs.lemmas.Int.{ints}
use Rattle.std.proofs.lemmas.Bool.{cases_eq, false≢true}
use Rattle.std.proofs.lemmas.Bool.Decides.{nat_tests}
use Rattle.atl_records.specs.declared.books.BooksEntry.{BooksEntry}
use Rattle.atl_records.specs.declared.books.BooksEntry.TheVariants.{Founding}
use Rattle.atl_records.specs.declared.books.Thing.{Thing}
use Rattle.atl_records.specs.Books.{Account, BooksValue, account_cmp, all_entries, entry_index, is_zero, thing_index, amount_in, with_amount, after_booking, sum_of, booked, no_amounts, AreBooks, IsWithin, LeavesRoomForJoining}
use Rattle.atl_records.proofs.AccountLaws.{account_total, account_same, account_itself, cases_account, apart_entries, apart_things, same_account}
use Rattle.atl_world.proofs.EveryLaws.{none_some}

-- ---- amounts of 0

pub zero_is : (z : ℤ) → is_zero z ≡ true → z ≡ pos 0
zero_is (pos zero) h = refl
zero_is (pos (suc n)) h = let none : (suc n == 0) ≡ false = grind (arith, nat_tests) in absurd (false≢true (sym none ∙ h))
zero_is (negsuc n) h = absurd (false≢true h)

pub nonzero_fails_is_zero : (z : ℤ) → z ≢ pos 0 → is_zero z ≡ false
nonzero_fails_is_zero z h =
    elim (is_zero z) as (λ b. is_zero z ≡ b → b ≡ false) [ true ↦ λ is. absurd (h (zero_is z is)) | false ↦ λ _. refl ]
    refl

pub failing_is_nonzero : (z : ℤ) → is_zero z ≡ false → z ≢ pos 0
failing_is_nonzero z h is = false≢true (sym h ∙ ap is_zero is)

-- how the books list an amount: Some of it, or None where it is 0
abbrev pub listing_of : ℤ → Option ℤ
listing_of z = cond (is_zero z) None (Some z)

pub amount_listed : (z : ℤ) → unwrap_or (listing_of z) (pos 0) ≡ z
amount_listed z =
    elim (is_zero z) as (λ b. is_zero z ≡ b → unwrap_or (cond b None (Some z)) (pos 0) ≡ z)
    [ true ↦ λ is. sym (zero_is z is) | false ↦ λ _. refl ] refl

pub listed_some : (z x : ℤ) → listing_of z ≡ Some x → (z ≡ x) × (x ≢ pos 0)
listed_some z x is =
    elim (is_zero z) as (λ b. is_zero z ≡ b → cond b None (Some z) ≡ Some x → (z ≡ x) × (x ≢ pos 0)) [
      | true ↦ λ _ e. none_some x e
      | false ↦ λ some e. let same : z ≡ x = cc in (same, λ none. failing_is_nonzero z some (same ∙ none))
    ] refl is

-- ---- an amount set

-- the amount of thing t under entry e is set to z
module _ (books : BooksValue) (e : BooksEntry) (t : Thing) (z : ℤ) where
  -- the books then list z for this account, or nothing where z is 0, and the other accounts as before
  pub get-with_amount : (a : Account)
      → get (with_amount books e t z).amounts a
      ≡ cond (eq_by_cmp account_cmp a (e, t)) (listing_of z) (get books.amounts a)
  get-with_amount a =
      elim (is_zero z) as (λ b. get (cond b (remove books.amounts (e, t)) (insert books.amounts (e, t) z)) a ≡ cond (eq_by_cmp account_cmp a (e, t)) (cond b None (Some z)) (get books.amounts a)) [
        | true ↦ get-remove account_total books.amounts (e, t) a
        | false ↦ get-insert account_total books.amounts (e, t) z a
      ]

  -- the amount of thing u under entry f is then z, if these are t and e, and else what it was
  pub amount-with_amount : (f : BooksEntry) (u : Thing)
      → amount_in (with_amount books e t z) f u ≡ cond (eq_by_cmp account_cmp (f, u) (e, t)) z (amount_in books f u)
  amount-with_amount f u =
      ap (λ o. unwrap_or o (pos 0)) (get-with_amount (f, u))
      ∙ elim (eq_by_cmp account_cmp (f, u) (e, t)) as (λ b. unwrap_or (cond b (listing_of z) (get books.amounts (f, u))) (pos 0) ≡ cond b z (amount_in books f u)) [
        | true ↦ amount_listed z
        | false ↦ refl
      ]

  pub its_amount : amount_in (with_amount books e t z) e t ≡ z
  its_amount = amount-with_amount e t ∙ ap (λ b. cond b z (amount_in books e t)) (account_itself (e, t))

  pub other_amount : (f : BooksEntry) (u : Thing) → eq_by_cmp account_cmp (f, u) (e, t) ≡ false
      → amount_in (with_amount books e t z) f u ≡ amount_in books f u
  other_amount f u apart = amount-with_amount f u ∙ ap (λ b. cond b z (amount_in books f u)) apart

  -- the books still list only amounts of their things that aren't 0 (`AreBooks`), if t is one of these things
  pub AreBooks-with_amount : (things : ℕ) → AreBooks things books → thing_index t < things
      → AreBooks things (with_amount books e t z)
  AreBooks-with_amount things old there =
      record {
        count = old.count;
        listed = λ f u x is. elim (cases_account (f, u) (e, t)) [
          | inl same ↦
              let new = sym (ap (λ b. cond b (listing_of z) (get books.amounts (f, u))) (ap (λ a. eq_by_cmp account_cmp a (e, t)) same ∙ account_itself (e, t))) ∙ sym (get-with_amount (f, u)) ∙ is in
              let its : thing_index u ≡ thing_index t = ap (λ (a : Account). thing_index a.1) same in
              (omega (arith, there, its), (listed_some z x new).1)
          | inr apart ↦ old.listed f u x (sym (ap (λ b. cond b (listing_of z) (get books.amounts (f, u))) apart) ∙ sym (get-with_amount (f, u)) ∙ is)
        ];
      }

-- books still list only amounts of their things that aren't 0 (`AreBooks`), if n is booked of one of these things
pub AreBooks-after_booking : (things : ℕ) (books : BooksValue) (e : BooksEntry) (t : Thing) (n : ℤ)
    → AreBooks things books → thing_index t < things → AreBooks things (after_booking books e t n)
AreBooks-after_booking things books e t n old there =
    AreBooks-with_amount books e t (amount_in books e t +ℤ n) things old there

-- ---- what is booked of a thing

-- what a booking of n for thing u adds to the sum of thing t: n where t is u, else 0
abbrev pub booked_for : Thing → Thing → ℤ → ℤ
booked_for t u n = cond (thing_index t == thing_index u) n (pos 0)

abbrev added_under : BooksEntry → ℤ → BooksEntry → ℤ
added_under e n f = cond (entry_index f == entry_index e) n (pos 0)

-- for amounts to which a booking adds nothing
pub plus_zero : (z : ℤ) → z ≡ z +ℤ pos 0
plus_zero z = omega (arith, ints)

regroup : (x y z w : ℤ) → (x +ℤ y) +ℤ (z +ℤ w) ≡ (x +ℤ z) +ℤ (y +ℤ w)
regroup x y z w = omega (arith, ints)

sum_of-raised : (a b : BooksEntry → ℤ) (es : List BooksEntry)
    → sum_of (map (λ e. a e +ℤ b e) es) ≡ sum_of (map a es) +ℤ sum_of (map b es)
sum_of-raised a b [] = plus_zero (pos 0)
sum_of-raised a b (e ∷ es) =
    ap (λ z. (a e +ℤ b e) +ℤ z) (sum_of-raised a b es) ∙ regroup (a e) (b e) (sum_of (map a es)) (sum_of (map b es))

sum_of_one_booking : (e : BooksEntry) (n : ℤ) → sum_of (map (added_under e n) all_entries) ≡ n
sum_of_one_booking Founding n = omega (arith, ints)
sum_of_one_booking _ n = omega (arith, ints)

-- n is booked of thing u under entry e
module _ (books : BooksValue) (e : BooksEntry) (u : Thing) (n : ℤ) where
  raised : (f : BooksEntry) → amount_in (after_booking books e u n) f u ≡ amount_in books f u +ℤ added_under e n f
  raised f =
      elim (cases_eq (entry_index f) (entry_index e)) [
        | inl same ↦
            let tested : (entry_index f == entry_index e) ≡ true = grind (arith, nat_tests) in
            let at = same_account f e u u same refl in
            ap (λ (a : Account). amount_in (after_booking books e u n) a.0 a.1) at
            ∙ its_amount books e u (amount_in books e u +ℤ n)
            ∙ ap (λ (a : Account). amount_in books a.0 a.1 +ℤ n) (sym at)
            ∙ ap (λ b. amount_in books f u +ℤ cond b n (pos 0)) (sym tested)
        | inr apart ↦
            let tested : (entry_index f == entry_index e) ≡ false = grind (arith, nat_tests) in
            other_amount books e u (amount_in books e u +ℤ n) f u (apart_entries (f, u) (e, u) apart)
            ∙ plus_zero (amount_in books f u)
            ∙ ap (λ b. amount_in books f u +ℤ cond b n (pos 0)) (sym tested)
      ]

  raised_sum : booked (after_booking books e u n) u ≡ booked books u +ℤ n
  unfolding booked
  raised_sum =
      let each : (f : BooksEntry) → amount_in (after_booking books e u n) f u ≡ amount_in books f u +ℤ added_under e n f = raised in
      (λ i. sum_of (map (λ f. each f i) all_entries))
      ∙ sum_of-raised (λ f. amount_in books f u) (added_under e n) all_entries
      ∙ ap (λ z. booked books u +ℤ z) (sum_of_one_booking e n)

  -- a booking of n for thing u raises the sum of thing t's amounts by n if t is u, and else by 0 (`booked_for`)
  pub booked-after_booking : (t : Thing) → booked (after_booking books e u n) t ≡ booked books t +ℤ booked_for t u n
  unfolding booked
  booked-after_booking t =
      elim (cases_eq (thing_index t) (thing_index u)) [
        | inl same ↦
            let tested : (thing_index t == thing_index u) ≡ true = grind (arith, nat_tests) in
            let at = same_account e e t u refl same in
            ap (λ (a : Account). booked (after_booking books e u n) a.1) at ∙ raised_sum
            ∙ ap (λ (a : Account). booked books a.1 +ℤ n) (sym at)
            ∙ ap (λ b. booked books t +ℤ cond b n (pos 0)) (sym tested)
        | inr apart ↦
            let tested : (thing_index t == thing_index u) ≡ false = grind (arith, nat_tests) in
            let each : (f : BooksEntry) → amount_in (after_booking books e u n) f t ≡ amount_in books f t = λ f. other_amount books e u (amount_in books e u +ℤ n) f t (apart_things (f, t) (e, u) apart) in
            (λ i. sum_of (map (λ f. each f i) all_entries)) ∙ plus_zero (booked books t)
            ∙ ap (λ b. booked books t +ℤ cond b n (pos 0)) (sym tested)
      ]

  -- after a booking of n, of either sign, each amount is what it was plus n, or what it was
  pub amount-after_booking : (f : BooksEntry) (t : Thing)
      → (amount_in (after_booking books e u n) f t ≡ amount_in books f t +ℤ n)
      ⊎ (amount_in (after_booking books e u n) f t ≡ amount_in books f t)
  amount-after_booking f t =
      elim (cases_account (f, t) (e, u)) [
        | inl same ↦
            inl (ap (λ (a : Account). amount_in (after_booking books e u n) a.0 a.1) same ∙ its_amount books e u (amount_in books e u +ℤ n) ∙ ap (λ (a : Account). amount_in books a.0 a.1 +ℤ n) (sym same))
        | inr apart ↦ inr (other_amount books e u (amount_in books e u +ℤ n) f t apart)
      ]

-- ---- books with nothing in them

pub amount-no_amounts : (things : ℕ) (e : BooksEntry) (t : Thing) → amount_in (no_amounts things) e t ≡ pos 0
amount-no_amounts things e t = ap (λ o. unwrap_or o (pos 0)) (get-empty {X = ℤ} account_cmp (e, t))

none_booked : (books : BooksValue) (t : Thing) → ((e : BooksEntry) → amount_in books e t ≡ pos 0)
    → booked books t ≡ pos 0
unfolding booked
none_booked books t none i = sum_of (map (λ e. none e i) all_entries)

pub booked-no_amounts : (things : ℕ) (t : Thing) → booked (no_amounts things) t ≡ pos 0
booked-no_amounts things t = none_booked (no_amounts things) t (λ e. amount-no_amounts things e t)

pub AreBooks-no_amounts : (things : ℕ) → AreBooks things (no_amounts things)
AreBooks-no_amounts things =
    record { count = refl; listed = λ e t amount is. none_some amount (sym (get-empty {X = ℤ} account_cmp (e, t)) ∙ is) }

-- ---- what books list

-- the books have as many things as `things`, and list only amounts of these that are not 0
module _ (things : ℕ) (books : BooksValue) (are : AreBooks things books) where
  -- the books list each account with its amount, unless the amount is 0 (`listing_of`)
  pub get-listed : (e : BooksEntry) (t : Thing) → get books.amounts (e, t) ≡ listing_of (amount_in books e t)
  get-listed e t =
      elim (get books.amounts (e, t)) as (λ o. get books.amounts (e, t) ≡ o → o ≡ listing_of (unwrap_or o (pos 0))) [
        | None ↦ λ _. refl
        | Some z ↦ λ is. ap (λ b. cond b None (Some z)) (sym (nonzero_fails_is_zero z (are.listed e t z is).1))
      ] refl

  -- a thing that the books don't have, as its number is not below `things`, has the amount 0 under each entry
  pub none_past : (e : BooksEntry) (t : Thing) → things ≤ thing_index t → amount_in books e t ≡ pos 0
  none_past e t past =
      elim (get books.amounts (e, t)) as (λ o. get books.amounts (e, t) ≡ o → unwrap_or o (pos 0) ≡ pos 0) [
        | None ↦ λ _. refl
        | Some z ↦ λ is. let there = (are.listed e t z is).0 in absurd (omega arith)
      ] refl

  pub booked_past : (t : Thing) → things ≤ thing_index t → booked books t ≡ pos 0
  booked_past t past = none_booked books t (λ e. none_past e t past)

pub same_value : (a b : BooksValue) → a.things ≡ b.things → a.amounts ≡ b.amounts → a ≡ b
same_value a b things amounts i = record { things = things i; amounts = amounts i }

-- books of the same number of things, with the same amount of each thing under each entry, are equal, if both list only
-- amounts of their things that aren't 0 (`AreBooks`)
pub same_books : (things : ℕ) (a b : BooksValue) → AreBooks things a → AreBooks things b
    → ((e : BooksEntry) (t : Thing) → amount_in a e t ≡ amount_in b e t) → a ≡ b
same_books things a b are also same =
    same_value a b (are.count ∙ sym also.count) (same_map account_total account_same a.amounts b.amounts (λ c.
    get-listed things a are c.0 c.1 ∙ ap listing_of (same c.0 c.1) ∙ sym (get-listed things b also c.0 c.1)))

-- ---- how great the amounts are

-- for `IsWithin-after_booking`: z is an amount that a booking raises by n to y
raised_amount_is_within : (z y : ℤ) (bound n more : ℕ) → y ≡ z +ℤ pos n → IsWithin bound z → bound + n ≤ more
    → IsWithin more y
raised_amount_is_within z y bound n more e h l =
    record { most = omega (arith, ints, h.most); least = omega (arith, ints, h.least) }

-- for `IsWithin-after_booking`: z is an amount that a booking leaves as it is
unchanged_amount_is_within : (z y : ℤ) (bound n more : ℕ) → y ≡ z → IsWithin bound z → bound + n ≤ more
    → IsWithin more y
unchanged_amount_is_within z y bound n more e h l =
    record { most = omega (arith, ints, h.most); least = omega (arith, ints, h.least) }

-- If all amounts are from -bound to bound, and `more` is at least bound + n, then all are from -more to more once n is
-- booked. Here n isn't negative.
pub IsWithin-after_booking : (books : BooksValue) (e : BooksEntry) (u : Thing) (n bound more : ℕ)
    → ((f : BooksEntry) (t : Thing) → IsWithin bound (amount_in books f t)) → bound + n ≤ more
    → (f : BooksEntry) (t : Thing)
    → IsWithin more (amount_in (after_booking books e u (pos n)) f t)
IsWithin-after_booking books e u n bound more old l f t =
    elim (amount-after_booking books e u (pos n) f t) [
      | inl is ↦ raised_amount_is_within _ _ bound n more is (old f t) l
      | inr is ↦ unchanged_amount_is_within _ _ bound n more is (old f t) l
    ]

-- an amount from -bound to bound, with a bound of at most 4 * 10^18, is from -2^62 - 1 to 2^62 (`LeavesRoomForJoining`)
pub LeavesRoomForJoining-within : (z : ℤ) (bound : ℕ) → IsWithin bound z → bound ≤ 4000000000000000000
    → LeavesRoomForJoining z
LeavesRoomForJoining-within z bound h l = (omega (arith, ints, h.most), omega (arith, ints, h.least))
