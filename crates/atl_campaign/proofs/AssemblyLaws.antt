-- Laws of assembling a campaign from rows in range: their numbers are read as themselves, and items are within limits.
-- z is a number in a row, and `as_u32 z` what is read of it; n is a unit's number. The table `has` has items (sort 0)
-- and days of study (sort 1) of units. The last two laws are on texts, and on a test that all rows pass.
use Rattle.std.proofs.Common.{◌≡◌, ◌==◌, ℕ, zero, suc, ◌≤◌, ◌<◌, ◌&&◌, List, [], ◌∷◌, Bool, true, false, cond, filter, length, get_or, Some, None, nat_le, refl, sym, ap, subst, ◌∙◌, arith, inl, inr}
use Rattle.std.specs.Prelude.{ℤ, pos, negsuc, min, Result, Ok, Err, IfOk, IsUtf8}
use Rattle.std.specs.List.{list_all}
use Rattle.std.specs.Ordering.{nat_cmp}
use Rattle.std.specs.FinMap.{FinMap, get, insert, empty, get-empty}
use Rattle.std.proofs.lemmas.Bool.{cases_eq, and_parts, false≢true}
use Rattle.std.proofs.lemmas.Bool.Decides.{nat_tests}
use Rattle.std.proofs.lemmas.Option.{same_Some}
use Rattle.atl_rows.specs.declared.parts.StoredHas.{StoredHas}
use Rattle.atl_campaign.specs.FromRows.{as_u32, is_of_unit_and_sort, put_rows, things_had}
use Rattle.atl_records.specs.Holdings.{AreAmounts}
use Rattle.atl_records.specs.Limits.{holding_limit, most_u32}
use Rattle.atl_campaign.specs.RowRules.{is_from, has_in_range}
use Rattle.atl_world.proofs.GeneralLaws.{is_equal}
use Rattle.atl_world.proofs.TrackLaws.{get_inserted}
use Rattle.atl_world.proofs.SetLaws.{or_without_first_is_second}
use Rattle.atl_world.proofs.EveryLaws.{get-insert_other}

-- a row that passes `test` puts the amount that `amount` reads from it into a map, under the number that `thing` reads
module _ {R : Type 0} (thing amount : R → ℕ) (test : R → Bool) where
  -- putting the rows of r ∷ rows that pass a test into a map puts in r first, if r passes (b), and then the rows of
  -- `rows` that pass
  pub taken_or_not : (r : R) (rows : List R) (b : Bool) (m : FinMap nat_cmp ℕ) → test r ≡ b
      → put_rows thing amount (filter test (r ∷ rows)) m
      ≡ put_rows thing amount (filter test rows) (cond b (insert m (thing r) (amount r)) m)
  taken_or_not r rows true m h = ap (λ b. put_rows thing amount (cond b (r ∷ filter test rows) (filter test rows)) m) h
  taken_or_not r rows false m h = ap (λ b. put_rows thing amount (cond b (r ∷ filter test rows) (filter test rows)) m) h

-- ---- rows in their ranges

pub min_small : (n most : ℕ) → n ≤ most → min n most ≡ n
min_small n most h = grind arith

-- a row's number from low to high, where high is at most most_u32, is read as itself, so what is read is from low to
-- high too
pub from_range : (low high : ℕ) (z : ℤ) → high ≤ most_u32 → is_from low high z ≡ true
    → (z ≡ pos (as_u32 z)) × (low ≤ as_u32 z) × (as_u32 z ≤ high)
from_range low high (pos n) h e =
    let parts = and_parts (nat_le low n) (nat_le n high) e in
    let least : low ≤ n = grind (arith, nat_tests, parts.0) in
    let most : n ≤ high = grind (arith, nat_tests, parts.1) in
    let same = min_small n most_u32 (omega arith) in
    (ap pos (sym same), rw same least, rw same most)
from_range low high (negsuc n) h e = absurd (false≢true e)

-- the number, as it is read, of the item or skill that a row of `has` is of; `amount_of` is its amount, as it is read
abbrev pub thing_of : StoredHas → ℕ
thing_of r = as_u32 r.thing

abbrev pub amount_of : StoredHas → ℕ
amount_of r = as_u32 r.amount

not_skill : (z : ℤ) → as_u32 z ≡ 0 → is_from 1 1 z ≡ false
not_skill (pos zero) h = refl
not_skill (pos (suc n)) h = absurd (grind arith)
not_skill (negsuc n) h = refl

-- a row of `has` for an item, if it is in range, has an amount from 1 to holding_limit
pub item_amount : (r : StoredHas) → has_in_range r ≡ true → as_u32 r.sort ≡ 0
    → (1 ≤ amount_of r) × (amount_of r ≤ holding_limit)
item_amount r h sort =
    let item = or_without_first_is_second (is_from 1 1 r.sort) (is_from 0 0 r.sort && is_from 1 holding_limit r.amount) (not_skill r.sort sort) h in
    let range = from_range 1 holding_limit r.amount (omega arith) (and_parts (is_from 0 0 r.sort) (is_from 1 holding_limit r.amount) item).1 in
    (range.1, range.2)

amount_in_range : (n : ℕ) (r : StoredHas) → has_in_range r ≡ true → is_of_unit_and_sort n 0 r ≡ true
    → (1 ≤ amount_of r) × (amount_of r ≤ holding_limit)
amount_in_range n r h of =
    item_amount r h (is_equal (as_u32 r.sort) 0 (and_parts (as_u32 r.unit == n) (as_u32 r.sort == 0) of).1)

AreAmounts-insert : (m : FinMap nat_cmp ℕ) (k v : ℕ) → (1 ≤ v) × (v ≤ holding_limit) → AreAmounts m
    → AreAmounts (insert m k v)
AreAmounts-insert m k v h old item amount e =
    elim (cases_eq item k) [
      | inl same ↦
          let is = same_Some v amount (sym (ap (get (insert m k v)) same ∙ get_inserted m k v) ∙ e) in
          (omega (arith, is, h.0), omega (arith, is, h.1))
      | inr apart ↦ old item amount (sym (get-insert_other m k item v apart) ∙ e)
    ]

-- for put_in_range: a map's amounts stay from 1 to holding_limit (AreAmounts), whether row r is put in or not. Row r is
-- in range, and is put in if it is of unit n's items (b).
amounts_stay_in_range : (n : ℕ) (r : StoredHas) (m : FinMap nat_cmp ℕ) (b : Bool) → is_of_unit_and_sort n 0 r ≡ b
    → has_in_range r ≡ true → AreAmounts m → AreAmounts (cond b (insert m (thing_of r) (amount_of r)) m)
amounts_stay_in_range n r m true of h old =
    AreAmounts-insert m (thing_of r) (amount_of r) (amount_in_range n r h of) old
amounts_stay_in_range n r m false of h old = old

put_in_range : (n : ℕ) (rows : List StoredHas) (m : FinMap nat_cmp ℕ) → list_all has_in_range rows ≡ true → AreAmounts m
    → AreAmounts (put_rows thing_of amount_of (filter (is_of_unit_and_sort n 0) rows) m)
put_in_range n [] m h old = old
put_in_range n (r ∷ rows) m h old =
    let parts = and_parts (has_in_range r) (list_all has_in_range rows) h in
    subst AreAmounts (sym (taken_or_not thing_of amount_of (is_of_unit_and_sort n 0) r rows (is_of_unit_and_sort n 0 r) m refl)) (put_in_range n rows (cond (is_of_unit_and_sort n 0 r) (insert m (thing_of r) (amount_of r)) m) parts.1 (amounts_stay_in_range n r m (is_of_unit_and_sort n 0 r) refl parts.0 old))

no_some : (x : ℕ) → None ≡ Some x → ⊥
no_some x e = cc

-- the empty map lists no item, so each amount that it lists is in range
pub none_held : (item amount : ℕ) → get (empty {X = ℕ} {R = nat_cmp}) item ≡ Some amount
    → (1 ≤ amount) × (amount ≤ holding_limit)
none_held item amount e = absurd (no_some amount (sym (get-empty nat_cmp item) ∙ e))

-- the items that rows of `has` in range give unit n have amounts from 1 to holding_limit (AreAmounts)
pub AreAmounts-had : (n : ℕ) (rows : List StoredHas) → list_all has_in_range rows ≡ true
    → AreAmounts (things_had n 0 rows)
AreAmounts-had n rows h = put_in_range n rows empty h none_held

-- an Ok result holds `bytes`, if it holds `some` whenever `some` is UTF-8, and `some` equals `bytes`, which is UTF-8
pub IfOk-text : {E : Type 0} (r : Result (List ℕ) E) (some bytes : List ℕ) → some ≡ bytes → IsUtf8 bytes
    → IfOk r (λ made. IsUtf8 some → made ≡ some) → IfOk r (λ made. made ≡ bytes)
IfOk-text (Ok made) some bytes e h f = f (subst IsUtf8 (sym e) h) ∙ e
IfOk-text (Err x) some bytes e h f = tt

-- the row r at index i, which is less than the count of rows, passes a test p that all rows pass
pub row_passes_test : {R : Type 0} (p : R → Bool) (rows : List R) (i : ℕ) (r : R) → i < length rows
    → r ≡ get_or rows i r → list_all p rows ≡ true → p r ≡ true
row_passes_test p [] i r h is all = absurd (omega arith)
row_passes_test p (x ∷ rows) zero r h is all = ap p is ∙ (and_parts (p x) (list_all p rows) all).0
row_passes_test p (x ∷ rows) (suc i) r h is all =
    row_passes_test p rows i r (omega arith) is (and_parts (p x) (list_all p rows) all).1
