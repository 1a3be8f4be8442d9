-- Laws of accounts, each an entry with a thing: those with equal numbers are equal, and account_cmp is a total order.
-- `eq_by_cmp account_cmp` tests whether two accounts are equal, and i is the number of a thing.
use Rattle.std.proofs.Common.{◌≡◌, ◌≢◌, ◌+◌, ℕ, zero, suc, true, false, Some, refl, sym, ap, ◌∙◌, ◌⊎◌, inl, inr, arith}
use Rattle.std.specs.List.{slice_get}
use Rattle.std.specs.declared.cmp.Ordering.TheVariants.{Less, Equal, Greater}
use Rattle.std.specs.Ordering.{eq_by_cmp, is_eq, nat_cmp, ordering_then}
use Rattle.std.specs.Cmp.{IsTotalOrder, nat_cmp_total, on_total, then_total, tied_itself}
use Rattle.std.specs.FinMap.{IsAntisymmetric, nat_cmp-IsAntisymmetric}
use Rattle.atl_records.specs.declared.books.BooksEntry.{BooksEntry}
use Rattle.atl_records.specs.declared.books.Thing.{Thing}
use Rattle.atl_records.specs.declared.books.Thing.TheVariants.{Money, People, Item}
use Rattle.atl_records.specs.Books.{Account, account_cmp, all_entries, entry_index, thing_at, thing_index}
use Rattle.atl_records.proofs.EveryEntryLaws.{entry_there}

pub index_of_thing_at : (i : ℕ) → thing_index (thing_at i) ≡ i
index_of_thing_at zero = refl
index_of_thing_at (suc zero) = refl
index_of_thing_at (suc (suc i)) = omega arith

pub thing_at_index : (t : Thing) → thing_at (thing_index t) ≡ t
thing_at_index Money = refl
thing_at_index People = refl
thing_at_index (Item i) = item_at (2 + i) i (omega arith)
  where
    item_at : (n i : ℕ) → n ≡ suc (suc i) → thing_at n ≡ Item i
    item_at n i is = ap thing_at is

pub same_thing : (t u : Thing) → thing_index t ≡ thing_index u → t ≡ u
same_thing t u h = sym (thing_at_index t) ∙ ap thing_at h ∙ thing_at_index u

same_some_entry : (d e : BooksEntry) → Some d ≡ Some e → d ≡ e
same_some_entry d e h = cc

pub same_entry : (d e : BooksEntry) → entry_index d ≡ entry_index e → d ≡ e
same_entry d e h = same_some_entry d e (sym (entry_there d) ∙ ap (slice_get all_entries) h ∙ entry_there e)

pub same_account : (e f : BooksEntry) (t u : Thing) → entry_index e ≡ entry_index f → thing_index t ≡ thing_index u
    → ◌≡◌ {A = Account} (e, t) (f, u)
same_account e f t u entries things i = (same_entry e f entries i, same_thing t u things i)

-- ---- the order of accounts

pub account_total : IsTotalOrder account_cmp
account_total =
    then_total (on_total (λ (a : Account). entry_index a.0) nat_cmp_total)
    (on_total (λ (a : Account). thing_index a.1) nat_cmp_total)

less_is_not_equal : {P : Type 0} → Less ≡ Equal → P
less_is_not_equal e = cc

greater_is_not_equal : {P : Type 0} → Greater ≡ Equal → P
greater_is_not_equal e = cc

-- accounts that account_cmp finds equal are equal
pub account_same : IsAntisymmetric account_cmp
account_same a b is =
    elim (nat_cmp (entry_index a.0) (entry_index b.0)) as (λ o. nat_cmp (entry_index a.0) (entry_index b.0) ≡ o → ordering_then o (nat_cmp (thing_index a.1) (thing_index b.1)) ≡ Equal → a ≡ b) [
      | Less ↦ λ _ e. less_is_not_equal e
      | Equal ↦ λ o e. same_account a.0 b.0 a.1 b.1 (nat_cmp-IsAntisymmetric (entry_index a.0) (entry_index b.0) o) (nat_cmp-IsAntisymmetric (thing_index a.1) (thing_index b.1) e)
      | Greater ↦ λ _ e. greater_is_not_equal e
    ] refl is

pub cases_account : (a b : Account) → (a ≡ b) ⊎ (eq_by_cmp account_cmp a b ≡ false)
cases_account a b =
    elim (account_cmp a b) as (λ o. account_cmp a b ≡ o → (a ≡ b) ⊎ (is_eq o ≡ false)) [
      | Less ↦ λ _. inr refl
      | Equal ↦ λ e. inl (account_same a b e)
      | Greater ↦ λ _. inr refl
    ] refl

pub account_itself : (a : Account) → eq_by_cmp account_cmp a a ≡ true
account_itself a = ap is_eq (tied_itself account_total a)

pub apart_entries : (a b : Account) → entry_index a.0 ≢ entry_index b.0 → eq_by_cmp account_cmp a b ≡ false
apart_entries a b h =
    elim (cases_account a b) [ inl same ↦ absurd (h (ap (λ (c : Account). entry_index c.0) same)) | inr apart ↦ apart ]

pub apart_things : (a b : Account) → thing_index a.1 ≢ thing_index b.1 → eq_by_cmp account_cmp a b ≡ false
apart_things a b h =
    elim (cases_account a b) [ inl same ↦ absurd (h (ap (λ (c : Account). thing_index c.1) same)) | inr apart ↦ apart ]
