-- Laws of the 16 entries of the books: each is in the list all_entries at its index, so a test that the whole list
-- passes is passed by each entry.
use Rattle.std.proofs.Common.{◌≡◌, ◌+◌, ◌<◌, ℕ, Bool, true, get_or, Some, refl, sym, ap, ◌∙◌, inl, inr, arith}
use Rattle.std.specs.List.{list_all, slice_get}
use Rattle.std.proofs.lemmas.Bool.{cases_Bool, true≢false}
use Rattle.std.proofs.lemmas.List.{get_or-map}
use Rattle.std.proofs.lemmas.List.Folds.{list_all_at}
use Rattle.std.proofs.lemmas.List.FromFn.{get_or-range_with_len}
use Rattle.std.proofs.lemmas.Option.{get_or_from_slice_get, slice_get_within}
use Rattle.atl_records.specs.Books.{all_entries, entry_index, entry_numbered}
use Rattle.atl_records.specs.Limits.{entry_count}
use Rattle.atl_records.specs.declared.books.BooksEntry.{BooksEntry}
use Rattle.atl_records.specs.declared.books.BooksEntry.TheVariants.{Founding}

pub entry_there : (e : BooksEntry) → slice_get all_entries (entry_index e) ≡ Some e
entry_there Founding = refl
entry_there _ = refl

pub numbered_entry : (e : BooksEntry) → entry_numbered (entry_index e + 1) ≡ Some e
numbered_entry Founding = refl
numbered_entry _ = refl

pub entry_small : (e : BooksEntry) → entry_index e < entry_count
entry_small e = slice_get_within all_entries (entry_index e) e (entry_there e)

pub entry_in_place : (n : ℕ) → n < entry_count → entry_index (get_or all_entries n Founding) ≡ n
entry_in_place n l =
    let index : entry_index (get_or all_entries n Founding) ≡ 0 + n = sym (get_or-map entry_index all_entries n Founding 0 l) ∙ get_or-range_with_len 0 entry_count n 0 l in
    omega (arith, index)

pub entry_at : (n : ℕ) → n < entry_count → (e : BooksEntry) × (entry_index e ≡ n)
entry_at n l = (get_or all_entries n Founding, entry_in_place n l)

pub each_entry : (test : BooksEntry → Bool) → list_all test all_entries ≡ true → (e : BooksEntry) → test e ≡ true
each_entry test all e = elim (cases_Bool (test e)) [
  | inl is ↦ is
  | inr not ↦ absurd (true≢false (sym all ∙ list_all_at test all_entries (entry_index e) e (entry_small e) (ap test (get_or_from_slice_get all_entries (entry_index e) e e (entry_there e)) ∙ not)))
]
