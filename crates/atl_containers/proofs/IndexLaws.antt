-- Laws of the index: a list of entries (number and slot), sorted by number, is a map from numbers to slots. `ps` are an
-- index's entries, n is a number, k a slot, i an index, d any entry, and r what a binary search returns, in range.
use Rattle.std.proofs.Common.{◌≡◌, ℕ, zero, suc, ◌+◌, ◌-◌, ◌<◌, ◌⊎◌, inl, inr, Bool, true, false, cond, not, ◌&&◌, List, [], ◌∷◌, length, map, get_or, Option, Some, None, refl, sym, ap, ◌∙◌, arith}
use Rattle.std.specs.Prelude.{Result, Ok, Err, IfOk, IfErr, is_some}
use Rattle.std.specs.List.{list_any, insert, remove, slice_get}
use Rattle.std.specs.List.Sorted.{IsStrictlySortedBy, IsBinarySearchResult, IsSearchInRange, IsNonDecreasingBy}
use Rattle.std.specs.declared.cmp.Ordering.TheVariants.{Less, Greater}
use Rattle.std.specs.Ordering.{nat_cmp, eq_by_cmp, is_lt, ordering_index, ordering_reverse}
use Rattle.std.specs.Cmp.{nat_cmp_total, ranked}
use Rattle.std.specs.Map.{keys_of}
use Rattle.std.specs.FinMap as finmap
use Rattle.std.specs.FinMap.{from_entries, find, nat_cmp-IsAntisymmetric}
use Rattle.std.specs.FinMap.Entries.{is_some-find}
use Rattle.std.specs.FinSet as set
use Rattle.std.proofs.lemmas.Bool.{false≢true, cases_order}
use Rattle.std.proofs.lemmas.List.{length-map, get_or-map, get_or_default}
use Rattle.std.proofs.lemmas.List.Sorted.{searchable_from_sorted}
use Rattle.std.proofs.lemmas.Map.Keys.{Less-from_sorted}
use Rattle.std.proofs.lemmas.Option.{get_or_from_slice_get, slice_get_within}
use Rattle.atl_world.specs.SortedNumbers.{IsAt, BelongsAt}
use Rattle.atl_world.proofs.GeneralLaws.{key_itself, same_key}
use Rattle.atl_world.proofs.SortedListLaws.{sorted-empty, sorted-insert, sorted-remove, contains-belongs, from_list-remove}
use Rattle.atl_world.proofs.Maps.{entries_of, len_of}
use Rattle.atl_world.proofs.SumLaws.{remove_undoes_insert}
use Rattle.atl_world.proofs.TrackLaws.{get_inserted, remove_none}
use Rattle.atl_containers.specs.declared.index.IndexEntry.{IndexEntry}
use Rattle.atl_containers.specs.Index.{index_numbers, slots_of}

-- Some is never None: from their equality anything follows
pub some_none : {X : Type 0} (x : X) {P : Type 0} → Some x ≡ None → P
some_none x e = cc

-- the numbers of the index entries rise strictly
abbrev IsSortedIndex : List IndexEntry → Type 0
IsSortedIndex ps = IsStrictlySortedBy nat_cmp (index_numbers ps)

-- the map from numbers to slots that the index entries stand for
abbrev pub as_map : List IndexEntry → finmap.FinMap nat_cmp ℕ
as_map ps = from_entries (slots_of ps)

-- ---- lists with one more, and one less
module _ {X : Type 0} where
  put_back : (xs : List X) (i : ℕ) (d : X) → i < length xs → insert (remove xs i) i (get_or xs i d) ≡ xs
  put_back [] i d l = absurd (omega (arith, l))
  put_back (x ∷ xs) zero d l = refl
  put_back (x ∷ xs) (suc i) d l = ap (λ ys. x ∷ ys) (put_back xs i d (omega (arith, l)))

-- f maps the elements of a list
module _ {X Y : Type 0} (f : X → Y) where
  map-insert : (xs : List X) (i : ℕ) (x : X) → map f (insert xs i x) ≡ insert (map f xs) i (f x)
  map-insert xs zero x = refl
  map-insert [] (suc i) x = refl
  map-insert (y ∷ xs) (suc i) x = ap (λ ys. f y ∷ ys) (map-insert xs i x)

  map-remove : (xs : List X) (i : ℕ) → map f (remove xs i) ≡ remove (map f xs) i
  map-remove [] zero = refl
  map-remove [] (suc i) = refl
  map-remove (y ∷ xs) zero = refl
  map-remove (y ∷ xs) (suc i) = ap (λ ys. f y ∷ ys) (map-remove xs i)

keys_are : (ps : List IndexEntry) → keys_of (slots_of ps) ≡ index_numbers ps
keys_are [] = refl
keys_are (p ∷ ps) = ap (λ ns. p.number ∷ ns) (keys_are ps)

-- ---- an entry whose number is new, at any index of a list
module _ {X : Type 0} where
  first_apart : (b : Bool) (x : X) (o : Option X) → cond b (Some x) o ≡ None → b ≡ false
  first_apart true x o h = some_none x h
  first_apart false x o h = refl

  rest_none : (b : Bool) (x : X) (o : Option X) → cond b (Some x) o ≡ None → o ≡ None
  rest_none true x o h = some_none x h
  rest_none false x o h = h

  -- for find-insert: looking up q gives the same, whichever of two entries with different numbers n and m comes first
  turned : (q n m : ℕ) (v w o : Option X) → eq_by_cmp nat_cmp n m ≡ false
      → cond (eq_by_cmp nat_cmp q m) w (cond (eq_by_cmp nat_cmp q n) v o)
      ≡ cond (eq_by_cmp nat_cmp q n) v (cond (eq_by_cmp nat_cmp q m) w o)
  turned q n m v w o apart =
      elim (eq_by_cmp nat_cmp q n) as (λ b. eq_by_cmp nat_cmp q n ≡ b → cond (eq_by_cmp nat_cmp q m) w (cond b v o) ≡ cond b v (cond (eq_by_cmp nat_cmp q m) w o)) [
        | true ↦ λ e. ap (λ k. cond (eq_by_cmp nat_cmp k m) w v) (same_key q n e) ∙ ap (λ b. cond b w v) apart
        | false ↦ λ _. refl
      ] refl

  -- once an entry with a new number n is inserted at any index, looking up n finds its value, and looking up another
  -- number finds what it found before
  find-insert : (es : List (ℕ × X)) (i n : ℕ) (v : X) (q : ℕ) → find nat_cmp n es ≡ None
      → find nat_cmp q (insert es i (n, v)) ≡ cond (eq_by_cmp nat_cmp q n) (Some v) (find nat_cmp q es)
  find-insert es zero n v q h = refl
  find-insert [] (suc i) n v q h = refl
  find-insert (e ∷ es) (suc i) n v q h =
      ap (cond (eq_by_cmp nat_cmp q e.0) (Some e.1)) (find-insert es i n v q (rest_none _ _ _ h))
      ∙ turned q n e.0 (Some v) (Some e.1) (find nat_cmp q es) (first_apart _ _ _ h)

  from_entries-insert : (es : List (ℕ × X)) (i n : ℕ) (v : X) → finmap.get (from_entries {R = nat_cmp} es) n ≡ None
      → from_entries {R = nat_cmp} (insert es i (n, v)) ≡ finmap.insert (from_entries es) n v
  from_entries-insert es i n v h = finmap.same_map nat_cmp_total nat_cmp-IsAntisymmetric _ _ (λ q.
      finmap.get-from_entries nat_cmp_total (insert es i (n, v)) q
      ∙ find-insert es i n v q (sym (finmap.get-from_entries nat_cmp_total es n) ∙ h)
      ∙ sym (finmap.get-insert nat_cmp_total (from_entries es) n v q ∙ ap (cond (eq_by_cmp nat_cmp q n) (Some v)) (finmap.get-from_entries nat_cmp_total es q)))

-- ---- what the index has under a number

pub not_some_is_none : {X : Type 0} (o : Option X) → is_some o ≡ false → o ≡ None
not_some_is_none None h = refl
not_some_is_none (Some x) h = absurd (false≢true (sym h))

unlisted : (ps : List IndexEntry) (n : ℕ) → set.contains {R = nat_cmp} (set.from_list (index_numbers ps)) n ≡ false
    → finmap.get (as_map ps) n ≡ None
unlisted ps n h =
    finmap.get-from_entries nat_cmp_total (slots_of ps) n
    ∙ not_some_is_none _ (is_some-find nat_cmp n (slots_of ps) ∙ ap (list_any (eq_by_cmp nat_cmp n)) (keys_are ps) ∙ sym (set.contains-from_list nat_cmp_total (index_numbers ps) n) ∙ h)

-- the map of sorted index entries has nothing under a number n that belongs at an index (BelongsAt): no entry has it
pub get-belongs : (ps : List IndexEntry) (n i : ℕ) → IsSortedIndex ps → BelongsAt (index_numbers ps) n i
    → finmap.get (as_map ps) n ≡ None
get-belongs ps n i s b = unlisted ps n (contains-belongs (index_numbers ps) n i s b)

removed_is_absent : (t : set.FinSet nat_cmp) (n : ℕ) → set.contains (set.remove t n) n ≡ false
removed_is_absent t n = set.contains-remove nat_cmp_total t n n ∙ ap (λ b. not b && set.contains t n) (key_itself n)

removed_entry_is_absent : (ps : List IndexEntry) (n i : ℕ) → IsSortedIndex ps → IsAt (index_numbers ps) n i
    → finmap.get (as_map (remove ps i)) n ≡ None
removed_entry_is_absent ps n i s h =
    unlisted (remove ps i) n (ap (λ ns. set.contains {R = nat_cmp} (set.from_list ns) n) (map-remove (λ (p : IndexEntry). p.number) ps i) ∙ ap (λ t. set.contains t n) (from_list-remove (index_numbers ps) n i s h) ∙ removed_is_absent (set.from_list (index_numbers ps)) n)

index_is_within : (ps : List IndexEntry) (n i : ℕ) → IsAt (index_numbers ps) n i → i < length ps
index_is_within ps n i h = let size = length-map ps (λ (p : IndexEntry). p.number) in let l = h.within in omega (arith, size, l)

number_at_index : (ps : List IndexEntry) (n i : ℕ) (d : IndexEntry) → IsAt (index_numbers ps) n i
    → (get_or ps i d).number ≡ n
number_at_index ps n i d h =
    sym (get_or-map (λ (p : IndexEntry). p.number) ps i d d.number (index_is_within ps n i h))
    ∙ get_or_default (index_numbers ps) i d.number 0 h.within ∙ h.number_there

put_again : (ps : List IndexEntry) (n i : ℕ) (d : IndexEntry) → IsSortedIndex ps → IsAt (index_numbers ps) n i
    → as_map ps ≡ finmap.insert (as_map (remove ps i)) n (get_or ps i d).slot
put_again ps n i d s h =
    let p = get_or ps i d in
    sym (ap as_map (put_back ps i d (index_is_within ps n i h)))
    ∙ ap from_entries (map-insert (λ (p : IndexEntry). (p.number, p.slot)) (remove ps i) i p)
    ∙ ap (λ k. from_entries (insert (slots_of (remove ps i)) i (k, p.slot))) (number_at_index ps n i d h)
    ∙ from_entries-insert (slots_of (remove ps i)) i n p.slot (removed_entry_is_absent ps n i s h)

-- the map of sorted index entries has under number n the slot of the entry with this number, which is at index i
pub get-at_index : (ps : List IndexEntry) (n i : ℕ) (d : IndexEntry) → IsSortedIndex ps → IsAt (index_numbers ps) n i
    → finmap.get (as_map ps) n ≡ Some (get_or ps i d).slot
get-at_index ps n i d s h =
    ap (λ m. finmap.get m n) (put_again ps n i d s h) ∙ get_inserted (as_map (remove ps i)) n (get_or ps i d).slot

-- ---- an entry that is inserted

-- an entry inserted into sorted index entries where its number belongs adds the number with its slot to the map
pub map-added : (ps : List IndexEntry) (n i k : ℕ) → IsSortedIndex ps → BelongsAt (index_numbers ps) n i
    → as_map (insert ps i (record { number = n; slot = k })) ≡ finmap.insert (as_map ps) n k
map-added ps n i k s b =
    ap from_entries (map-insert (λ (p : IndexEntry). (p.number, p.slot)) ps i (record { number = n; slot = k })) ∙ from_entries-insert (slots_of ps) i n k (get-belongs ps n i s b)

-- sorted index entries stay sorted when an entry is inserted where its number belongs
pub sorted-added : (ps : List IndexEntry) (n i k : ℕ) → IsSortedIndex ps → BelongsAt (index_numbers ps) n i
    → IsSortedIndex (insert ps i (record { number = n; slot = k }))
sorted-added ps n i k s b =
    rw (map-insert (λ (p : IndexEntry). p.number) ps i (record { number = n; slot = k }))
    (sorted-insert (index_numbers ps) n i s b)

-- ---- an entry that is removed

-- removing the entry of number n from sorted index entries removes n from the map
pub map-without : (ps : List IndexEntry) (n i : ℕ) → IsSortedIndex ps → IsAt (index_numbers ps) n i
    → as_map (remove ps i) ≡ finmap.remove (as_map ps) n
map-without ps n i s h =
    let d : IndexEntry = record { number = 0; slot = 0 } in
    sym (ap (λ m. finmap.remove m n) (put_again ps n i d s h) ∙ remove_undoes_insert (as_map (remove ps i)) n (get_or ps i d).slot (removed_entry_is_absent ps n i s h))

-- sorted index entries stay sorted when the entry of number n is removed
pub sorted-without : (ps : List IndexEntry) (n i : ℕ) → IsSortedIndex ps → IsAt (index_numbers ps) n i
    → IsSortedIndex (remove ps i)
sorted-without ps n i s h =
    rw (map-remove (λ (p : IndexEntry). p.number) ps i) (sorted-remove (index_numbers ps) i s h.within)

-- where number n belongs at an index of sorted index entries, so that none has it, removing n leaves the map as it is
pub map-missing : (ps : List IndexEntry) (n i : ℕ) → IsSortedIndex ps → BelongsAt (index_numbers ps) n i
    → as_map ps ≡ finmap.remove (as_map ps) n
map-missing ps n i s b = sym (remove_none (as_map ps) n (get-belongs ps n i s b))

pub sorted-none : IsSortedIndex []
sorted-none = sorted-empty

-- the entries of the map that sorted index entries stand for are these index entries, as pairs of number and slot
pub entries-index : (ps : List IndexEntry) → IsSortedIndex ps → finmap.entries (as_map ps) ≡ slots_of ps
entries-index ps s = entries_of (slots_of ps) (rw (keys_are ps) s)

pub len-index : (ps : List IndexEntry) → IsSortedIndex ps → finmap.len (as_map ps) ≡ length ps
len-index ps s = len_of (slots_of ps) (rw (keys_are ps) s) ∙ length-map ps (λ (p : IndexEntry). (p.number, p.slot))

-- ---- the index that a search gives: of a number, or where it belongs

-- what a binary search by number finds (Ok), an index within the list, is the index of the entry with number n
pub found-by_search : (ps : List IndexEntry) (n : ℕ) (r : Result ℕ ℕ) → IsSearchInRange r (length ps)
    → IsBinarySearchResult (λ p. nat_cmp p.number n) ps r → IfOk r (λ i. IsAt (index_numbers ps) n i)
found-by_search ps n (Ok i) l h =
    let d : IndexEntry = record { number = 0; slot = 0 } in
    let size = length-map ps (λ (p : IndexEntry). p.number) in
    record {
      within = omega (arith, size, l);
      number_there = get_or-map (λ (p : IndexEntry). p.number) ps i d 0 l ∙ nat_cmp-IsAntisymmetric (get_or ps i d).number n (h d);
    }
found-by_search ps n (Err i) l h = tt

-- sorted index entries have first the numbers below n, then n, then those above it, as the binary search requires
searchable : (ps : List IndexEntry) (n : ℕ) → IsSortedIndex ps
    → IsNonDecreasingBy (λ (p : IndexEntry). ordering_index (nat_cmp p.number n)) ps
searchable ps n s = searchable_from_sorted nat_cmp_total (λ (p : IndexEntry). p.number) ps n (λ k d low h.
    let ns = index_numbers ps in
    let size : length ns ≡ length ps = length-map ps (λ (p : IndexEntry). p.number) in
    let at : (i : ℕ) → i < length ps → get_or ns i d.number ≡ (get_or ps i d).number = λ i l. get_or-map (λ (p : IndexEntry). p.number) ps i d d.number l in
    let up = Less-from_sorted nat_cmp ns k (k + 1) d.number s (omega arith) (omega arith) in
    ap is_lt (λ i. nat_cmp (sym (at (k + 1) h) i) (sym (at k (omega arith)) i)) ∙ ap is_lt (nat_cmp_total.antisymm (get_or ns (k + 1) d.number) (get_or ns k d.number)) ∙ ap (λ r. is_lt (ordering_reverse r)) up)

-- where a binary search in sorted index entries finds none with number n, it gives the index where n belongs (Err)
pub missing-by_search : (ps : List IndexEntry) (n : ℕ) (r : Result ℕ ℕ) → IsSortedIndex ps
    → IsSearchInRange r (length ps) → IsBinarySearchResult (λ p. nat_cmp p.number n) ps r
    → IfErr r (λ i. BelongsAt (index_numbers ps) n i)
missing-by_search ps n (Ok i) s l h = tt
missing-by_search ps n (Err i) s l h =
    let d : IndexEntry = record { number = 0; slot = 0 } in
    let size = length-map ps (λ (p : IndexEntry). p.number) in
    let parts = h (searchable ps n s) in
    let at : (k : ℕ) → k < length ps → get_or (index_numbers ps) k 0 ≡ (get_or ps k d).number = λ k m. get_or-map (λ (p : IndexEntry). p.number) ps k d 0 m in
    record {
      within = omega (arith, size, l);
      before = λ k m. let less = ranked (get_or ps k d).number n Less (sym (parts.0 k d (omega arith) m)) in let same = at k (omega (arith, m, l)) in omega (arith, less, same);
      after = λ k m w. let more = ranked (get_or ps k d).number n Greater (sym (parts.1 k d m (omega (arith, w, size)))) in let same = at k (omega (arith, w, size)) in omega (arith, more, same);
    }

-- a number above that of the last of sorted index entries belongs at the end
pub BelongsAt-above : (ps : List IndexEntry) (p : IndexEntry) (n : ℕ) → IsSortedIndex ps
    → slice_get ps (length ps - 1) ≡ Some p → p.number < n → BelongsAt (index_numbers ps) n (length ps)
BelongsAt-above ps p n s is above =
    record {
      within = omega (arith, size);
      before = λ k m. by_order k (cases_order k last) m;
      after = λ k m w. absurd (omega (arith, size, m, w));
    }
  where
    ns : List ℕ
    ns = index_numbers ps

    size : length ns ≡ length ps
    size = length-map ps (λ (p : IndexEntry). p.number)

    last : ℕ
    last = length ps - 1

    some : last < length ps
    some = slice_get_within ps last p is

    end : get_or ns last 0 ≡ p.number
    end =
        get_or-map (λ (p : IndexEntry). p.number) ps last p 0 some
        ∙ ap (λ (q : IndexEntry). q.number) (get_or_from_slice_get ps last p p is)

    by_order : (k : ℕ) → (k ≡ last) ⊎ ((k < last) ⊎ (last < k)) → k < length ps → get_or ns k 0 < n
    by_order k (inl e) m = let same : get_or ns k 0 ≡ p.number = ap (λ i. get_or ns i 0) e ∙ end in omega (arith, same, above)
    by_order k (inr (inl before)) m =
        let less = ranked (get_or ns k 0) (get_or ns last 0) Less (sym (Less-from_sorted nat_cmp ns k last 0 s before (omega (arith, size, some)))) in
        omega (arith, less, end, above)
    by_order k (inr (inr after)) m = absurd (omega (arith, after, m))
