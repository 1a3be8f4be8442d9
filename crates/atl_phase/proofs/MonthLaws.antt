-- Laws of the readings by faction: they don't depend on the order of the mailings,
-- and the search finds a faction's mailing. `ms` lists mailings, and f is a faction. `get_or ms i d` is the mailing at
-- index i, or d past the end.
use Rattle.std.proofs.Common.{◌≡◌, ℕ, ◌+◌, ◌<◌, List, map, length, get_or, Contains, Some, None, refl, sym, ap, ◌∙◌, ⊎_elim, IsPermutation, arith}
use mathlib.Core.List.{map-map}
use Rattle.std.specs.declared.cmp.Ordering.TheVariants.{Less, Equal, Greater}
use Rattle.std.specs.Ordering.{nat_cmp, eq_by_cmp, is_eq, is_lt, ordering_index, ordering_reverse}
use Rattle.std.specs.Cmp.{nat_cmp_total, eq_by_cmp_equiv, on_total}
use Rattle.std.specs.Map.{lookup}
use Rattle.std.specs.List.Sorted.{IsNonDecreasingBy, IsPartitionPoint, IsSortedByKey}
use Rattle.std.specs.FinMap.{FinMap, find, from_entries, get, get-from_entries, nat_cmp-IsAntisymmetric}
use Rattle.std.proofs.lemmas.Bool.{cases_lt}
use Rattle.std.proofs.lemmas.List.{get_or-map, length-map}
use Rattle.std.proofs.lemmas.List.Recursion.{found_nowhere}
use Rattle.std.proofs.lemmas.List.Sorted.{IsPermutation-map, searchable_from_sorted}
use Rattle.std.proofs.lemmas.Map.Keys.{IsDistinct-from_sorted, Less-from_sorted}
use Rattle.std.proofs.lemmas.Map.Views.{lookup-from_Contains}
use Rattle.atl_orders.specs.declared.mailing.Mailing.{Mailing}
use Rattle.atl_orders.specs.Mailing.{Reading, reading_of}
use Rattle.atl_world.proofs.KeyLaws.{IsDistinct-map, IsDistinct-of_map}
use Rattle.atl_phase.specs.Month.{HaveOwnFactions, HaveNoOrder, by_faction}
use Rattle.atl_phase.specs.OrderIndices.{AreByFaction, no_mailing}
use Rattle.atl_phase.proofs.MapOfListLaws.{find_is, from_entries-permutation, sorted_strictly}

-- the pair of a mailing's faction, which is its key in a map, and its reading
abbrev pub under_faction : Mailing → ℕ × Reading
under_faction m = (m.faction, reading_of m)

-- the map of readings by faction is the map made of the pairs of `under_faction`
pub by_faction_is : (ms : List Mailing) → by_faction (map reading_of ms) ≡ from_entries (map under_faction ms)
by_faction_is ms = ap from_entries (map-map (λ (r : Reading). (r.faction, r)) reading_of ms)

-- mailings of different factions, listed in another order, give the same map of readings (`HaveNoOrder`)
pub mailings_have_no_order : HaveNoOrder
mailings_have_no_order ms ns apart p =
    let differ = IsDistinct-of_map (λ (m : Mailing). m.faction) (eq_by_cmp nat_cmp) ms apart in
    by_faction_is ms
    ∙ from_entries-permutation nat_cmp_total nat_cmp-IsAntisymmetric (map under_faction ms) (map under_faction ns) (IsPermutation-map under_faction ms ns p) (IsDistinct-map under_faction (λ e f. eq_by_cmp nat_cmp e.0 f.0) ms differ)
    ∙ sym (by_faction_is ns)

-- mailings of different factions (`ms`), once sorted by faction into `ns`, are strictly sorted by it (`AreByFaction`)
pub sorted_by_faction : (ms ns : List Mailing) → HaveOwnFactions ms → IsPermutation ms ns
    → IsSortedByKey (λ m. m.faction) nat_cmp ns → AreByFaction ns
sorted_by_faction ms ns apart p =
    sorted_strictly (on_total (λ (m : Mailing). m.faction) nat_cmp_total) ms ns p
    (IsDistinct-of_map (λ (m : Mailing). m.faction) (eq_by_cmp nat_cmp) ms apart)

-- where the mailings are strictly sorted by faction, and the one at index i is of faction f, the map of readings has
-- what was read of it under f
pub found_at : (ms : List Mailing) (f i : ℕ) (d : Mailing) → AreByFaction ms → i < length ms
    → nat_cmp (get_or ms i d).faction f ≡ Equal
    → get (by_faction (map reading_of ms)) f ≡ Some (reading_of (get_or ms i d))
found_at ms f i d rise h tie =
    let m = get_or ms i d in
    let es = map under_faction ms in
    let long : length es ≡ length ms = length-map ms under_faction in
    let there : Contains es (under_faction m) = (i, omega arith, get_or-map under_faction ms i d (under_faction m) h) in
    let apart = IsDistinct-map under_faction (λ e f. eq_by_cmp nat_cmp e.0 f.0) ms (IsDistinct-from_sorted (λ (a b : Mailing). nat_cmp a.faction b.faction) ms rise) in
    ap (λ (c : FinMap nat_cmp Reading). get c f) (by_faction_is ms) ∙ get-from_entries nat_cmp_total es f
    ∙ find_is nat_cmp_total nat_cmp-IsAntisymmetric f es
    ∙ ap (λ k. lookup (eq_by_cmp nat_cmp k) es) (sym (nat_cmp-IsAntisymmetric m.faction f tie))
    ∙ lookup-from_Contains (eq_by_cmp_equiv nat_cmp_total) m.faction (reading_of m) es (IsDistinct-map (λ (e : ℕ × Reading). e.0) (eq_by_cmp nat_cmp) es apart) there

-- the map has no reading of faction f, if all mailings before index i are of lesser factions, and the others of greater
-- ones
pub no_reading_found : (ms : List Mailing) (f i : ℕ)
    → IsPartitionPoint (λ m. nat_cmp m.faction f ≡ Less) (λ m. nat_cmp m.faction f ≡ Greater) ms i
    → get (by_faction (map reading_of ms)) f ≡ None
no_reading_found ms f i h =
    ap (λ (c : FinMap nat_cmp Reading). get c f) (by_faction_is ms)
    ∙ get-from_entries nat_cmp_total (map under_faction ms) f
    ∙ found_nowhere (λ ns. find nat_cmp f (map under_faction ns)) (λ m. eq_by_cmp nat_cmp f m.faction) (λ m. Some (reading_of m)) None refl (λ m ns. refl) ms no_mailing (λ k l.
    (eq_by_cmp_equiv nat_cmp_total).symm f (get_or ms k no_mailing).faction
    ∙ ⊎_elim (λ b. ap is_eq (h.0 k no_mailing (omega arith) b)) (λ b. ap is_eq (h.1 k no_mailing b l)) (cases_lt k i))

-- mailings sorted by faction can be searched for faction f: first come those of lesser factions, then that of f, then
-- those of greater ones
pub mailings_are_searchable : (ms : List Mailing) (f : ℕ) → AreByFaction ms
    → IsNonDecreasingBy (λ m. ordering_index (nat_cmp m.faction f)) ms
mailings_are_searchable ms f rise = searchable_from_sorted nat_cmp_total (λ m. m.faction) ms f (λ k d low h.
    ap is_lt (nat_cmp_total.antisymm (get_or ms (k + 1) d).faction (get_or ms k d).faction)
    ∙ ap (λ r. is_lt (ordering_reverse r)) (Less-from_sorted (λ (a b : Mailing). nat_cmp a.faction b.faction) ms k (k + 1) d rise (omega arith) h))
